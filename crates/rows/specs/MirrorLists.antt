-- Places in a sorted list, as the code finds them.
use Rattle.std.specs.Prelude.{List, [], ◌∷◌, ℕ, ◌+◌, Result, Ok, Err}
use Rattle.complex_entity.specs.MeaningParts.{Part, order}
use Rattle.complex_entity.specs.MirrorParts.{by}

abbrev pub further : ℕ → Result ℕ ℕ → Result ℕ ℕ
further k (Ok i) = Ok (k + i)
further k (Err i) = Err (k + i)

-- where a part stands in a list, or else before which part it would go
unfoldable pub place_of : List Part → Part → Result ℕ ℕ
place_of [] p = Err 0
place_of (q ∷ L) p = by (order p q) (Err 0) (Ok 0) (further 1 (place_of L p))
