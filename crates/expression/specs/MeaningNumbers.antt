-- Numbers of sets: a set's number is its place in the list, from 0.
use Rattle.std.specs.Prelude.{List, [], ◌∷◌, cond, ℕ}
use Rattle.std.proofs.Math.Option.{Option, none, some}
use Rattle.std.proofs.Math.ListN.{get_elem?}
use Rattle.refusal.specs.MeaningAnswer.{Answer, done, refused}
use Rattle.complex_entity.specs.MeaningParts.{Part, moved}
use Rattle.complex_entity.specs.MeaningLists.{equal}

unfoldable pub place_in : List Part → Part → Option ℕ
place_in [] q = none
place_in (p ∷ L) q = cond (equal q p) (some 0) (moved (place_in L q))

-- "17: number not under the count, or set not in the list"
abbrev pub or17 : {A : Type 0} → Option A → Answer A
or17 none = refused 17 0
or17 (some a) = done a

-- row to number, number to row
unfoldable pub number_of : List Part → Part → Answer ℕ
number_of L q = or17 (place_in L q)

unfoldable pub set_at : List Part → ℕ → Answer Part
set_at L i = or17 (get_elem? L i)
