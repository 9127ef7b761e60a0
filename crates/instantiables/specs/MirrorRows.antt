-- Lists of parts as rows in a lent slice: what stands there before and after.
use Rattle.std.specs.Prelude.{◌≡◌, List, [], ◌∷◌, length, drop}
use Prim.Native.Nat.{ℕ, ◌+◌, ◌*◌, compare}
use Rattle.refusal.specs.MeaningAnswer.{Answer, done, refused, mapped}
use Rattle.complex_entity.specs.MeaningRising.{◌∈◌, Rising}
use Rattle.complex_entity.specs.MeaningParts.{Part}
use Rattle.rows.specs.MirrorRows.{parts_at, Put}

-- the lists of so many rows each, one after another
unfoldable pub lists_at : List ℕ → List ℕ → List (List Part)
lists_at [] l = []
lists_at (n ∷ ns) l = parts_at n l ∷ lists_at ns (drop (13 * n) l)

unfoldable pub sum : List ℕ → ℕ
sum [] = 0
sum (n ∷ ns) = n + sum ns

-- each part of a list is a set of names
abbrev pub Sets : List Part → Type 0
Sets L = (p : Part) → p ∈ L → Rising compare p

abbrev pub AllSets : List (List Part) → Type 0
AllSets Ls = (L : List Part) → L ∈ Ls → Sets L

-- a list that is answered stands in the slice
abbrev pub PutIf : Answer (List Part) → List ℕ → List ℕ → Type 0
PutIf (done L) before after = Put L before after
PutIf (refused n place) before after = Unit {0}

-- what is answered is how many parts the list has, and the list stands in the slice
pub record Listing (o : Answer (List Part)) (before after : List ℕ) (r : Answer ℕ) : Type 0 where
  pub says : r ≡ mapped length o
  pub stands : PutIf o before after
