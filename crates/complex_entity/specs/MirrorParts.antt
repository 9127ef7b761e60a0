-- Parts as the code has them.
use Rattle.std.specs.Prelude.{◌≡◌, List, [], ◌∷◌, ◌++◌, length, get_or, take, drop, replicate, Option, Some, None, Result, IfOk}
use Prim.Native.Nat.{ℕ, ◌+◌, ◌-◌, compare, Ordering}
use Rattle.refusal.specs.declared.Refusal.{Refusal}
use Rattle.refusal.specs.MeaningAnswer.{Answer, done, or_else}
use Rattle.refusal.specs.Told.{told_by}
use Rattle.complex_entity.specs.MeaningParts.{Part, most_names, narrow}
use Rattle.complex_entity.specs.declared.PartialComplexEntity.{PartialComplexEntity}

-- the names of a part; of a count over 12 the array has the first 12
abbrev pub names_of : PartialComplexEntity → Part
names_of p = take p.n p.names

-- the part of some names: zeros stand after them
abbrev pub part_of : Part → PartialComplexEntity
part_of l = record { n = length l; names = l ++ replicate (most_names - length l) 0 }

-- the code answers a, and zeros stand after the names of a part that it makes
pub record Makes (a : Answer Part) (r : Result PartialComplexEntity Refusal) : Type 0 where
  pub told : told_by names_of r ≡ a
  pub padded : IfOk r (λ p. p ≡ part_of (names_of p))

-- a part of these names is answered, if they are not too many
abbrev pub narrowed : Part → Answer Part
narrowed p = or_else 11 (narrow p) (done p)

-- ---- two parts walked together
abbrev pub by : {A : Type 0} → Ordering → A → A → A → A
by Ordering.lt a b c = a
by Ordering.eq a b c = b
by Ordering.gt a b c = c

unfoldable pub merge : Part → Part → Part
merge [] ys = ys
merge (x ∷ xs) [] = x ∷ xs
merge (x ∷ xs) (y ∷ ys) = by (compare x y) (x ∷ merge xs (y ∷ ys)) (x ∷ merge xs ys) (y ∷ merge (x ∷ xs) ys)

-- a turn that takes a name, and where each part is read on from then
abbrev pub takes : ℕ → ℕ → ℕ → Option (ℕ × ℕ × ℕ)
takes x i j = Some (x, i, j)

-- one turn, if the parts are what is left of two from i and j on: it takes the first name of the merge
unfoldable pub turn_of : ℕ → ℕ → Part → Part → Option (ℕ × ℕ × ℕ)
turn_of i j [] [] = None
turn_of i j [] (y ∷ ys) = takes y i (j + 1)
turn_of i j (x ∷ xs) [] = takes x (i + 1) j
turn_of i j (x ∷ xs) (y ∷ ys) = by (compare x y) (takes x (i + 1) j) (takes x (i + 1) (j + 1)) (takes y i (j + 1))

-- the part of the row that a list of numbers begins with
abbrev pub part_at : List ℕ → Part
part_at l = take (get_or l 0 0) (take most_names (drop 1 l))
