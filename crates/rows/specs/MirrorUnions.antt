-- Two sorted lists walked from their last rows on, as the code compares them.
use Rattle.std.specs.Prelude.{◌≡◌, List, [], ◌∷◌, drop}
use Rattle.std.specs.declared.cmp.Ordering.{Ordering}
use Prim.Native.Nat.{ℕ, ◌-◌, ◌*◌, ◌<◌}
use Rattle.complex_entity.specs.MeaningParts.{order}
use Rattle.complex_entity.specs.MirrorParts.{by, part_at}
use Rattle.complex_entity.specs.Told.{told_order}

-- of n rows of the left list and m of the right one: the steps say how the last ones compare, as long as both lists have one; the greater is then taken, or both
unfoldable pub Compared : List ℕ → List ℕ → ℕ → ℕ → List Ordering → Type 0
Compared rows others n m [] = Unit {0}
Compared rows others n m (s ∷ ss) =
    0 < n → 0 < m
    → (told_order s ≡ order (part_at (drop (13 * (n - 1)) rows)) (part_at (drop (13 * (m - 1)) others)))
    × Compared rows others (by (told_order s) n (n - 1) (n - 1)) (by (told_order s) (m - 1) (m - 1) m) ss
