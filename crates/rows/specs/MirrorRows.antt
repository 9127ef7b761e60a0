-- Lists of parts as rows at the front of a lent slice.
use Rattle.std.specs.Prelude.{◌≡◌, List, [], ◌∷◌, ◌++◌, ℕ, zero, suc, ◌*◌, ◌≤◌, length, take, drop}
use Rattle.complex_entity.specs.MeaningRising.{Rising}
use Rattle.complex_entity.specs.MeaningParts.{Part, order}
use Rattle.complex_entity.specs.MeaningRows.{flat}
use Rattle.complex_entity.specs.MirrorParts.{part_at}

-- the parts of the n rows that a list of numbers begins with
unfoldable pub parts_at : ℕ → List ℕ → List Part
parts_at zero l = []
parts_at (suc n) l = part_at l ∷ parts_at n (drop 13 l)

-- a list, sorted without repeats, stands at the front of a slice that has room for 128 rows
pub record Stands (rows : List ℕ) (count : ℕ) : Type 0 where
  pub small : count ≤ 128
  pub room : 1664 ≤ length rows
  pub clean : take (13 * count) rows ≡ flat (parts_at count rows)
  pub ordered : Rising order (parts_at count rows)

-- the rows of L stand at the front, and past them is what was there
abbrev pub Put : List Part → List ℕ → List ℕ → Type 0
Put L before after = after ≡ flat L ++ drop (13 * length L) before
