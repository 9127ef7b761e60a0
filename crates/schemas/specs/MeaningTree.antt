-- The fields of a sheet with their places: "a field's place is its tag's offset". Any bytes have a tree; what lies behind a header that passes the end is left out.
use Rattle.std.specs.Prelude.{ℕ, zero, suc, ◌+◌, ◌-◌, List, cond, leb, length}
use Rattle.sheet.specs.MeaningSheet.{tag_of, end_of, value_of}
use Rattle.forest.specs.MeaningPlaces.{nests}

-- the fields of a value: none; one with a plain value, and those after it; or one with fields, and those after it
pub data Tree : Type 0 where
  nil : Tree
  leaf : (tag place : ℕ) (value : List ℕ) (rest : Tree) → Tree
  node : (tag place : ℕ) (inner rest : Tree) → Tree

-- the field at `at` of a value that ends at e, and those after it, where go reads the fields between two places
unfoldable pub grow : (ℕ → ℕ → Tree) → List ℕ → ℕ → ℕ → Tree
grow go s at e =
    cond (leb (end_of s at) e)
    (cond (nests (tag_of s at)) (node (tag_of s at) at (go (at + 3) (end_of s at)) (go (end_of s at) e)) (leaf (tag_of s at) at (value_of s at) (go (end_of s at) e))) nil

-- at most n fields, one after the other or inside one another
unfoldable pub tree_by : ℕ → List ℕ → ℕ → ℕ → Tree
tree_by zero s at e = nil
tree_by (suc n) s at e = grow (tree_by n s) s at e

-- the fields of the value from `at` to e, which are fewer than its bytes
unfoldable pub tree_at : List ℕ → ℕ → ℕ → Tree
tree_at s at e = tree_by (suc (e - at)) s at e

-- those of a sheet
unfoldable pub tree_of : List ℕ → Tree
tree_of s = tree_at s 0 (length s)
