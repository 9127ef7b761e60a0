-- What it says that the fields of a tree stand in some bytes where their places are.
use Rattle.std.specs.Prelude.{ℕ, ◌≡◌, List, length, take, drop}
use Rattle.forest.specs.MeaningForest.{field, encode}
use Rattle.schemas.specs.MeaningTree.{Tree}
use Rattle.schemas.specs.MeaningBare.{bare}
use Rattle.schemas.specs.MeaningTree.Tree.{nil, leaf, node}

-- these bytes stand at a place
abbrev pub StandAt : List ℕ → ℕ → List ℕ → Type 0
StandAt s p b = take (length b) (drop p s) ≡ b

-- every field of a tree stands at its place, whole: header, and value with the fields in it
abbrev pub Whole : List ℕ → Tree → Type 0
Whole s nil = Unit {0}
Whole s (leaf t p v f) = StandAt s p (field t v) × Whole s f
Whole s (node t p g f) = StandAt s p (field t (encode (bare g))) × Whole s g × Whole s f
