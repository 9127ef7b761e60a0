-- The fields of a tree without their places.
use Rattle.forest.specs.MeaningForest.{Forest}
use Rattle.forest.specs.MeaningForest.Forest.{nil as no_fields, leaf as plain, node as nested}
use Rattle.schemas.specs.MeaningTree.{Tree}
use Rattle.schemas.specs.MeaningTree.Tree.{nil, leaf, node}

abbrev pub bare : Tree → Forest
bare nil = no_fields
bare (leaf t p v f) = plain t v (bare f)
bare (node t p g f) = nested t (bare g) (bare f)
