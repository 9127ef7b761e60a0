-- `body_at`: the fields that are left have the body of all.
use Prim.Native.Nat.{◌-◌}
use Rattle.schemas.specs.MeaningTree.{tree_at}
use Rattle.schemas.specs.MeaningSchemas.{body_of}
use Rattle.named_types.proofs.Bodies.{Bodying}
use Rattle.named_types.proofs.body_at.Given as goal

abbrev pub invariant-loop-tag : goal.invariant-loop-tag
invariant-loop-tag l = Bodying l.sheet l.end l.from (body_of (tree_at l.sheet l.at l.end))

abbrev pub decreases-loop-tag : goal.decreases-loop-tag
decreases-loop-tag l = l.end - l.from
