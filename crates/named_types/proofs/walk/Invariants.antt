-- `walk`: what is left of the walk answers what all of it does.
use Prim.Native.Nat.{◌-◌}
use lib.ListN.{length}
use Rattle.sheet.specs.Told.{told_reading}
use Rattle.declarations.specs.MeaningNamespace.{schemas_in, declarations}
use Rattle.named_types.specs.MirrorTypes.{walked_by}
use Rattle.named_types.proofs.Turning.{Turning}
use Rattle.named_types.proofs.walk.Given as goal

abbrev pub invariant-loop-simple : goal.invariant-loop-simple
invariant-loop-simple l = Turning (told_reading l.reading) (schemas_in l.sheet) l.at l.left (walked_by (told_reading l.reading) (schemas_in l.sheet) (length (declarations (schemas_in l.sheet)) - 1) l.number)

abbrev pub decreases-loop-simple : goal.decreases-loop-simple
decreases-loop-simple l = l.left
