-- `nth`: what picks from the fields that are left picks from them all.
use Rattle.schemas.specs.MeaningTree.{tree_at}
use Rattle.schemas.specs.MeaningSchemas.{each}
use Rattle.lookup.specs.MirrorLookup.{itself}
use Rattle.lookup.proofs.Turning.{Walks}
use Rattle.lookup.proofs.Looks.{Picking}
use Rattle.lookup.proofs.nth.Given as goal

abbrev pub invariant-loop-field : goal.invariant-loop-field
invariant-loop-field l = Walks l.s l.end l.field-iterator × Picking l.s l.tag l.end l.left l.field-iterator.at l.number (each l.tag itself (tree_at l.s l.at l.end))
