-- `walk`: its loop keeps that the schemas left make of the records here what all of them make of those at the start.
use Prim.Native.Nat.{◌-◌}
use Rattle.sheet.specs.Told.{told_reading}
use Rattle.schemas.specs.MeaningSchemas.{name_of}
use Rattle.declarations.specs.MeaningNamespace.{schemas_in}
use Rattle.gathering.specs.MirrorWalk.{items_kept, items_size, items_level}
use Rattle.gathering.proofs.Walking.{Fields}
use Rattle.gathering.proofs.walk.Given as goal

abbrev pub invariant-loop-field : goal.invariant-loop-field
invariant-loop-field g l = Fields (λ i. items_kept (told_reading l.reading) (schemas_in l.sheet) g.P.Pass.step (name_of i.1).bytes i.1) (λ i. items_size g.P.Pass.step i.1) (λ i. items_level g.P.Pass.step i.1) 0x01 0x01 l.sheet 0 l.end l.used l.initial.stream l.from l.n l.stream

abbrev pub decreases-loop-field : goal.decreases-loop-field
decreases-loop-field g l = l.end - l.from
