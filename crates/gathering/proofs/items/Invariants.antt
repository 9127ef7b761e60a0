-- `items`: its loop keeps that the fields left make of the records here what all of them make of those at the start.
use Prim.Native.Nat.{◌-◌}
use Rattle.sheet.specs.Told.{told_reading}
use Rattle.declarations.specs.MeaningNamespace.{schemas_in}
use Rattle.records.specs.MirrorRecords.{schema_named}
use Rattle.gathering.specs.MirrorWalk.{tag_for, item_kept, item_size, item_level}
use Rattle.gathering.proofs.Walking.{Fields}
use Rattle.gathering.proofs.items.Given as goal

abbrev pub invariant-loop-field : goal.invariant-loop-field
invariant-loop-field g l = Fields (λ i. item_kept (told_reading l.fn.schema.reading) (schemas_in l.fn.schema.sheet.now) g.P.Pass.step (schema_named l.fn.schema.scope.now) i.0 i.1) (λ i. item_size g.P.Pass.step i.1) (λ i. item_level g.P.Pass.step i.1) (tag_for g.P.Pass.step) l.tag l.fn.schema.sheet.now l.at l.end l.used l.initial.stream l.from l.n l.stream

abbrev pub decreases-loop-field : goal.decreases-loop-field
decreases-loop-field g l = l.end - l.from
