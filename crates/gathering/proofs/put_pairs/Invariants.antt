-- `put_pairs`: its loop keeps that the names left make of the records here what all of them make of those at the start.
use Prim.Native.Nat.{◌-◌}
use Rattle.sheet.specs.Told.{told_reading}
use Rattle.declarations.specs.MeaningNamespace.{schemas_in}
use Rattle.gathering.proofs.Pairs.{Pairing}
use Rattle.gathering.proofs.put_pairs.Given as goal

abbrev pub invariant-loop-name : goal.invariant-loop-name
invariant-loop-name l = Pairing (told_reading l.schema.reading) (schemas_in l.schema.sheet.now) l.schema.scope.now l.schema.sheet.now l.own l.supers.start l.supers.stop l.used l.initial.stream l.from l.n l.stream

abbrev pub decreases-loop-name : goal.decreases-loop-name
decreases-loop-name l = l.supers.stop - l.from
