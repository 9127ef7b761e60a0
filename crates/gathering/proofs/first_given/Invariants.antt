-- `first_given`: its loop keeps that the fields passed over give nothing.
use Prim.Native.Nat.{◌-◌}
use Rattle.sheet.specs.Told.{told_reading}
use Rattle.gathering.proofs.Beginning.{Passing}
use Rattle.gathering.proofs.first_given.Given as goal

abbrev pub invariant-loop-field : goal.invariant-loop-field
invariant-loop-field g l = Passing (told_reading l.reading) g.P.Pass.step l.sheet l.at l.end l.tag l.from

abbrev pub decreases-loop-field : goal.decreases-loop-field
decreases-loop-field g l = l.end - l.from
