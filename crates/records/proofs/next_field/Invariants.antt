-- `next_field`: its loop keeps that the field sought is the one sought from here on.
use Prim.Native.Nat.{◌-◌}
use Rattle.records.proofs.Seeking.{Seeking}
use Rattle.records.proofs.next_field.Given as goal

abbrev pub invariant-loop-field : goal.invariant-loop-field
invariant-loop-field l = Seeking l.sheet l.at l.end l.low l.high l.from

abbrev pub decreases-loop-field : goal.decreases-loop-field
decreases-loop-field l = l.end - l.from
