-- The invariant: the digits of the values so far are written.
use Rattle.lines.specs.Places.{Written}
use Rattle.lines.proofs.writing.hex.Given as goal

abbrev pub invariant-loop-value : goal.invariant-loop-value
invariant-loop-value g l = Written l.at l.end l.initial.out l.out
