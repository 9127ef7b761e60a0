-- The invariant: the bytes so far are written.
use Rattle.lines.specs.Places.{Written}
use Rattle.lines.proofs.writing.text.Given as goal

abbrev pub invariant-loop-byte : goal.invariant-loop-byte
invariant-loop-byte l = Written l.at l.end l.initial.out l.out
