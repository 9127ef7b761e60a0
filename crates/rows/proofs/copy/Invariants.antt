-- `copy` meets its contract. The invariant: the first i numbers are the other slice's, and the rest is what it was.
use Rattle.rows.proofs.Shifts.{Copying}
use Rattle.rows.proofs.copy.Given as goal

abbrev pub invariant-loop-i : goal.invariant-loop-i
invariant-loop-i l = Copying l.initial.to l.to l.from l.n l.i
