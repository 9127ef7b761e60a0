-- `raise` meets its contract. The invariant: n - k numbers are still to go, and those after them stand further up.
use Prim.Native.Nat.{◌-◌}
use Rattle.rows.proofs.Shifts.{Raising}
use Rattle.rows.proofs.raise.Given as goal

abbrev pub invariant-loop-k : goal.invariant-loop-k
invariant-loop-k l = Raising l.initial.rows l.rows l.from l.to l.n (l.n - l.k)
