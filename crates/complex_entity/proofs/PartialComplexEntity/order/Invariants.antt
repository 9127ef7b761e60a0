-- The invariant: the names so far are the same in both, and what is left decides.
use lib.ListN.{length}
use Rattle.complex_entity.proofs.Precedence.{Comparing}
use Rattle.complex_entity.proofs.PartialComplexEntity.order.Given as goal

abbrev pub invariant-loop-x : goal.invariant-loop-x
invariant-loop-x l = Comparing l.names l.others (length l.yielded)
