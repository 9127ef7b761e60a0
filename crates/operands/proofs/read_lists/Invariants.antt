-- The invariant: k rows are good, and what is left of the rows and of the counts decides.
use Rattle.operands.specs.MirrorOperands.{judged}
use Rattle.operands.proofs.Judging.{Judging}
use Rattle.operands.proofs.read_lists.Given as goal

abbrev pub invariant-loop-count : goal.invariant-loop-count
invariant-loop-count l = Judging l.counts l.rows l.k l.count-index (judged l.counts l.rows)
