-- `merge` meets its contract. The invariant: the last parts stand where they belong, and the rows that are left make the others.
use Rattle.rows.proofs.Merges.{Merging}
use Rattle.rows.proofs.merge.Given as goal

abbrev pub invariant-loop-step : goal.invariant-loop-step
invariant-loop-step l = Merging l.initial.rows l.others l.steps l.rows l.count l.other l.total l.left l.right l.to l.step-index
