-- `together` meets its contract. The invariant: what the rows that are left have together, and the rows that were passed, make the whole count.
use lib.ListN.{length}
use Rattle.complex_entity.specs.MeaningLists.{add}
use Rattle.rows.specs.MirrorRows.{parts_at}
use Rattle.rows.proofs.Counts.{Counting}
use Rattle.rows.proofs.together.Given as goal

abbrev pub invariant-loop-step : goal.invariant-loop-step
invariant-loop-step l = Counting l.rows l.others l.steps l.count l.other l.left l.right l.total l.step-index (length (add (parts_at l.count l.rows) (parts_at l.other l.others)))
