-- The invariant: the rows that are left, added to the list, make the whole answer.
use Rattle.rows.specs.MirrorRows.{parts_at}
use Rattle.complex_entity.specs.MeaningLists.{add, held}
use Rattle.instantiables.proofs.Feeds.{Feeding}
use Rattle.instantiables.proofs.Instantiables.add.Given as goal

abbrev pub invariant-loop-i : goal.invariant-loop-i
invariant-loop-i l = Feeding (λ L. L) l.others l.initial.rows l.rows l.list.count l.i l.i-end (held (add (parts_at l.initial.list.count l.initial.rows) (parts_at l.i-end l.others)))
