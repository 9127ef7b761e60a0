-- The invariant: the joins of the rows that are left, added to the list, make the whole answer.
use Rattle.rows.specs.MirrorRows.{parts_at}
use Rattle.complex_entity.specs.MeaningLists.{add, joins, held}
use Rattle.instantiables.proofs.Feeds.{Crossing}
use Rattle.instantiables.proofs.Instantiables.add_joins.Given as goal

abbrev pub invariant-loop-i : goal.invariant-loop-i
invariant-loop-i l = Crossing (parts_at l.right.count l.rights) l.lefts l.initial.rows l.rows l.list.count l.i l.i-end (held (add (parts_at l.initial.list.count l.initial.rows) (joins (parts_at l.i-end l.lefts) (parts_at l.right.count l.rights))))
