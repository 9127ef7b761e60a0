-- The invariant: the joins of the rows that are left, added to the list, make the whole answer.
use Rattle.rows.specs.MirrorRows.{parts_at}
use Rattle.complex_entity.specs.MirrorParts.{part_at}
use Rattle.complex_entity.specs.MeaningLists.{add, joins, held}
use lib.ListN.{drop}
use mathlib.Core.List.{[], ◌∷◌}
use Rattle.instantiables.proofs.Feeds.{Joining}
use Rattle.instantiables.proofs.Instantiables.add_joins_with.Given as goal

abbrev pub invariant-loop-i : goal.invariant-loop-i
invariant-loop-i l = Joining (part_at (drop l.from l.lefts)) l.others l.initial.rows l.rows l.list.count l.i l.i-end (held (add (parts_at l.initial.list.count l.initial.rows) (joins (part_at (drop l.from l.lefts) ∷ []) (parts_at l.i-end l.others))))
