-- The invariant: the lists that are left, added to the list, make the whole answer.
use Rattle.complex_entity.specs.MeaningLists.{oneof_of}
use Rattle.instantiables.specs.MirrorRows.{lists_at}
use Rattle.several.proofs.Walks.{Uniting}
use Rattle.several.proofs.oneof.Given as goal

abbrev pub invariant-loop-n : goal.invariant-loop-n
invariant-loop-n l = Uniting l.counts l.rest l.initial.rows l.rows l.list.count l.n-index (oneof_of (lists_at l.counts l.lists))
