-- The invariant: the terms that are left, joined to the list one by one, make the whole answer.
use Rattle.complex_entity.specs.MeaningLists.{prefixes}
use Rattle.rows.specs.MirrorRows.{parts_at}
use Rattle.instantiables.specs.MirrorRows.{lists_at}
use Rattle.several.proofs.Terms.{Prefixing}
use Rattle.several.proofs.and_more.Given as goal

abbrev pub invariant-loop-n : goal.invariant-loop-n
invariant-loop-n l = Prefixing l.counts l.rest l.rows l.scratch l.list.count l.n-index (prefixes (parts_at l.initial.list.count l.initial.rows) (lists_at l.counts l.lists))
