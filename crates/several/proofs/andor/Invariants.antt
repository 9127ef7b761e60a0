-- The invariant: the factors that are left, taken one by one, make the whole answer.
use Rattle.complex_entity.specs.MeaningLists.{andor_of}
use Rattle.instantiables.specs.MirrorRows.{lists_at}
use Rattle.several.proofs.Choosing.{Choosing}
use Rattle.several.proofs.andor.Given as goal

abbrev pub invariant-loop-n : goal.invariant-loop-n
invariant-loop-n l = Choosing l.counts l.rest l.initial.rows l.rows l.scratch l.list.count l.n-index (andor_of (lists_at l.counts l.lists))
