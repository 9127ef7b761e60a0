-- `put_fresh` meets its contract. The invariant: the subtypes so far that occur nowhere stand behind what was used.
use Rattle.merging.specs.MirrorWalk.{left}
use Rattle.factors.proofs.Putting.{Adding}
use Rattle.factors.proofs.put_fresh.Given as goal

abbrev pub invariant-loop-pair : goal.invariant-loop-pair
invariant-loop-pair l = Adding l.rules l.pairs l.owner l.initial.nodes l.nodes l.used l.stop (left l.pair-iterator)
