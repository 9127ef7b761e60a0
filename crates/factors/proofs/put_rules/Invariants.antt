-- `put_rules` meets its contract. The invariant: the factors of the records so far stand behind what was used.
use Rattle.merging.specs.MirrorWalk.{left}
use Rattle.factors.proofs.Putting.{Putting}
use Rattle.factors.proofs.put_rules.Given as goal

abbrev pub invariant-loop-record : goal.invariant-loop-record
invariant-loop-record l = Putting l.rules l.owner l.initial.nodes l.nodes l.used l.stop (left l.record-iterator)
