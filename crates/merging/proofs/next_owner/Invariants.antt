-- `next_owner` meets its contract. The invariant: the owners that come are the same as from the first place on.
use Rattle.merging.specs.MirrorWalk.{left}
use Rattle.merging.proofs.Owners.{Entering}
use Rattle.merging.proofs.next_owner.Given as goal

abbrev pub invariant-loop-record : goal.invariant-loop-record
invariant-loop-record l = Entering l.stream l.from l.at (left l.record-iterator)
