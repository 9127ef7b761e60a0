-- `owner_at` meets its contract. The invariant: so many of the owners are passed as turns are done.
use Rattle.merging.proofs.Owners.{Counting}
use Rattle.merging.proofs.owner_at.Given as goal

abbrev pub invariant-loop : goal.invariant-loop
invariant-loop l = Counting l.stream l.counter l.at
