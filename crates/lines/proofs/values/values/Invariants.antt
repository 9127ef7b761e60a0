-- The invariant: so many values are put.
use Rattle.lines.specs.Places.{Filled}
use Rattle.lines.proofs.values.values.Given as goal

abbrev pub invariant-loop-group : goal.invariant-loop-group
invariant-loop-group g l = Filled l.count l.initial.out l.out
