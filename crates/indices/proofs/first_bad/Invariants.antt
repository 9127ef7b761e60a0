-- The invariant: the indices before i are good, and the first bad one from i on is the answer.
use Rattle.complex_entity.specs.MeaningParts.{bad_after}
use Rattle.indices.proofs.Indices.{Spotting}
use Rattle.indices.proofs.first_bad.Given as goal

abbrev pub invariant-loop-i : goal.invariant-loop-i
invariant-loop-i l = Spotting l.indices l.before l.i (bad_after 0 l.indices)
