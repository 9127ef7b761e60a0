-- The invariant: n names stand in the array, and those from the next index on are still to come.
use Rattle.complex_entity.specs.MeaningParts.{dedup}
use Rattle.indices.proofs.Indices.{Thinning}
use Rattle.indices.proofs.distinct.Given as goal

abbrev pub invariant-loop-index : goal.invariant-loop-index
invariant-loop-index l = Thinning l.indices l.names l.last l.n l.index-index (dedup l.indices)
