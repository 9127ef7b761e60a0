-- The invariant: n names stand in the array, and the merge of what is left from i and from j is still to come.
use Prim.Native.Nat.{◌-◌}
use Rattle.complex_entity.specs.MirrorParts.{merge}
use Rattle.complex_entity.proofs.Together.{Joining}
use Rattle.complex_entity.proofs.PartialComplexEntity.merged.Given as goal

abbrev pub invariant-loop-name : goal.invariant-loop-name
invariant-loop-name l = Joining l.left l.right l.i l.j l.n l.names (merge l.left l.right)

abbrev pub decreases-loop-name : goal.decreases-loop-name
decreases-loop-name l = 12 - l.n
