-- `declaration`: what stands among the declarations left stands among them all.
use lib.ListN.{length}
use Rattle.lookup.proofs.Turning.{Walks}
use Rattle.declarations.specs.MeaningNamespace.{schemas_in, declarations}
use Rattle.standing.proofs.Standing.{Going}
use Rattle.standing.proofs.declaration.Given as goal

abbrev pub invariant-loop-tag : goal.invariant-loop-tag
invariant-loop-tag l = Walks l.sheet (length l.sheet) l.tag-iterator × Going l.sheet (length l.sheet) l.left l.tag-iterator.at l.index (declarations (schemas_in l.sheet))
