-- `first_of`: the first declaration in the schemas that are left is the first of all.
use lib.ListN.{length}
use Rattle.sheet.specs.Told.{told_reading}
use Rattle.scope.specs.Told.{told_kind}
use Rattle.declarations.specs.MeaningNamespace.{schemas_in, declaration_for}
use Rattle.declarations.specs.MirrorNamespace.{path_to, sought_of}
use Rattle.lookup.proofs.Turning.{Walks}
use Rattle.declarations.proofs.Walks.{Getting}
use Rattle.declarations.proofs.first_of.Given as goal

abbrev pub invariant-loop-tag : goal.invariant-loop-tag
invariant-loop-tag l = Walks l.sheet (length l.sheet) l.tag-iterator × Getting (told_reading l.reading) l.sheet l.scope (told_kind l.kind) l.name (length l.sheet) l.first l.tag-iterator.at (sought_of (declaration_for (told_reading l.reading) (schemas_in l.sheet) (path_to l.scope (told_kind l.kind) l.name)))
