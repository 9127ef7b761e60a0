-- `last_schema`: the last of the schemas that are left, or else the one found so far, is the last of all.
use lib.ListN.{length}
use Rattle.sheet.specs.Told.{told_reading}
use Rattle.lookup.proofs.Turning.{Walks}
use Rattle.declarations.proofs.Walks.{Seeking}
use Rattle.declarations.proofs.last_schema.Given as goal

abbrev pub invariant-loop-tag : goal.invariant-loop-tag
invariant-loop-tag l = Walks l.sheet (length l.sheet) l.tag-iterator × Seeking (told_reading l.reading) l.sheet l.scope (length l.sheet) l.first l.tag-iterator.at l.last
