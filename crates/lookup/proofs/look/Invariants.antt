-- `look`: what the search answers from a field on, counted on, is what it answers.
use Rattle.schemas.specs.MeaningTree.{tree_at}
use Rattle.schemas.specs.MeaningSchemas.{each}
use Rattle.sheet.specs.Told.{told_reading}
use Rattle.lookup.specs.MirrorLookup.{its_name, look_in}
use Rattle.lookup.proofs.Turning.{Walks}
use Rattle.lookup.proofs.Looks.{Looking}
use Rattle.lookup.proofs.look.Given as goal

abbrev pub invariant-loop-field : goal.invariant-loop-field
invariant-loop-field l =
    Walks l.s l.end l.field-iterator
    × Looking (told_reading l.reading) l.s l.name l.tag l.end l.past l.number l.field-iterator.at (look_in (told_reading l.reading) l.name (each l.tag its_name (tree_at l.s l.at l.end)) l.first)
