-- `numbers_at`: what was counted and what is left is all that there is.
use Rattle.lookup.proofs.Turning.{Walks}
use Rattle.declarations.proofs.Walks.{Counting}
use Rattle.declarations.proofs.numbers_at.Given as goal

abbrev pub invariant-loop-field : goal.invariant-loop-field
invariant-loop-field l = Walks l.s l.end l.field-iterator × Counting l.s l.at l.end l.first l.entities l.past l.field-iterator.at
