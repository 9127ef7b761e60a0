use borrow.Author.Rules.{rules}
use Rattle.complex_entity.proofs.Together.{turning}
use Rattle.complex_entity.proofs.PartialComplexEntity.turn_at.Goals as goal

pub returns-in-None-None : goal.returns-in-None-None
returns-in-None-None c = search (turning, rules)

pub returns-in-None-Some : goal.returns-in-None-Some
returns-in-None-Some c = search (turning, rules)

pub returns-in-Some-None : goal.returns-in-Some-None
returns-in-Some-None c = search (turning, rules)

pub returns-then-x-y : goal.returns-then-x-y
returns-then-x-y c = search (turning, rules)

pub returns-then-y-x : goal.returns-then-y-x
returns-then-y-x c = search (turning, rules)

pub returns-else-y-x : goal.returns-else-y-x
returns-else-y-x c = search (turning, rules)
