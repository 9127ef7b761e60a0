use borrow.Author.Rules.{rules}
use Rattle.indices.proofs.Indices.{making}
use Rattle.indices.proofs.new.Goals as goal

pub returns-in-Some : goal.returns-in-Some
returns-in-Some c = search (making, rules)

pub returns-in-None : goal.returns-in-None
returns-in-None c = search (making, rules)
