-- `names_at` meets its contract.
use Rattle.noting.proofs.Spelling.{spelling}
use borrow.Author.Rules.{rules}
use Rattle.noting.proofs.names_at.Goals as goal

pub returns-in_default : goal.returns-in_default
returns-in_default c = search (spelling, rules)

pub returns : goal.returns
returns c = search (spelling, rules)
