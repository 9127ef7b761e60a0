-- `number_of` meets its contract.
use borrow.Author.Rules.{rules}
use Rattle.expression.proofs.Numbers.{numbered}
use Rattle.expression.proofs.number_of.Goals as goal

pub returns : goal.returns
returns c = search (numbered, rules)
