-- `set_at` meets its contract.
use Rattle.expression.proofs.Numbers.{placing}
use borrow.Author.Rules.{rules}
use Rattle.expression.proofs.set_at.Goals as goal

pub returns-then-count-number : goal.returns-then-count-number
returns-then-count-number c = search (placing, rules)

pub returns : goal.returns
returns c = search (placing, rules)
