-- `single` meets its contract.
use borrow.Author.Rules.{rules}
use Rattle.algebra.proofs.Asking.{asking_part}
use Rattle.algebra.proofs.single.Goals as goal

pub returns-then-index-gt-LAST : goal.returns-then-index-gt-LAST
returns-then-index-gt-LAST c = search (asking_part, rules)

pub returns : goal.returns
returns c = search (asking_part, rules)
