-- `hand_out` meets its contract.
use borrow.Author.Rules.{rules}
use Rattle.operands.proofs.Handing.{handing}
use Rattle.operands.proofs.hand_out.Goals as goal

pub returns-in_default : goal.returns-in_default
returns-in_default c = search (handing, rules)

pub returns-then-out-numbers : goal.returns-then-out-numbers
returns-then-out-numbers c = search (handing, rules)

pub returns : goal.returns
returns c = search (handing, rules)
