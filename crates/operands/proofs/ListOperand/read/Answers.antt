use borrow.Author.Rules.{rules}
use Rattle.operands.proofs.Judging.{one_operand}
use Rattle.operands.proofs.ListOperand.read.Goals as goal

pub returns-then-rows-gt-ROOM : goal.returns-then-rows-gt-ROOM
returns-then-rows-gt-ROOM c = search (one_operand, rules)

pub returns : goal.returns
returns c = search (one_operand, rules)
