-- `hand_out_part` meets its contract.
use borrow.Author.Rules.{rules}
use Rattle.operands.proofs.Handing.{handing_part}
use Rattle.operands.proofs.hand_out_part.Goals as goal

pub returns-then-out-lt-ROW : goal.returns-then-out-lt-ROW
returns-then-out-lt-ROW c = search (handing_part, rules)

pub returns : goal.returns
returns c = search (handing_part, rules)
