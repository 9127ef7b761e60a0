-- `put_flag` meets its contract: one byte or the other.
use Rattle.text.proofs.Putting.{putting}
use Rattle.text.proofs.Lines.{lines}
use borrow.Author.Rules.{rules}
use Rattle.text.proofs.put_flag.Goals as goal

pub returns-then-holds : goal.returns-then-holds
returns-then-holds c = search (lines, putting, rules)

pub returns : goal.returns
returns c = search (lines, putting, rules)
