-- `put_next` meets its contract.
use Rattle.text.proofs.Putting.{putting}
use Rattle.text.proofs.Lines.{lines}
use borrow.Author.Rules.{rules}
use Rattle.text.proofs.put_next.Goals as goal

pub returns-then-first : goal.returns-then-first
returns-then-first c = search (lines, putting, rules)

pub returns : goal.returns
returns c = search (lines, putting, rules)
