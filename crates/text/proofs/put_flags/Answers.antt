-- `put_flags` meets its contract: the flags, or the refusal.
use Rattle.text.proofs.Lines.{lines}
use borrow.Author.Rules.{rules}
use Rattle.text.proofs.put_flags.Goals as goal

pub returns-in-Ok : goal.returns-in-Ok
returns-in-Ok c = search (lines, rules)

pub returns-in-Err : goal.returns-in-Err
returns-in-Err c = search (lines, rules)
