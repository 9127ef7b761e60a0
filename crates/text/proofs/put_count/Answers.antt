-- `put_count` meets its contract: the count, or the refusal.
use Rattle.text.proofs.Lines.{lines}
use borrow.Author.Rules.{rules}
use Rattle.text.proofs.put_count.Goals as goal

pub put_decimal-requires : goal.put_decimal-requires
put_decimal-requires c = search (lines, rules)

pub returns-in-Ok : goal.returns-in-Ok
returns-in-Ok c = search (lines, rules)

pub returns-in-Err : goal.returns-in-Err
returns-in-Err c = search (lines, rules)
