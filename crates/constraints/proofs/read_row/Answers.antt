-- `read_row`: a row is an operand that is a part.
use Rattle.constraints.proofs.Handing.{reading_row}
use borrow.Author.Rules.{rules}
use Rattle.constraints.proofs.read_row.Goals as goal

pub read-requires-in-Ok : goal.read-requires-in-Ok
read-requires-in-Ok c = search (reading_row, rules)

pub returns-in-Ok : goal.returns-in-Ok
returns-in-Ok c = search (reading_row, rules)

pub returns-in-Err : goal.returns-in-Err
returns-in-Err c = search (reading_row, rules)
