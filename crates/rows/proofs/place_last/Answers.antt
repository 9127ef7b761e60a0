use borrow.Author.Rules.{rules}
use Rattle.rows.proofs.Halving.{lasting}
use Rattle.rows.proofs.place_last.Goals as goal

pub returns-then-count-eq0 : goal.returns-then-count-eq0
returns-then-count-eq0 c = search (lasting, rules)

pub returns-in-Equal : goal.returns-in-Equal
returns-in-Equal c = search (lasting, rules)

pub returns-in-Greater : goal.returns-in-Greater
returns-in-Greater c = search (lasting, rules)
