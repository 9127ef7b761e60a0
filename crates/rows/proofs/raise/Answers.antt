use borrow.Author.Rules.{rules}
use Rattle.rows.proofs.Shifts.{raising}
use Rattle.rows.proofs.raise.Goals as goal

pub loop-k-init : goal.loop-k-init
loop-k-init c = search (raising, rules)

pub loop-k-preserved : goal.loop-k-preserved
loop-k-preserved c = search (raising, rules)

pub returns : goal.returns
returns c = search (raising, rules)
