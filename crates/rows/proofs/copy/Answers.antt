use borrow.Author.Rules.{rules}
use Rattle.rows.proofs.Shifts.{copying}
use Rattle.rows.proofs.copy.Goals as goal

pub loop-i-init : goal.loop-i-init
loop-i-init c = search (copying, rules)

pub loop-i-preserved : goal.loop-i-preserved
loop-i-preserved c = search (copying, rules)

pub returns : goal.returns
returns c = search (copying, rules)
