use borrow.Author.Rules.{rules}
use Rattle.lines.proofs.Writes.{writes}
use Rattle.lines.proofs.lent.state.Goals as goal

pub returns-then-changed-eq0 : goal.returns-then-changed-eq0
returns-then-changed-eq0 c = search (writes, rules)

pub returns-then-all : goal.returns-then-all
returns-then-all c = search (writes, rules)

pub returns : goal.returns
returns c = search (writes, rules)
