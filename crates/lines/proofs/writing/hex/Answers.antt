use borrow.Author.Rules.{rules}
use Rattle.lines.proofs.Writes.{writes}
use Rattle.lines.proofs.writing.hex.Goals as goal

pub loop-value-preserved : goal.loop-value-preserved
loop-value-preserved g c = search (writes, rules)
