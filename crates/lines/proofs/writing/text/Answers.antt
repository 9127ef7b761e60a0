use borrow.Author.Rules.{rules}
use Rattle.lines.proofs.Writes.{writes}
use Rattle.lines.proofs.writing.text.Goals as goal

pub loop-byte-preserved : goal.loop-byte-preserved
loop-byte-preserved c = search (writes, rules)
