use borrow.Author.Rules.{rules}
use Rattle.indices.proofs.Indices.{thinning}
use Rattle.indices.proofs.distinct.Goals as goal

pub loop-index-preserved-then-eq : goal.loop-index-preserved-then-eq
loop-index-preserved-then-eq c = search (thinning, rules)

pub loop-index-preserved : goal.loop-index-preserved
loop-index-preserved c = search (thinning, rules)
