use borrow.Author.Rules.{rules}
use Rattle.complex_entity.proofs.Together.{joining}
use Rattle.complex_entity.proofs.PartialComplexEntity.merged.Goals as goal

pub returns-then-n-ge-LIMIT : goal.returns-then-n-ge-LIMIT
returns-then-n-ge-LIMIT c = search (joining, rules)

pub loop-name-preserved : goal.loop-name-preserved
loop-name-preserved c = search (joining, rules)

pub returns : goal.returns
returns c = search (joining, rules)
