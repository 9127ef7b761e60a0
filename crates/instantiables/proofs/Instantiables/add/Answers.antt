use borrow.Author.Rules.{rules}
use Rattle.instantiables.proofs.Feeds.{feeding}
use Rattle.instantiables.proofs.Instantiables.add.Goals as goal

pub returns-in_default : goal.returns-in_default
returns-in_default c = search (feeding, rules)

pub loop-i-preserved : goal.loop-i-preserved
loop-i-preserved c = search (feeding, rules)

pub returns : goal.returns
returns c = search (feeding, rules)
