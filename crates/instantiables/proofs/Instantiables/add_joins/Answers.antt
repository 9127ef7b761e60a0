use borrow.Author.Rules.{rules}
use Rattle.instantiables.proofs.Feeds.{crossing}
use Rattle.instantiables.proofs.Instantiables.add_joins.Goals as goal

pub loop-i-init : goal.loop-i-init
loop-i-init c = search (crossing, rules)

pub add_joins_with-answer-requires-clause-sets : goal.add_joins_with-answer-requires-clause-sets
add_joins_with-answer-requires-clause-sets c = search (crossing, rules)

pub returns-in_default : goal.returns-in_default
returns-in_default c = search (crossing, rules)

pub loop-i-preserved : goal.loop-i-preserved
loop-i-preserved c = search (crossing, rules)

pub returns : goal.returns
returns c = search (crossing, rules)
