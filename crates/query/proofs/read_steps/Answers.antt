use borrow.Author.Rules.{rules}
use Rattle.query.proofs.Reaching.{stepping}
use Rattle.query.proofs.read_steps.Goals as goal

pub loop-step-smaller : goal.loop-step-smaller
loop-step-smaller c = search (stepping, rules)

pub returns-in_default-pushed : goal.returns-in_default-pushed
returns-in_default-pushed c = search (stepping, rules)

pub returns-in_default : goal.returns-in_default
returns-in_default c = search (stepping, rules)
