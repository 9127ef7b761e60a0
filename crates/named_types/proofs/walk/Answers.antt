use borrow.Author.Rules.{rules}
use Rattle.named_types.proofs.Turning.{turning}
use Rattle.named_types.proofs.walk.Goals as goal

pub loop-simple-preserved : goal.loop-simple-preserved
loop-simple-preserved c = search (turning, rules)

pub returns-in-Ok-Ends : goal.returns-in-Ok-Ends
returns-in-Ok-Ends c = search (turning, rules)

pub returns-then-left-le1 : goal.returns-then-left-le1
returns-then-left-le1 c = search (turning, rules)

pub returns-in-Err : goal.returns-in-Err
returns-in-Err c = search (turning, rules)
