use borrow.Author.Rules.{rules}
use Rattle.operands.proofs.Judging.{judging}
use Rattle.operands.proofs.read_lists.Goals as goal

pub loop-count-init : goal.loop-count-init
loop-count-init c = search (judging, rules)

pub returns-then-good-n : goal.returns-then-good-n
returns-then-good-n c = search (judging, rules)

pub loop-count-preserved : goal.loop-count-preserved
loop-count-preserved c = search (judging, rules)

pub returns : goal.returns
returns c = search (judging, rules)

pub returns-then-k-rows : goal.returns-then-k-rows
returns-then-k-rows c = search (judging, rules)
