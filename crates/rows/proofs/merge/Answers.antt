use borrow.Author.Rules.{rules}
use Rattle.rows.proofs.Merges.{merging}
use Rattle.rows.proofs.merge.Goals as goal
use Rattle.rows.proofs.merge.Goals.{in-Less, in-Equal, in-Greater, else-loop-step-test, then-loop-step-test+then-left-eq0}

pub loop-step-init : goal.loop-step-init
loop-step-init c = search (merging, rules)

pub overflow_sub-to : goal.overflow_sub-to
overflow_sub-to c = search (merging, rules)

pub loop-step-preserved : goal.loop-step-preserved
loop-step-preserved c = elim c.match-step.branch [ in-Less w ↦ search (merging, rules) | in-Equal w ↦ search (merging, rules) | in-Greater w ↦ search (merging, rules) ]

pub returns : goal.returns
returns c = elim c.loop-step-test.branch [ else-loop-step-test w ↦ search (merging, rules) | then-loop-step-test+then-left-eq0 w ↦ search (merging, rules) ]
