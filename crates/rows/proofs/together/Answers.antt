use borrow.Author.Rules.{rules}
use native.Mathlib.Omega.{arith}
use Rattle.rows.proofs.Counts.{counting, told_end, told_either}
use Rattle.rows.proofs.together.Goals as goal
use Rattle.rows.proofs.together.Goals.{in-Less, in-Equal, in-Greater, then-left-eq0-via-then-left-eq0, then-left-eq0-via-else-left-eq0+then-right-eq0}

pub loop-step-init : goal.loop-step-init
loop-step-init c = search (counting, rules)

pub loop-step-preserved : goal.loop-step-preserved
loop-step-preserved c = elim c.match-order.branch [ in-Less w ↦ search (counting, rules) | in-Equal w ↦ search (counting, rules) | in-Greater w ↦ search (counting, rules) ]

pub returns-after-loop-step-clause-told : goal.returns-after-loop-step-clause-told
returns-after-loop-step-clause-told c = told_end _ _ _ _ _ _ _ _ _ _ c.loop-step.invariant (omega arith)

pub returns-then-left-eq0-clause-sum : goal.returns-then-left-eq0-clause-sum
returns-then-left-eq0-clause-sum c = search (counting, rules)

pub returns-then-left-eq0-clause-told : goal.returns-then-left-eq0-clause-told
returns-then-left-eq0-clause-told c = elim c.then-left-eq0.branch [
  | then-left-eq0-via-then-left-eq0 w ↦ told_either _ _ _ _ _ _ _ _ _ _ c.loop-step.invariant _ _ c.then-left-eq0.either w.steps-is
  | then-left-eq0-via-else-left-eq0+then-right-eq0 w ↦ told_either _ _ _ _ _ _ _ _ _ _ c.loop-step.invariant _ _ c.then-left-eq0.either w.steps-is
]
