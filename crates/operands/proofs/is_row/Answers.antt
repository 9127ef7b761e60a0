use borrow.Author.Rules.{rules}
use Rattle.operands.proofs.Shapes.{shape_next, shape_zero, shaping}
use Rattle.operands.proofs.is_row.Goals as goal
use Rattle.operands.proofs.is_row.Goals.{then-i-count+else-x-low+else-x-gt-LAST, else-i-count+else-x-ne0}

pub returns-then-row-ne-ROW : goal.returns-then-row-ne-ROW
returns-then-row-ne-ROW c = search (shaping, rules)

pub returns-then-count-gt-LIMIT : goal.returns-then-count-gt-LIMIT
returns-then-count-gt-LIMIT c = search (shaping, rules)

pub loop-i-init : goal.loop-i-init
loop-i-init c = search (shaping, rules)

pub returns-then-x-low : goal.returns-then-x-low
returns-then-x-low c = search (shaping, rules)

pub returns-then-x-gt-LAST : goal.returns-then-x-gt-LAST
returns-then-x-gt-LAST c = search (shaping, rules)

pub returns-then-x-ne0 : goal.returns-then-x-ne0
returns-then-x-ne0 c = search (shaping, rules)

pub loop-i-preserved : goal.loop-i-preserved
loop-i-preserved c = elim c.if-i-count.branch [
  | then-i-count+else-x-low+else-x-gt-LAST w ↦ rw w.low-is (shape_next _ _ _ _ _ c.loop-i.invariant c.loop-i-test.true w.if-i-count.true w.if-x-low.false w.if-x-gt-LAST.false)
  | else-i-count+else-x-ne0 w ↦ rw w.low-is (shape_zero _ _ _ _ _ c.loop-i.invariant c.loop-i-test.true w.if-i-count.false w.if-x-ne0.false)
]

pub returns : goal.returns
returns c = search (shaping, rules)
