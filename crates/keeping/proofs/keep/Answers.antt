use borrow.Author.Rules.{rules}
use native.Mathlib.Omega.{arith}
use Rattle.keeping.proofs.Keeping.{keep_start, keep_done, keep_not, keep_one}
use Rattle.keeping.proofs.keep.Goals as goal
use Rattle.keeping.proofs.keep.Goals.{then-wanted, else-wanted}

pub loop-i-init : goal.loop-i-init
loop-i-init g c = (omega arith, λ test t. search (keep_start, rules))

pub loop-i-preserved : goal.loop-i-preserved
loop-i-preserved g c = elim c.if-wanted.branch [
  | then-wanted w ↦ rw (w.rows-is, w.kept-is) (omega (arith, c.loop-i.invariant.0), λ test t. keep_one test _ _ _ _ _ _ (c.loop-i.invariant.1 test t) c.loop-i-test.true _ t _ c.read-part.ensures _ c.wanted.ensures _ w.if-wanted.true w.put.ensures)
  | else-wanted w ↦ rw (w.rows-is, w.kept-is) (omega (arith, c.loop-i.invariant.0), λ test t. keep_not test _ _ _ _ _ _ (c.loop-i.invariant.1 test t) c.loop-i-test.true _ t _ c.read-part.ensures _ c.wanted.ensures w.if-wanted.false)
]

pub returns : goal.returns
returns g c = λ test t. keep_done test _ _ _ _ _ _ (c.loop-i.invariant.1 test t) (search rules)
