use native.Mathlib.Omega.{arith}
use borrow.Author.Rules.{rules}
use Rattle.sheet.proofs.Onward.{walking, walk_stop}
use Rattle.sheet.proofs.Judge.+check_fields.Goals as goal

pub returns-in-Err : goal.returns-in-Err
-- the place is compared, not looked for: it is the step's, however the code says so
returns-in-Err t c = walk_stop _ _ _ _ _ _ _ _ _ _ c.loop-reason.invariant _ c.step_at.ensures _ c.in-Err.is _ (omega arith) _ c.at.ensures

pub returns-in-Ok-Done : goal.returns-in-Ok-Done
returns-in-Ok-Done t c = search (walking, rules)

pub loop-reason-smaller-in-Ok-Past : goal.loop-reason-smaller-in-Ok-Past
loop-reason-smaller-in-Ok-Past t c = search (walking, rules)

pub loop-reason-preserved-in-Ok-Past : goal.loop-reason-preserved-in-Ok-Past
loop-reason-preserved-in-Ok-Past t c = search (walking, rules)

pub check_fields-answer-requires : goal.check_fields-answer-requires
check_fields-answer-requires t c = search (walking, rules)

pub returns-in_default : goal.returns-in_default
returns-in_default t c = search (walking, rules)

pub loop-reason-smaller : goal.loop-reason-smaller
loop-reason-smaller t c = search (walking, rules)

pub loop-reason-preserved : goal.loop-reason-preserved
loop-reason-preserved t c = search (walking, rules)
