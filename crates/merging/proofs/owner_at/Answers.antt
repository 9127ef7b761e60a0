-- `owner_at` meets its contract.
use Rattle.std.proofs.Common.{refl, arith}
use Rattle.merging.proofs.Owners.{count_start, count_none, count_here, count_new}
use Rattle.merging.proofs.owner_at.Goals as goal

pub loop-init : goal.loop-init
loop-init c = count_start c.args.stream.now c.requires

pub next_owner-requires : goal.next_owner-requires
next_owner-requires c = c.loop.invariant.from

pub returns-in_err-at : goal.returns-in_err-at
returns-in_err-at c = count_none _ _ _ c.loop.invariant _ c.in_err-at.ensures refl c.args.number (omega arith) _ c.from_residual.ensures

pub loop-preserved : goal.loop-preserved
loop-preserved c = count_new _ _ _ c.loop.invariant _ c.in_ok-at.ensures c.in_ok-at.field-0 refl

pub next_owner-requires-2 : goal.next_owner-requires-2
next_owner-requires-2 c = c.loop.invariant.from

pub returns-in_err-next_owner : goal.returns-in_err-next_owner
returns-in_err-next_owner c = count_none _ _ _ c.loop.invariant _ c.in_err-next_owner.ensures refl c.args.number (omega arith) _ c.from_residual-in_err-next_owner.ensures

pub returns : goal.returns
returns c = count_here _ _ _ c.loop.invariant _ c.in_ok-next_owner.ensures c.in_ok-next_owner.field-0 refl c.args.number (omega arith) (omega arith)
