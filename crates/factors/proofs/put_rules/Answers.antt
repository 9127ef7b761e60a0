-- `put_rules` meets its contract.
use borrow.Author.Rules.{rules}
use Rattle.factors.proofs.Putting.{putting}
use Rattle.factors.proofs.put_rules.Goals as goal

pub loop-record-init : goal.loop-record-init
loop-record-init c = search (putting, rules)

pub put_factors-stop-requires-clause-item : goal.put_factors-stop-requires-clause-item
put_factors-stop-requires-clause-item c = search (putting, rules)

pub put_factors-stop-requires-clause-item_in_bounds : goal.put_factors-stop-requires-clause-item_in_bounds
put_factors-stop-requires-clause-item_in_bounds c = search (putting, rules)

pub loop-record-preserved-then-record-owner : goal.loop-record-preserved-then-record-owner
loop-record-preserved-then-record-owner c = search (putting, rules)

pub loop-record-preserved : goal.loop-record-preserved
loop-record-preserved c = search (putting, rules)

pub returns : goal.returns
returns c = search (putting, rules)
