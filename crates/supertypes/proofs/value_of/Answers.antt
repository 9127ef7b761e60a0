-- `value_of`: the expression stands in the nodes, and its list behind the records.
use mathlib.Core.Path.{◌≡◌}
use native.Mathlib.Omega.{arith}
use Rattle.std.proofs.lemmas.Grind.{common_steps}
use Rattle.std.specs.Prelude.{Err}
use Rattle.refusal.specs.declared.Reason.TheVariants.{NoSupertype}
use Rattle.supertypes.proofs.Standing.{list_none, list_order, list_inside, list_node, list_valued, standing_stays}
use Rattle.supertypes.proofs.value_of.Goals as goal

pub returns-in_err-start-clause-listed : goal.returns-in_err-start-clause-listed
returns-in_err-start-clause-listed c =
    let handed : c.from_residual.result ≡ Err (record { reason = NoSupertype; place = 0 }) = grind (arith, common_steps) in
    list_none c.args.streams c.args.workspace.now c.combination.new.nodes c.args.owner c.combination.result c.combination.ensures _ c.ok_or.ensures.value _ c.in_err-start.was _ handed

pub offset_bounds-nodes-start : goal.offset_bounds-nodes-start
offset_bounds-nodes-start c =
    let order = list_order c.args.streams c.args.workspace.now c.combination.new.nodes c.args.owner c.combination.result c.combination.ensures c.requires.stood _ c.ok_or.ensures.value _ c.in_ok-start.was in
    let inside = list_inside c.args.streams c.args.workspace.now c.combination.new.nodes c.args.owner c.combination.result c.combination.ensures c.requires.stood _ c.ok_or.ensures.value _ c.in_ok-start.was in
    omega (arith, order, inside, c.combination.auto.nodes)

pub slice_bounds-value-count : goal.slice_bounds-value-count
slice_bounds-value-count c = list_order c.args.streams c.args.workspace.now c.combination.new.nodes c.args.owner c.combination.result c.combination.ensures c.requires.stood _ c.ok_or.ensures.value _ c.in_ok-start.was

pub slice_bounds-value-start : goal.slice_bounds-value-start
slice_bounds-value-start c = list_order c.args.streams c.args.workspace.now c.combination.new.nodes c.args.owner c.combination.result c.combination.ensures c.requires.stood _ c.ok_or.ensures.value _ c.in_ok-start.was

pub slice_bounds-value-end : goal.slice_bounds-value-end
slice_bounds-value-end c = list_inside c.args.streams c.args.workspace.now c.combination.new.nodes c.args.owner c.combination.result c.combination.ensures c.requires.stood _ c.ok_or.ensures.value _ c.in_ok-start.was

pub value-requires-clause-node : goal.value-requires-clause-node
value-requires-clause-node c = list_node c.args.streams c.args.workspace.now c.combination.new.nodes c.args.owner c.combination.result c.combination.ensures c.requires.stood _ c.ok_or.ensures.value _ c.in_ok-start.was

pub returns-clause-listed : goal.returns-clause-listed
returns-clause-listed c = list_valued c.args.streams c.args.workspace.now c.combination.new.nodes c.args.owner c.combination.result c.combination.ensures c.requires.stood _ c.ok_or.ensures.value _ c.in_ok-start.was c.value.result c.value.new.rows c.value.ensures c.value.auto.rows

pub returns-clause-stay : goal.returns-clause-stay
returns-clause-stay c = standing_stays c.args.streams c.args.workspace.now c.value.new.rows c.value.auto.rows
