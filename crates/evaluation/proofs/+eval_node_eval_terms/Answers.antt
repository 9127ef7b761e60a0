-- What the two calls owe: a node is long enough, its terms are nodes, and the walk goes on by `onward`.
use mathlib.Core.Path.{◌≡◌, refl, ap, ◌∙◌}
use Prim.Native.Nat.{ℕ}
use lib.ListN.{length, take, drop}
use borrow.Author.Tests.{tests}
use native.Mathlib.Omega.{arith}
use borrow.Author.Rules.{rules}
use Rattle.evaluation.proofs.Walking.{node_long, tall, leaf, inner, opened, ahead, walking, child, child_room, ready_own, ready_child, onward, third_inside, span_inside, one_more, ended, handed}
use Rattle.evaluation.proofs.+eval_node_eval_terms.Goals as goal

pub eval_node-bounds-nodes-0 : goal.eval_node-bounds-nodes-0
eval_node-bounds-nodes-0 t c = omega (arith, node_long c.args.nodes.now c.requires.node.expr c.requires.node.is)

pub eval_node-bounds-nodes-1 : goal.eval_node-bounds-nodes-1
eval_node-bounds-nodes-1 t c = omega (arith, node_long c.args.nodes.now c.requires.node.expr c.requires.node.is)

pub eval_node-single-requires : goal.eval_node-single-requires
eval_node-single-requires t c = omega (arith, c.requires.depth_in_bounds, c.requires.node.high, tall c.requires.node.expr)

pub eval_node-returns-in-Reference : goal.eval_node-returns-in-Reference
eval_node-returns-in-Reference t c e h = leaf _ e c.single.result c.args.rows.now _ h (search rules) c.single.ensures.0 c.single.ensures.1

pub eval_node-slice_bounds-eval_terms-count : goal.eval_node-slice_bounds-eval_terms-count
eval_node-slice_bounds-eval_terms-count t c = omega (arith, node_long c.args.nodes.now c.requires.node.expr c.requires.node.is)

pub eval_node-slice_bounds-eval_terms-start : goal.eval_node-slice_bounds-eval_terms-start
eval_node-slice_bounds-eval_terms-start t c = omega (arith, node_long c.args.nodes.now c.requires.node.expr c.requires.node.is)

pub eval_node-overflow_sub-depth : goal.eval_node-overflow_sub-depth
eval_node-overflow_sub-depth t c = omega (arith, c.requires.node.high, tall c.requires.node.expr)

pub eval_node-eval_terms-requires : goal.eval_node-eval_terms-requires
eval_node-eval_terms-requires t c = (
  omega (arith, c.decreases, c.requires.node.high, tall c.requires.node.expr),
  (
    inner _ _ c.requires.node.expr c.requires.node.is c.requires.node.high (λ e. c.in_default.not-Reference (c.from.ensures ∙ e)),
    (omega (arith, c.requires.depth_in_bounds, c.requires.node.high, tall c.requires.node.expr), c.requires.depth_in_bounds.1, c.requires.depth_in_bounds.2),
  ),
)

pub eval_node-returns-in_default : goal.eval_node-returns-in_default
eval_node-returns-in_default t c e h = opened _ e _ _ _ h refl (λ k. c.in_default.not-Reference (c.from.ensures ∙ k)) c.eval_terms.ensures

pub eval_terms-loop-left-init : goal.eval_terms-loop-left-init
eval_terms-loop-left-init t c = search (walking, rules)

pub eval_terms-bounds-left-2 : goal.eval_terms-bounds-left-2
eval_terms-bounds-left-2 t c =
    let more : length c.loop-left.left.now ≡ 0 → ⊥ = search (rules, tests) in
    third_inside c.loop-left.invariant more

pub eval_terms-split_at-requires : goal.eval_terms-split_at-requires
eval_terms-split_at-requires t c =
    let more : length c.loop-left.left.now ≡ 0 → ⊥ = search (rules, tests) in
    omega (arith, span_inside c.loop-left.invariant more, c.from.ensures)

pub eval_terms-eval_node-answer-requires : goal.eval_terms-eval_node-answer-requires
eval_terms-eval_node-answer-requires t c =
    let more : length c.loop-left.left.now ≡ 0 → ⊥ = search (rules, tests) in (
      omega (arith, c.decreases, (ahead c.loop-left.invariant more).high, c.loop-left.invariant.left_high),
      (
        child c.loop-left.invariant more c.split_at.result.0.now (c.split_at.ensures.front ∙ ap (λ (k : ℕ). take k c.loop-left.left.now) c.from.ensures),
        (child_room c.loop-left.invariant more, c.loop-left.invariant.factor_room, c.loop-left.invariant.scratch_room),
      ),
    )

pub eval_terms-returns-in_default : goal.eval_terms-returns-in_default
eval_terms-returns-in_default t c =
    let more : length c.loop-left.left.now ≡ 0 → ⊥ = search (rules, tests) in
    handed c.loop-left.invariant more c.eval_node-answer.result c.eval_node-answer.new.rows c.eval_node-answer.auto.rows c.split_at.result.0.now (c.split_at.ensures.front ∙ ap (λ (k : ℕ). take k c.loop-left.left.now) c.from.ensures) c.eval_node-answer.ensures _ c.in_default.is _ c.in_default.is _

pub eval_terms-take_in-list-requires-clause-ready : goal.eval_terms-take_in-list-requires-clause-ready
eval_terms-take_in-list-requires-clause-ready t c =
    let more : length c.loop-left.left.now ≡ 0 → ⊥ = search (rules, tests) in
    let rc = ready_child c.loop-left.invariant more c.eval_node-answer.result c.eval_node-answer.new.rows c.eval_node-answer.auto.rows c.split_at.result.0.now (c.split_at.ensures.front ∙ ap (λ (k : ℕ). take k c.loop-left.left.now) c.from.ensures) c.eval_node-answer.ensures c.in-Ok.new c.in-Ok.is in
    (ready_own c.loop-left.invariant more c.eval_node-answer.result c.eval_node-answer.new.rows c.eval_node-answer.auto.rows c.split_at.result.0.now (c.split_at.ensures.front ∙ ap (λ (k : ℕ). take k c.loop-left.left.now) c.from.ensures) c.eval_node-answer.ensures c.in-Ok.new c.in-Ok.is, rc.0, rc.1)

pub eval_terms-overflow_add-n : goal.eval_terms-overflow_add-n
eval_terms-overflow_add-n t c =
    let more : length c.loop-left.left.now ≡ 0 → ⊥ = search (rules, tests) in
    one_more c.loop-left.invariant more

pub eval_terms-loop-left-preserved : goal.eval_terms-loop-left-preserved
eval_terms-loop-left-preserved t c =
    let more : length c.loop-left.left.now ≡ 0 → ⊥ = search (rules, tests) in
    onward c.loop-left.invariant more c.eval_node-answer.result c.eval_node-answer.new.rows c.eval_node-answer.auto.rows c.split_at.result.0.now (c.split_at.ensures.front ∙ ap (λ (k : ℕ). take k c.loop-left.left.now) c.from.ensures) c.eval_node-answer.ensures c.in-Ok.new c.in-Ok.is c.split_at.result.1.now (c.split_at.ensures.back ∙ ap (λ (k : ℕ). drop k c.loop-left.left.now) c.from.ensures) _ _ _ _ c.take_in-list.auto.rows
    (c.take_in-list.auto.factor ∙ c.eval_node-answer.auto.factor)
    (c.take_in-list.auto.scratch ∙ c.eval_node-answer.auto.scratch)
    c.take_in-list.ensures

pub eval_terms-returns : goal.eval_terms-returns
eval_terms-returns t c =
    let none : length c.loop-left.left.now ≡ 0 = search (rules, tests) in
    ended c.loop-left.invariant c.finished.result none c.finished.ensures
