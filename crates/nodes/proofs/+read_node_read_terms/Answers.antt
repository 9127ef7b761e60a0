-- What the walks owe: see the invariant for what stands behind the used numbers.
use Rattle.std.proofs.Common.{rules}
use borrow.Author.Tests.{tests}
use mathlib.Core.Logic.{inl, inr}
use mathlib.Core.Path.{refl, ◌∙◌}
use Prim.Native.Nat.{◌+◌}
use native.Mathlib.Omega.{arith}
use Rattle.expression.proofs.Numbered.{no_reference}
use Rattle.nodes.proofs.Standing.{too_deep, no_room, no_field, more_behind, tag_off, one_field, node_missing, node_read, none_yet, term_cut, none_more, one_more, all_read}
use Rattle.nodes.proofs.+read_node_read_terms.Goals as goal
use Rattle.nodes.proofs.+read_node_read_terms.Goals.{read_node-then-tag-lt-TAG-via-then-tag-lt-TAG, read_node-then-tag-lt-TAG-via-else-tag-lt-TAG+then-tag-gt-LAST_TAG}

pub read_node-returns-then-depth-lt2 : goal.read_node-returns-then-depth-lt2
read_node-returns-then-depth-lt2 t c = too_deep _ _ _ _ (omega (arith, c.if-depth-lt2.true))

pub read_node-returns-in_err-behind : goal.read_node-returns-in_err-behind
read_node-returns-in_err-behind t c = no_field _ _ _ _ c.in_err-behind.ensures _ c.from_residual.ensures

pub read_node-returns-then-not-is_empty : goal.read_node-returns-then-not-is_empty
read_node-returns-then-not-is_empty t c = more_behind _ _ _ _ _ _ c.in_ok-behind.ensures (search (rules, tests))

pub read_node-returns-then-nodes-used-lt-NODE : goal.read_node-returns-then-nodes-used-lt-NODE
read_node-returns-then-nodes-used-lt-NODE t c = no_room _ _ _ _ (omega (arith, c.if-nodes-used-lt-NODE.true))

pub read_node-returns-then-tag-lt-TAG : goal.read_node-returns-then-tag-lt-TAG
read_node-returns-then-tag-lt-TAG t c = tag_off _ _ _ _ (elim c.then-tag-lt-TAG.branch [ read_node-then-tag-lt-TAG-via-then-tag-lt-TAG w ↦ inl (omega (arith, w.if-tag-lt-TAG.true)) | read_node-then-tag-lt-TAG-via-else-tag-lt-TAG+then-tag-gt-LAST_TAG w ↦ inr (omega (arith, w.if-tag-gt-LAST_TAG.true)) ])

pub read_node-returns-in_err-next-in_default : goal.read_node-returns-in_err-next-in_default
read_node-returns-in_err-next-in_default t c =
    node_missing (record {
      node = c.put_node-body.ensures;
      is = one_field c.args.field.now _ _ (80 + c.from-kind.result) c.in_ok-behind.ensures (search (rules, tests)) (omega (arith, c.from-kind.ensures, c.if-tag-lt-TAG.false));
      low = no_reference c.from-kind.result (λ e. c.in_default.not-Reference (c.from.ensures ∙ e));
      high = omega (arith, c.from-kind.ensures, c.if-tag-gt-LAST_TAG.false);
      two = c.if-depth-lt2.false;
      room = omega (arith, c.requires, c.if-nodes-used-lt-NODE.false);
      long = c.put_node-body.auto.nodes;
      terms = c.read_terms.ensures;
    }) c.in_err-next-in_default.was _ c.from_residual-in_err-next-in_default.ensures

pub read_node-overflow_sub-nodes-in_default : goal.read_node-overflow_sub-nodes-in_default
read_node-overflow_sub-nodes-in_default t c = omega (arith, c.put_node-body.ensures.0, (c.read_terms.ensures.only _ c.in_ok-next-in_default.was).ends)

pub read_node-overflow_cast-nodes : goal.read_node-overflow_cast-nodes
read_node-overflow_cast-nodes t c = omega (arith, c.requires, c.put_node-body.auto.nodes, c.read_terms.auto.nodes, (c.read_terms.ensures.only _ c.in_ok-next-in_default.was).inside)

pub read_node-returns-in_ok-next-in_default : goal.read_node-returns-in_ok-next-in_default
read_node-returns-in_ok-next-in_default t c =
    node_read (record {
      node = c.put_node-body.ensures;
      is = one_field c.args.field.now _ _ (80 + c.from-kind.result) c.in_ok-behind.ensures (search (rules, tests)) (omega (arith, c.from-kind.ensures, c.if-tag-lt-TAG.false));
      low = no_reference c.from-kind.result (λ e. c.in_default.not-Reference (c.from.ensures ∙ e));
      high = omega (arith, c.from-kind.ensures, c.if-tag-gt-LAST_TAG.false);
      two = c.if-depth-lt2.false;
      room = omega (arith, c.requires, c.if-nodes-used-lt-NODE.false);
      long = c.put_node-body.auto.nodes;
      terms = c.read_terms.ensures;
    }) _ _ c.in_ok-next-in_default.was refl

pub read_terms-loop-left-init : goal.read_terms-loop-left-init
read_terms-loop-left-init t c = none_yet _ _ _ _ c.requires.0 c.requires.2

pub read_terms-returns-in_err-field : goal.read_terms-returns-in_err-field
read_terms-returns-in_err-field t c = term_cut c.loop-left.invariant (search (rules, tests)) c.in_err-field.ensures _ c.from_residual.ensures

pub read_terms-returns-in_err-next : goal.read_terms-returns-in_err-next
read_terms-returns-in_err-next t c = none_more c.loop-left.invariant (search (rules, tests)) c.in_ok-field.ensures c.read_node.ensures c.in_err-next.was _ c.from_residual-in_err-next.ensures

pub read_terms-loop-left-preserved : goal.read_terms-loop-left-preserved
read_terms-loop-left-preserved t c = one_more c.loop-left.invariant (search (rules, tests)) c.in_ok-field.ensures c.read_node.ensures _ c.in_ok-next.was c.read_node.auto.nodes

pub read_terms-returns : goal.read_terms-returns
read_terms-returns t c = all_read c.loop-left.invariant (search (rules, tests))
