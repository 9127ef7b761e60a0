-- `combine` meets its contract: what the calls built is the expression.
use native.Mathlib.Omega.{arith}
use Rattle.combining.proofs.Combining.{rules_fit, fresh_fit, combined_more, combined_alone}
use Rattle.combining.proofs.combine.Goals as goal

pub put_fresh-stop-requires-clause-pairs_in_bounds : goal.put_fresh-stop-requires-clause-pairs_in_bounds
put_fresh-stop-requires-clause-pairs_in_bounds c =
    omega (arith, rules_fit _ _ _ c.args.owner _ _ c.requires.records c.put_rules-middle.ensures, c.requires.pairs_in_bounds, c.put_node-body.ensures.0, c.put_node-body.auto.nodes, c.put_rules-middle.auto.nodes)

pub overflow_cast-nodes : goal.overflow_cast-nodes
overflow_cast-nodes c =
    omega (arith, rules_fit _ _ _ c.args.owner _ _ c.requires.records c.put_rules-middle.ensures, fresh_fit _ _ _ _ c.args.owner _ _ c.requires.records c.requires.pairs c.put_fresh-stop.ensures, c.requires.pairs_in_bounds, c.put_node-body.ensures.0, c.put_node-body.auto.nodes, c.put_rules-middle.auto.nodes, c.put_fresh-stop.auto.nodes)

pub returns : goal.returns
returns c = λ cs xs i j.
    combined_more _ _ c.args.nodes.now _ _ _ _ _ _ c.args.owner (rw c.from.ensures at c.put_node-body.ensures) c.put_rules-middle.ensures c.put_fresh-stop.ensures c.requires.records c.requires.pairs c.requires.pairs_in_bounds.0 c.put_node-body.auto.nodes c.put_rules-middle.auto.nodes c.put_fresh-stop.auto.nodes cs xs i j c.if-stop-middle.false

pub returns-then-stop-middle : goal.returns-then-stop-middle
returns-then-stop-middle c = λ cs xs i j.
    combined_alone _ _ c.args.nodes.now _ _ _ _ _ _ c.args.owner (rw c.from.ensures at c.put_node-body.ensures) c.put_rules-middle.ensures c.put_fresh-stop.ensures c.requires.records c.requires.pairs c.requires.pairs_in_bounds.0 c.put_node-body.auto.nodes c.put_rules-middle.auto.nodes c.put_fresh-stop.auto.nodes cs xs i j c.if-stop-middle.true _ c.alone.ensures
