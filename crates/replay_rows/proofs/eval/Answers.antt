-- The nodes that were built are an expression, within their array.
use borrow.Author.Rules.{rules}
use Rattle.replay_rows.proofs.Built.{nodes_inside, nodes_stand}
use Rattle.replay_rows.proofs.eval.Goals as goal

pub slice_bounds-numbers-end : goal.slice_bounds-numbers-end
slice_bounds-numbers-end c = nodes_inside _ _ _ _ _ c.in_ok-used.was c.read_node.ensures

pub slice_bounds-of_nodes-end : goal.slice_bounds-of_nodes-end
slice_bounds-of_nodes-end c =
    let inside = nodes_inside _ _ _ _ _ c.in_ok-used.was c.read_node.ensures in
    search rules

pub of_nodes-requires : goal.of_nodes-requires
of_nodes-requires c = nodes_stand _ _ _ _ _ c.in_ok-used.was c.read_node.ensures
