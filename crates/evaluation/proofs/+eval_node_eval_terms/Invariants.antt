-- `eval_node` and `eval_terms` meet their contracts. The depth is the measure of both. The invariant of the walk over the terms: the lists of the terms that are left, taken in, make the node's answer.
use lib.ListN.{length}
use Rattle.expression.specs.MirrorKinds.{kind_of}
use Rattle.evaluation.proofs.Walking.{Going}
use Rattle.evaluation.proofs.+eval_node_eval_terms.Given as goal

abbrev pub decreases-eval_node : goal.decreases-eval_node
decreases-eval_node l = l.depth

abbrev pub decreases-eval_terms : goal.decreases-eval_terms
decreases-eval_terms l = l.depth

abbrev pub invariant-eval_terms-loop-left : goal.invariant-eval_terms-loop-left
invariant-eval_terms-loop-left l = Going (kind_of l.kind) l.terms l.fn.rows l.fn.factor l.fn.scratch l.depth l.rows l.factor l.scratch l.list l.n l.left

abbrev pub decreases-eval_terms-loop-left : goal.decreases-eval_terms-loop-left
decreases-eval_terms-loop-left l = length l.left
