-- `read_node` and `read_terms` meet their contracts. The depth is the measure of both. The invariant of the walk over the fields: the expressions that were read stand behind the used numbers.
use lib.ListN.{length}
use Rattle.nodes.proofs.Standing.{Going}
use Rattle.nodes.proofs.+read_node_read_terms.Given as goal

abbrev pub decreases-read_node : goal.decreases-read_node
decreases-read_node l = l.depth

abbrev pub decreases-read_terms : goal.decreases-read_terms
decreases-read_terms l = l.depth

abbrev pub invariant-read_terms-loop-left : goal.invariant-read_terms-loop-left
invariant-read_terms-loop-left l = Going l.fields l.fn.nodes l.nodes l.used l.depth l.left l.next

abbrev pub decreases-read_terms-loop-left : goal.decreases-read_terms-loop-left
decreases-read_terms-loop-left l = length l.left
