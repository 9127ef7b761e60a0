-- The list stands at the front of the rows, whichever expression the nodes are.
use borrow.Author.Rules.{rules}
use Rattle.replay_rows.proofs.Evaluating.{evaluating}
use Rattle.replay_rows.proofs.valuing.value.Goals as goal

pub hand_out-requires : goal.hand_out-requires
hand_out-requires c = search (evaluating, rules)

pub returns : goal.returns
returns c = search (evaluating, rules)
