-- How the workspace was given back goes behind the answer.
use borrow.Author.Rules.{rules}
use Rattle.lines.proofs.Writes.{writes}
use Rattle.replay_supertypes.proofs.with_workspace.Goals as goal

pub returns : goal.returns
returns c = search (writes, rules)
