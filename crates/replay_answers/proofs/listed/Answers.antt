-- What was changed goes behind the count.
use borrow.Author.Rules.{rules}
use Rattle.lines.proofs.Writes.{writes}
use Rattle.replay_answers.proofs.listed.Goals as goal

pub returns : goal.returns
returns c = search (writes, rules)
