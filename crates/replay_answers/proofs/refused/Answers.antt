-- Each piece goes behind the one before.
use borrow.Author.Rules.{rules}
use Rattle.lines.proofs.Writes.{writes}
use Rattle.replay_answers.proofs.refused.Goals as goal

pub returns : goal.returns
returns c = search (writes, rules)
