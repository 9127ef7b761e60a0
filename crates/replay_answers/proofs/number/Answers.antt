-- The number goes behind the word.
use borrow.Author.Rules.{rules}
use Rattle.lines.proofs.Writes.{writes}
use Rattle.replay_answers.proofs.number.Goals as goal

pub returns : goal.returns
returns c = search (writes, rules)
