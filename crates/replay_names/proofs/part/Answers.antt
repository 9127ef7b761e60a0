-- The bytes go behind the word.
use borrow.Author.Rules.{rules}
use Rattle.lines.proofs.Writes.{writes}
use Rattle.replay_names.proofs.part.Goals as goal

pub returns : goal.returns
returns c = search (writes, rules)
