-- The flags go behind the word.
use borrow.Author.Rules.{rules}
use Rattle.lines.proofs.Writes.{writes}
use Rattle.replay_supertypes.proofs.typed.Goals as goal

pub returns-in-Entity : goal.returns-in-Entity
returns-in-Entity c = search (writes, rules)

pub returns-in-Named : goal.returns-in-Named
returns-in-Named c = search (writes, rules)
