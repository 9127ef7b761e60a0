-- `supertype_at_in`: answered, then settled.
use Rattle.constraints.proofs.Questions.{settled}
use borrow.Author.Rules.{rules}
use Rattle.constraints.proofs.supertype_at_in.Goals as goal

pub returns : goal.returns
returns c = search (settled, rules)
