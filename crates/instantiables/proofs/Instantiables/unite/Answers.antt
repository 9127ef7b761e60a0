-- `unite` meets its contract.
use borrow.Author.Rules.{rules}
use Rattle.instantiables.proofs.Unions.{unions}
use Rattle.instantiables.proofs.Instantiables.unite.Goals as goal

pub returns-then-total-gt-LIMIT : goal.returns-then-total-gt-LIMIT
returns-then-total-gt-LIMIT c = search (unions, rules)

pub returns : goal.returns
returns c = search (unions, rules)
