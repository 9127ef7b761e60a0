-- `with_joins` meets its contract.
use borrow.Author.Rules.{rules}
use Rattle.instantiables.proofs.Factors.{twofold}
use Rattle.instantiables.proofs.Instantiables.with_joins.Goals as goal

pub add-answer-requires : goal.add-answer-requires
add-answer-requires c = search (twofold, rules)

pub returns-in_default : goal.returns-in_default
returns-in_default c = search (twofold, rules)

pub add_joins-requires-clause-stands : goal.add_joins-requires-clause-stands
add_joins-requires-clause-stands c = search (twofold, rules)

pub returns : goal.returns
returns c = search (twofold, rules)
