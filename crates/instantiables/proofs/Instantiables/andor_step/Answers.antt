-- `andor_step` meets its contract.
use borrow.Author.Rules.{rules}
use Rattle.instantiables.proofs.Factors.{stepping}
use Rattle.instantiables.proofs.Instantiables.andor_step.Goals as goal

pub returns-in_default : goal.returns-in_default
returns-in_default c = search (stepping, rules)

pub unite-requires : goal.unite-requires
unite-requires c = search (stepping, rules)

pub returns : goal.returns
returns c = search (stepping, rules)
