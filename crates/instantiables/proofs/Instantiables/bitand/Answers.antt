-- `bitand` meets its contract.
use borrow.Author.Rules.{rules}
use Rattle.instantiables.proofs.Factors.{crossed}
use Rattle.instantiables.proofs.Instantiables.bitand.Goals as goal

pub add_joins-requires-clause-stands : goal.add_joins-requires-clause-stands
add_joins-requires-clause-stands c = search (crossed, rules)

pub returns : goal.returns
returns c = search (crossed, rules)
