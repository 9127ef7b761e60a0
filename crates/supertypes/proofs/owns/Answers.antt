-- `owns`: the number of the path, among the owners.
use borrow.Author.Rules.{rules}
use Rattle.supertypes.proofs.Standing.{stood}
use Rattle.supertypes.proofs.Finding.{deciding}
use Rattle.supertypes.proofs.owns.Goals as goal

pub returns-in_default : goal.returns-in_default
returns-in_default c = search (stood, deciding, rules)

pub is_owner-requires : goal.is_owner-requires
is_owner-requires c = search (stood, deciding, rules)

pub returns : goal.returns
returns c = search (stood, deciding, rules)
