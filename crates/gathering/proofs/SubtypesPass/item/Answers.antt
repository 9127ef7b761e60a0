-- the names of the first field 34.
use borrow.Author.Rules.{rules}
use Rattle.gathering.proofs.Pairs.{subtyping}
use Rattle.gathering.proofs.SubtypesPass.item.Goals as goal

pub returns-in_default : goal.returns-in_default
returns-in_default c = search (subtyping, rules)

pub put_pairs-requires-clause-room : goal.put_pairs-requires-clause-room
put_pairs-requires-clause-room c = search (subtyping, rules)

pub returns : goal.returns
returns c = search (subtyping, rules)
