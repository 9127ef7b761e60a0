-- `named`: the number, the flag and the walk.
use borrow.Author.Rules.{rules}
use Rattle.type_ref.proofs.Typing.{naming}
use Rattle.type_ref.proofs.named.Goals as goal

pub returns-in_default : goal.returns-in_default
returns-in_default c = search (naming, rules)

pub returns-in-Ok : goal.returns-in-Ok
returns-in-Ok c = search (naming, rules)

pub returns-in-Err : goal.returns-in-Err
returns-in-Err c = search (naming, rules)
