-- `typed`: by the kind.
use borrow.Author.Rules.{rules}
use Rattle.type_ref.proofs.Typing.{typing}
use Rattle.type_ref.proofs.typed.Goals as goal

pub returns-in-Err : goal.returns-in-Err
returns-in-Err c = search (typing, rules)

pub returns-in-Entity : goal.returns-in-Entity
returns-in-Entity c = search (typing, rules)

pub named-requires : goal.named-requires
named-requires c = search (typing, rules)

pub returns-in-Type : goal.returns-in-Type
returns-in-Type c = search (typing, rules)

pub returns-in_default : goal.returns-in_default
returns-in_default c = search (typing, rules)
