-- `next_type`: the next type, then its line.
use Rattle.lister.proofs.Typing.{typing}
use borrow.Author.Rules.{rules}
use Rattle.lister.proofs.next_type.Goals as goal

pub returns-in_default-clause-gives : goal.returns-in_default-clause-gives
returns-in_default-clause-gives c = search (typing, rules)

pub type_line_of-requires-clause-fact : goal.type_line_of-requires-clause-fact
type_line_of-requires-clause-fact c = search (typing, rules)

pub overflow_add-result : goal.overflow_add-result
overflow_add-result c = search (typing, rules)

pub returns-clause-gives : goal.returns-clause-gives
returns-clause-gives c = search (typing, rules)

pub returns-clause-falls : goal.returns-clause-falls
returns-clause-falls c = search (typing, rules)
