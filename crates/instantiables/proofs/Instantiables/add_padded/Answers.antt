-- `add_padded` meets its contract: the place says what the list with the part is.
use borrow.Author.Rules.{rules}
use Rattle.instantiables.proofs.Insertion.{inserting}
use Rattle.instantiables.proofs.Instantiables.add_padded.Goals as goal

pub returns-in_default : goal.returns-in_default
returns-in_default c = search (inserting, rules)

pub returns-then-self-ge-LIMIT : goal.returns-then-self-ge-LIMIT
returns-then-self-ge-LIMIT c = search (inserting, rules)

pub overflow_mul-at : goal.overflow_mul-at
overflow_mul-at c = search (inserting, rules)

pub overflow_add-at : goal.overflow_add-at
overflow_add-at c = search (inserting, rules)

pub overflow_sub-self : goal.overflow_sub-self
overflow_sub-self c = search (inserting, rules)

pub raise-requires : goal.raise-requires
raise-requires c = search (inserting, rules)

pub put-requires : goal.put-requires
put-requires c = search (inserting, rules)

pub returns : goal.returns
returns c = search (inserting, rules)
