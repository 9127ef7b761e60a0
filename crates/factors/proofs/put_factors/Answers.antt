-- `put_factors` meets its contract.
use borrow.Author.Rules.{rules}
use Rattle.factors.proofs.Putting.{factoring}
use Rattle.factors.proofs.put_factors.Goals as goal

pub bounds-item-0 : goal.bounds-item-0
bounds-item-0 c = search (factoring, rules)

pub slice_bounds-append-count : goal.slice_bounds-append-count
slice_bounds-append-count c = search (factoring, rules)

pub slice_bounds-append-start : goal.slice_bounds-append-start
slice_bounds-append-start c = search (factoring, rules)

pub returns-in-Andor : goal.returns-in-Andor
returns-in-Andor c = search (factoring, rules)

pub returns-in_default : goal.returns-in_default
returns-in_default c = search (factoring, rules)
