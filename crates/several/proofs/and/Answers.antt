-- `and` meets its contract: the first two terms are joined, then the further ones.
use borrow.Author.Rules.{rules}
use Rattle.several.proofs.Terms.{anding}
use Rattle.several.proofs.and.Goals as goal

pub returns-then-counts-lt2 : goal.returns-then-counts-lt2
returns-then-counts-lt2 c = search (anding, rules)

pub slice_bounds-rest-count : goal.slice_bounds-rest-count
slice_bounds-rest-count c = search (anding, rules)

pub slice_bounds-rest-start : goal.slice_bounds-rest-start
slice_bounds-rest-start c = search (anding, rules)

pub bitand-answer-requires-clause-in_bounds : goal.bitand-answer-requires-clause-in_bounds
bitand-answer-requires-clause-in_bounds c = search (anding, rules)

pub bitand-answer-requires-clause-sets : goal.bitand-answer-requires-clause-sets
bitand-answer-requires-clause-sets c = search (anding, rules)

pub returns-in_default : goal.returns-in_default
returns-in_default c = search (anding, rules)

pub slice_bounds-further-count : goal.slice_bounds-further-count
slice_bounds-further-count c = search (anding, rules)

pub slice_bounds-further-start : goal.slice_bounds-further-start
slice_bounds-further-start c = search (anding, rules)

pub and_more-requires-clause-stands : goal.and_more-requires-clause-stands
and_more-requires-clause-stands c = search (anding, rules)

pub and_more-requires-clause-sets : goal.and_more-requires-clause-sets
and_more-requires-clause-sets c = search (anding, rules)

pub returns : goal.returns
returns c = search (anding, rules)
