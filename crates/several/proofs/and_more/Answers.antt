use borrow.Author.Rules.{rules}
use Rattle.several.proofs.Terms.{prefixing}
use Rattle.several.proofs.and_more.Goals as goal

pub bitand-answer-requires-clause-in_bounds : goal.bitand-answer-requires-clause-in_bounds
bitand-answer-requires-clause-in_bounds c = search (prefixing, rules)

pub bitand-answer-requires-clause-sets : goal.bitand-answer-requires-clause-sets
bitand-answer-requires-clause-sets c = search (prefixing, rules)

pub returns-in_default : goal.returns-in_default
returns-in_default c = search (prefixing, rules)

pub loop-n-preserved : goal.loop-n-preserved
loop-n-preserved c = search (prefixing, rules)

pub returns : goal.returns
returns c = search (prefixing, rules)

pub slice_bounds-rest-start : goal.slice_bounds-rest-start
slice_bounds-rest-start c = search (prefixing, rules)

pub slice_bounds-rest-count : goal.slice_bounds-rest-count
slice_bounds-rest-count c = search (prefixing, rules)
