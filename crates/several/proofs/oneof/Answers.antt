use borrow.Author.Rules.{rules}
use Rattle.several.proofs.Walks.{uniting}
use Rattle.several.proofs.oneof.Goals as goal

pub loop-n-init : goal.loop-n-init
loop-n-init c = search (uniting, rules)

pub add-answer-requires : goal.add-answer-requires
add-answer-requires c = search (uniting, rules)

pub returns-in_default : goal.returns-in_default
returns-in_default c = search (uniting, rules)

pub loop-n-preserved : goal.loop-n-preserved
loop-n-preserved c = search (uniting, rules)

pub returns : goal.returns
returns c = search (uniting, rules)

pub slice_bounds-rest-start : goal.slice_bounds-rest-start
slice_bounds-rest-start c = search (uniting, rules)

pub slice_bounds-rest-count : goal.slice_bounds-rest-count
slice_bounds-rest-count c = search (uniting, rules)
