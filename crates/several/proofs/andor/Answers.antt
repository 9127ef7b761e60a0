use borrow.Author.Tests.{eqb-true}
use mathlib.Core.Path.{◌≡◌, sym, ◌∙◌}
use lib.ListN.{length}
use borrow.Author.Rules.{rules}
use Rattle.several.proofs.Choosing.{choosing}
use Rattle.several.proofs.andor.Goals as goal

pub returns-then-is_empty : goal.returns-then-is_empty
returns-then-is_empty c = let none : length c.args.counts.now ≡ 0 = eqb-true _ _ (sym c.is_empty.ensures ∙ c.if-is_empty.true) in search (choosing, rules)

pub returns-then-counts-gt-FACTORS : goal.returns-then-counts-gt-FACTORS
returns-then-counts-gt-FACTORS c = search (choosing, rules)

pub loop-n-init : goal.loop-n-init
loop-n-init c = search (choosing, rules)

pub andor_step-answer-requires-clause-stands : goal.andor_step-answer-requires-clause-stands
andor_step-answer-requires-clause-stands c = search (choosing, rules)

pub andor_step-answer-requires-clause-sets : goal.andor_step-answer-requires-clause-sets
andor_step-answer-requires-clause-sets c = search (choosing, rules)

pub returns-in_default : goal.returns-in_default
returns-in_default c = search (choosing, rules)

pub loop-n-preserved : goal.loop-n-preserved
loop-n-preserved c = search (choosing, rules)

pub returns : goal.returns
returns c = search (choosing, rules)

pub slice_bounds-rest-start : goal.slice_bounds-rest-start
slice_bounds-rest-start c = search (choosing, rules)

pub slice_bounds-rest-count : goal.slice_bounds-rest-count
slice_bounds-rest-count c = search (choosing, rules)
