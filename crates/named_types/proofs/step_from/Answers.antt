-- `step_from`: a law for each way out.
use borrow.Author.Rules.{rules}
use Rattle.named_types.proofs.Stepping.{stepping, turn_on, turn_unknown}
use Rattle.named_types.proofs.step_from.Goals as goal

pub returns-in_default : goal.returns-in_default
returns-in_default c = search (stepping, rules)

pub returns-then-tag-ne32 : goal.returns-then-tag-ne32
returns-then-tag-ne32 c = search (stepping, rules)

pub slice_bounds-schema_name-count : goal.slice_bounds-schema_name-count
slice_bounds-schema_name-count c = search (stepping, rules)

pub slice_bounds-schema_name-start : goal.slice_bounds-schema_name-start
slice_bounds-schema_name-start c = search (stepping, rules)

pub slice_bounds-schema_name-end : goal.slice_bounds-schema_name-end
slice_bounds-schema_name-end c = search (stepping, rules)

pub returns-in_err-next-in-Named : goal.returns-in_err-next-in-Named
returns-in_err-next-in-Named c =
    turn_unknown _ _ _ _ c.declaration.ensures _ c.in-Ok.is (search rules) _ c.body_at.ensures _ c.in-Named.is _ c.name_of-here.ensures.0 c.name_of-here.ensures.1 _ c.meant.ensures _ _ c.in_err-next-in-Named.ensures.value c.at.ensures _ c.from_residual.ensures.1

pub returns-in-Simple : goal.returns-in-Simple
returns-in-Simple c = search (stepping, rules)

pub returns-in-Other : goal.returns-in-Other
returns-in-Other c = search (stepping, rules)

pub returns-in_ok-next-in-Named : goal.returns-in_ok-next-in-Named
returns-in_ok-next-in-Named c =
    turn_on _ _ _ _ c.declaration.ensures _ c.in-Ok.is (search rules) _ c.body_at.ensures _ c.in-Named.is _ c.name_of-here.ensures.0 c.name_of-here.ensures.1 _ c.meant.ensures _ _ _ c.in_ok-next-in-Named.ensures.value c.from.ensures
