-- `next_supertype`: the next owner, its list, its line.
use Rattle.supertypes.proofs.Standing.{stood_used, stood_inside}
use Rattle.lister.proofs.Passing.{pass_small, pass_in, passing}
use Prim.Native.Nat.{◌≤◌}
use borrow.Author.Rules.{rules}
use Rattle.lister.proofs.next_supertype.Goals as goal

pub slice_bounds-next_owner-end : goal.slice_bounds-next_owner-end
slice_bounds-next_owner-end c = search (passing, stood_used, stood_inside, rules)

pub slice_bounds-next_owner-end-2 : goal.slice_bounds-next_owner-end-2
slice_bounds-next_owner-end-2 c = search (passing, stood_used, stood_inside, rules)

pub next_owner-requires : goal.next_owner-requires
next_owner-requires c = search (passing, stood_used, stood_inside, rules)

pub next_type-requires-clause-ready : goal.next_type-requires-clause-ready
next_type-requires-clause-ready c = search (passing, stood_used, stood_inside, rules)

pub returns-in_default-clause-gives : goal.returns-in_default-clause-gives
returns-in_default-clause-gives c = search (passing, stood_used, stood_inside, rules)

pub returns-in_default-clause-falls : goal.returns-in_default-clause-falls
returns-in_default-clause-falls c = search (passing, stood_used, stood_inside, rules)

pub list_of-requires : goal.list_of-requires
list_of-requires c = search (passing, stood_used, stood_inside, rules)

pub supertype_line_of-requires : goal.supertype_line_of-requires
supertype_line_of-requires c =
    let small : c.in-Ok.list.count ≤ 65535 = pass_small _ _ _ _ _ c.requires.at_cursor _ _ _ c.list_of.ensures.listed _ c.in-Ok.is in
    (search (passing, rules), search (passing, rules), small, search rules)

pub supertype_line_of-requires-in-Err : goal.supertype_line_of-requires-in-Err
supertype_line_of-requires-in-Err c = search (passing, stood_used, stood_inside, rules)

pub returns-in-Ok-clause-gives : goal.returns-in-Ok-clause-gives
returns-in-Ok-clause-gives c = search (passing, stood_used, stood_inside, rules)

pub returns-in-Ok-clause-falls : goal.returns-in-Ok-clause-falls
returns-in-Ok-clause-falls c =
    let small : c.in-Ok.list.count ≤ 65535 = pass_small _ _ _ _ _ c.requires.at_cursor _ _ _ c.list_of.ensures.listed _ c.in-Ok.is in
    search (pass_in, small, passing, rules)

pub returns-in-Err-clause-gives : goal.returns-in-Err-clause-gives
returns-in-Err-clause-gives c = search (passing, stood_used, stood_inside, rules)

pub returns-in-Err-clause-falls : goal.returns-in-Err-clause-falls
returns-in-Err-clause-falls c = search (passing, stood_used, stood_inside, rules)
