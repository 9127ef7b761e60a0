-- `next_part`: the row of the number.
use Rattle.lister.proofs.Printing.{printing}
use borrow.Author.Rules.{rules}
use Rattle.lister.proofs.next_part.Goals as goal

pub next_supertype-requires-clause-at_cursor : goal.next_supertype-requires-clause-at_cursor
next_supertype-requires-clause-at_cursor c = search (printing, rules)

pub returns-then-count-number-clause-gives : goal.returns-then-count-number-clause-gives
returns-then-count-number-clause-gives c = search (printing, rules)

pub returns-then-count-number-clause-falls : goal.returns-then-count-number-clause-falls
returns-then-count-number-clause-falls c = search (printing, rules)

pub overflow_mul-at : goal.overflow_mul-at
overflow_mul-at c = search (printing, rules)

pub overflow_add-at : goal.overflow_add-at
overflow_add-at c = search (printing, rules)

pub offset_bounds-workspace-at : goal.offset_bounds-workspace-at
offset_bounds-workspace-at c = search (printing, rules)

pub slice_bounds-part_line-count : goal.slice_bounds-part_line-count
slice_bounds-part_line-count c = search (printing, rules)

pub slice_bounds-part_line-start : goal.slice_bounds-part_line-start
slice_bounds-part_line-start c = search (printing, rules)

pub part_line-stop-requires : goal.part_line-stop-requires
part_line-stop-requires c = search (printing, rules)

pub returns-clause-gives : goal.returns-clause-gives
returns-clause-gives c = search (printing, rules)

pub returns-clause-falls : goal.returns-clause-falls
returns-clause-falls c = search (printing, rules)
