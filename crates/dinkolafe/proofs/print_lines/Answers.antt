-- A line ends within the lent bytes, and lines are left behind it.
use borrow.Author.Rules.{rules}
use Rattle.std.proofs.Common.{arith}
use Rattle.lister.proofs.Turning.{goes_on}
use Rattle.dinkolafe.proofs.Printing.{line_ends}
use Rattle.dinkolafe.proofs.print_lines.Goals as goal

pub overflow_add-at : goal.overflow_add-at
overflow_add-at g c =
    let turn = c.loop-line in
    let end = line_ends _ _ _ _ _ turn.invariant.0 _ turn.out turn.at (omega arith) _ _ c.in-Some.ensures.gives in
    search rules

pub written-requires : goal.written-requires
written-requires g c =
    let turn = c.loop-line in
    let end = line_ends _ _ _ _ _ turn.invariant.0 _ turn.out turn.at (omega arith) _ _ c.in-Some.ensures.gives in
    search rules

pub loop-line-preserved : goal.loop-line-preserved
loop-line-preserved g c = (search (goes_on, rules), search rules)
