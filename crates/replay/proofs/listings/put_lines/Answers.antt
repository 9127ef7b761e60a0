-- A line is within the text, lines are left behind it, and whether one was made is known.
use borrow.Author.Rules.{rules}
use Rattle.lister.proofs.Turning.{goes_on, line_inside}
use Rattle.replay.proofs.Listed.{making}
use Rattle.replay.proofs.listings.put_lines.Goals as goal

pub loop-line-init : goal.loop-line-init
loop-line-init g c = search (making, rules)

pub returns : goal.returns
returns g c = search (making, rules)

pub slice_bounds-text-end : goal.slice_bounds-text-end
slice_bounds-text-end g c =
    let end = line_inside _ _ _ _ _ c.loop-line.invariant.0 _ _ _ _ c.in-Some.ensures.gives in
    search rules

pub slice_bounds-put_digits-end : goal.slice_bounds-put_digits-end
slice_bounds-put_digits-end g c =
    let end = line_inside _ _ _ _ _ c.loop-line.invariant.0 _ _ _ _ c.in-Some.ensures.gives in
    search rules

pub loop-line-preserved : goal.loop-line-preserved
loop-line-preserved g c = (search (goes_on, rules), search (making, rules), search rules)
