-- `print_lines`: lines are left where the cursor stands, and there is room for one.
use Rattle.std.proofs.Common.{◌+◌, ◌≤◌, length}
use Rattle.sheet.specs.Told.{told_reading}
use Rattle.lister.specs.MirrorRest.{AtCursor, left}
use Rattle.dinkolafe.proofs.print_lines.Given as goal

abbrev pub invariant-loop-line : goal.invariant-loop-line
invariant-loop-line g l = AtCursor (told_reading l.reading) l.sheet l.names l.workspace l.cursor × (l.at + 800 ≤ length l.out)

abbrev pub decreases-loop-line : goal.decreases-loop-line
decreases-loop-line g l = left l.cursor
