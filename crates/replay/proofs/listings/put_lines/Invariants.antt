-- `put_lines`: lines are left where the cursor stands; whether one was made so far is known.
use Rattle.std.proofs.Common.{◌≡◌, length}
use Rattle.sheet.specs.Told.{told_reading}
use Rattle.lister.specs.MirrorRest.{AtCursor, left}
use Rattle.replay.proofs.Listed.{Making}
use Rattle.replay.proofs.listings.put_lines.Given as goal

abbrev pub invariant-loop-line : goal.invariant-loop-line
invariant-loop-line g l =
    AtCursor (told_reading l.reading) l.sheet l.names l.workspace l.cursor × Making (told_reading l.reading) l.sheet l.names l.fn.workspace l.fn.first l.some l.workspace l.cursor
    × (length l.text ≡ 800)

abbrev pub decreases-loop-line : goal.decreases-loop-line
decreases-loop-line g l = left l.cursor
