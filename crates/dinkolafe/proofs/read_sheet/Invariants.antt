-- `read_sheet`: what is held is within the buffer.
use Rattle.std.proofs.Common.{◌≤◌, ◌-◌, length}
use Rattle.dinkolafe.proofs.read_sheet.Given as goal

abbrev pub invariant-loop-held : goal.invariant-loop-held
invariant-loop-held g l = l.held ≤ length l.sheet

abbrev pub decreases-loop-held : goal.decreases-loop-held
decreases-loop-held g l = length l.sheet - l.held
