-- `Judge::check_fields`: its loop keeps that what is left of the value decides the answer; its value falls at each call.
use Rattle.std.proofs.Common.{◌-◌}
use Rattle.sheet.specs.Told.{told_reading}
use Rattle.sheet.specs.MirrorCheck.{walk_at}
use Rattle.sheet.proofs.Onward.{Walking}
use Rattle.sheet.proofs.Judge.+check_fields.Given as goal

abbrev pub decreases-check_fields : goal.decreases-check_fields
decreases-check_fields l = l.value.end - l.at

abbrev pub invariant-loop-reason : goal.invariant-loop-reason
invariant-loop-reason l = Walking (told_reading l.self.reading) l.self.bytes.now l.value.parent.tag l.at l.value.end l.value.depth l.from l.state l.c (walk_at (told_reading l.self.reading) l.self.bytes.now l.value.parent.tag l.initial.state l.initial.from l.value.end l.value.depth l.initial.c)

abbrev pub decreases-loop-reason : goal.decreases-loop-reason
decreases-loop-reason l = l.value.end - l.from
