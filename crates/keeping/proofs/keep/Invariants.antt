-- The invariant: what is kept stands in front, and with what is kept of the rows that are left it is the whole answer.
use Rattle.std.specs.Prelude.{Bool, ◌≤◌}
use Rattle.complex_entity.specs.MeaningParts.{Part}
use Rattle.complex_entity.specs.MeaningLists.{keep}
use Rattle.rows.specs.MirrorRows.{parts_at}
use Rattle.keeping.specs.MirrorKeeping.{Tells}
use Rattle.keeping.proofs.Keeping.{Keeping}
use Rattle.keeping.proofs.keep.Given as goal

abbrev pub invariant-loop-i : goal.invariant-loop-i
invariant-loop-i g l = (l.kept ≤ l.i) × ((test : Part → Bool) → Tells (goal.F-post g l.wanted) test → Keeping test l.initial.rows l.rows l.kept l.i l.i-end (keep test (parts_at l.i-end l.initial.rows)))
