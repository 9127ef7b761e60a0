-- `place` meets its contract. The invariant: the place is among the rows from low up to high.
use Prim.Native.Nat.{◌-◌}
use Rattle.rows.specs.MirrorRows.{parts_at}
use Rattle.rows.specs.MirrorLists.{place_of}
use Rattle.rows.proofs.Halving.{Placing}
use Rattle.rows.proofs.place.Given as goal

abbrev pub invariant-loop-low : goal.invariant-loop-low
invariant-loop-low l = Placing l.rows l.count l.names l.low l.high (place_of (parts_at l.count l.rows) l.names)

abbrev pub decreases-loop-low : goal.decreases-loop-low
decreases-loop-low l = l.high - l.low
