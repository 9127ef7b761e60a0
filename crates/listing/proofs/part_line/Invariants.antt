-- `part_line` meets its contract. The invariant: i paths are put behind the number.
use Rattle.listing.proofs.Listing.{Listing}
use Rattle.listing.proofs.part_line.Given as goal

abbrev pub invariant-loop-i : goal.invariant-loop-i
invariant-loop-i l = Listing l.sheet l.number l.part l.initial.at l.i l.at l.initial.out l.out
