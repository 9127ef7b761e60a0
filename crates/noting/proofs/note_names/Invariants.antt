-- `note_names` meets its contract. The invariant: the names of the first `index` declarations are noted.
use Prim.Native.Nat.{◌/◌}
use lib.ListN.{length}
use Rattle.noting.proofs.Noting.{Noting}
use Rattle.noting.proofs.note_names.Given as goal

abbrev pub invariant-loop-index : goal.invariant-loop-index
invariant-loop-index l = Noting l.sheet (length l.initial.names / 4) l.index l.initial.names l.names
