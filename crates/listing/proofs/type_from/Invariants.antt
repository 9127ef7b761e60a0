-- `type_from` meets its contract. The invariant: the first type from there on is the one that is sought.
use Prim.Native.Nat.{◌-◌}
use lib.ListN.{length}
use Rattle.declarations.specs.MeaningNamespace.{schemas_in, declarations}
use Rattle.listing.proofs.Typing.{Seeking}
use Rattle.listing.proofs.type_from.Given as goal

abbrev pub invariant-loop-tag : goal.invariant-loop-tag
invariant-loop-tag l = Seeking l.sheet l.number l.n

abbrev pub decreases-loop-tag : goal.decreases-loop-tag
decreases-loop-tag l = length (declarations (schemas_in l.sheet)) - l.n
