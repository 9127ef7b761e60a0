-- A place that is lent: where the reader of the steps leaves it.
use mathlib.Core.Path.{◌≡◌, refl}
use mathlib.Core.List.{List}
use Prim.Native.Nat.{ℕ, zero-le}
use lib.ListN.{length}
use Rattle.scope.specs.MeaningScope.{most_steps}
use Rattle.query.specs.MirrorQuery.{InQuery, moved_to, front}
use Rattle.query.specs.declared.Place.{Place}
use Rattle.query.proofs.Accepting.{taken_inside}

pub place_inside : (q : List ℕ) (p : Place) → p ≡ moved_to (front q).after (record { at = 0; end = length q }) → InQuery q p.at p.end
place_inside q p h = rw h (taken_inside most_steps q 0 zero-le, refl)
