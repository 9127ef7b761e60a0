-- A scope in its struct: one step more and one less are what they are on lists of steps.
use mathlib.Core.Path.{◌≡◌, refl}
use mathlib.Core.List.{List, [], ◌∷◌, ◌++◌}
use Prim.Native.Nat.{◌<◌, ◌≤◌}
use native.Mathlib.Omega.{arith}
use lib.ListN.{length}
use Rattle.std.specs.Prelude.{Some, None}
use Rattle.scope.specs.MeaningScope.{Step}
use Rattle.scope.specs.Held.{rung_of, scope_of}
use Rattle.scope.specs.MirrorScope.{pushed_on, popped_from}

-- ---- on lists of steps

pub push_appends : (a : List Step) (x : Step) → length a < 3 → pushed_on (scope_of a) (rung_of x) ≡ Some (scope_of (a ++ (x ∷ [])))
unfolding pushed_on scope_of
push_appends [] x h = refl
push_appends (a ∷ []) x h = refl
push_appends (a ∷ b ∷ []) x h = refl
push_appends (a ∷ b ∷ c ∷ d) x h = absurd (let y : ⊥ = omega arith in y)

pub push_refused : (a : List Step) (x : Step) → 3 ≤ length a → pushed_on (scope_of a) (rung_of x) ≡ None
unfolding pushed_on scope_of
push_refused [] x h = absurd (let y : ⊥ = omega arith in y)
push_refused (a ∷ []) x h = absurd (let y : ⊥ = omega arith in y)
push_refused (a ∷ b ∷ []) x h = absurd (let y : ⊥ = omega arith in y)
push_refused (a ∷ b ∷ c ∷ d) x h = refl

pub pop_drops : (a : List Step) (x : Step) → length a < 3 → popped_from (scope_of (a ++ (x ∷ []))) ≡ Some (scope_of a)
unfolding popped_from scope_of
pop_drops [] x h = refl
pop_drops (a ∷ []) x h = refl
pop_drops (a ∷ b ∷ []) x h = refl
pop_drops (a ∷ b ∷ c ∷ d) x h = absurd (let y : ⊥ = omega arith in y)

pub pop_refused : popped_from (scope_of []) ≡ None
unfolding popped_from scope_of
pop_refused = refl
