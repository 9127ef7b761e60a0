-- Which scopes start which: the claims on the partial order, by induction on both.
use mathlib.Core.Path.{◌≡◌, refl, ap, ◌∙◌}
use mathlib.Core.List.{List, [], ◌∷◌, ◌++◌}
use mathlib.Core.Bool.{Bool, true, false, cond}
use Prim.Native.Nat.{suc, ◌+◌}
use native.Mathlib.Omega.{arith}
use lib.ListN.{length, length-append}
use Rattle.grammar.specs.MeaningReading.{Reading}
use Rattle.grammar.proofs.Choosing.{clash, both}
use Rattle.scope.specs.MeaningScope.{Step, Scope, steps_equal, same_scope, starts, Comparison, compared}
use Rattle.scope.specs.MeaningScope.Comparison.{less, equal, greater, unordered}
use Rattle.scope.specs.Claims.{Begins}
use Rattle.scope.proofs.Equality.{two, step_sym, scope_sym}
use Rattle.scope.proofs.Precedence.{too_long}

module _ (rd : Reading) where
  same_starts : (a b : Scope) → same_scope rd a b ≡ true → starts rd a b ≡ true
  unfolding same_scope starts
  same_starts [] b e = refl
  same_starts (x ∷ a) [] e = clash (cc)
  same_starts (x ∷ a) (y ∷ b) e = let z = both (steps_equal rd x y) (same_scope rd a b) e in two z.0 (same_starts a b z.1)

  starts_same : (a b : Scope) → starts rd a b ≡ true → starts rd b a ≡ true → same_scope rd a b ≡ true
  unfolding same_scope starts
  starts_same [] [] e f = refl
  starts_same [] (y ∷ b) e f = clash (cc)
  starts_same (x ∷ a) [] e f = clash (cc)
  starts_same (x ∷ a) (y ∷ b) e f =
      let z = both (steps_equal rd x y) (starts rd a b) e in
      let w = both (steps_equal rd y x) (starts rd b a) f in
      two z.0 (starts_same a b z.1 w.1)

  same_long : (a b : Scope) → same_scope rd a b ≡ true → length a ≡ length b
  unfolding same_scope
  same_long [] [] e = refl
  same_long [] (y ∷ b) e = clash (cc)
  same_long (x ∷ a) [] e = clash (cc)
  same_long (x ∷ a) (y ∷ b) e = let z = both (steps_equal rd x y) (same_scope rd a b) e in ap suc (same_long a b z.1)

  onward : (a b r : Scope) → starts rd a b ≡ true → starts rd a (b ++ r) ≡ true
  unfolding starts
  onward [] b r e = refl
  onward (x ∷ a) [] r e = clash (cc)
  onward (x ∷ a) (y ∷ b) r e = let z = both (steps_equal rd x y) (starts rd a b) e in two z.0 (onward a b r z.1)

  begin_starts : (a b : Scope) → Begins rd a b → (starts rd a b ≡ true) × (starts rd b a ≡ false)
  begin_starts a b f =
      let l = same_long a f.0 f.4 in
      let n : length b ≡ length f.0 + suc (length f.2) = ap length f.3 ∙ simp (length-append) refl in
      (rw f.3 (onward a f.0 (f.1 ∷ f.2) (same_starts a f.0 f.4)), too_long rd b a (omega (arith, l, n)))

  starts_begin : (a b : Scope) → starts rd a b ≡ true → starts rd b a ≡ false → Begins rd a b
  unfolding starts same_scope
  starts_begin [] [] e f = clash (cc)
  starts_begin [] (y ∷ b) e f = ([], y, b, refl, refl)
  starts_begin (x ∷ a) [] e f = clash (cc)
  starts_begin (x ∷ a) (y ∷ b) e f =
      let z = both (steps_equal rd x y) (starts rd a b) e in
      let w : starts rd b a ≡ false = rw (step_sym rd x y z.0) at f in
      let r = starts_begin a b z.1 w in
      (y ∷ r.0, r.1, r.2, ap (λ (l : List Step). y ∷ l) r.3, two z.0 r.4)

  -- the answer by its two tests
  abbrev Means : Bool → Bool → Comparison → Type 0
  Means x y c = cond x (cond y equal greater) (cond y less unordered) ≡ c

  when_equal : (x y : Bool) → Means x y equal → (x ≡ true) × (y ≡ true)
  when_equal true true e = (refl, refl)
  when_equal true false e = clash (cc)
  when_equal false true e = clash (cc)
  when_equal false false e = clash (cc)

  when_greater : (x y : Bool) → Means x y greater → (x ≡ true) × (y ≡ false)
  when_greater true true e = clash (cc)
  when_greater true false e = (refl, refl)
  when_greater false true e = clash (cc)
  when_greater false false e = clash (cc)

  when_less : (x y : Bool) → Means x y less → (x ≡ false) × (y ≡ true)
  when_less true true e = clash (cc)
  when_less true false e = clash (cc)
  when_less false true e = (refl, refl)
  when_less false false e = clash (cc)

  module _ (a b : Scope) where
    pub equal_same : compared rd a b ≡ equal → same_scope rd a b ≡ true
    unfolding compared
    equal_same e = let z = when_equal (starts rd a b) (starts rd b a) e in starts_same a b z.0 z.1

    pub same_equal : same_scope rd a b ≡ true → compared rd a b ≡ equal
    unfolding compared
    same_equal e = rw (same_starts a b e, same_starts b a (scope_sym rd a b e)) refl

    pub greater_begins : compared rd a b ≡ greater → Begins rd a b
    unfolding compared
    greater_begins e = let z = when_greater (starts rd a b) (starts rd b a) e in starts_begin a b z.0 z.1

    pub begins_greater : Begins rd a b → compared rd a b ≡ greater
    unfolding compared
    begins_greater f = let z = begin_starts a b f in rw (z.0, z.1) refl

    pub less_begins : compared rd a b ≡ less → Begins rd b a
    unfolding compared
    less_begins e = let z = when_less (starts rd a b) (starts rd b a) e in starts_begin b a z.1 z.0

    pub begins_less : Begins rd b a → compared rd a b ≡ less
    unfolding compared
    begins_less f = let z = begin_starts b a f in rw (z.0, z.1) refl
