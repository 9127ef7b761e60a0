-- The first, the last and the n-th of a list.
use mathlib.Core.Path.{◌≡◌, refl, sym, ap, ◌∙◌}
use mathlib.Core.List.{List, [], ◌∷◌, ◌++◌, map}
use mathlib.Core.Option.{Option, none, some}
use mathlib.Core.Bool.{Bool, true, false, cond}
use Prim.Native.Nat.{ℕ, zero, suc, ◌+◌, ◌<◌, ◌≤◌}
use native.Mathlib.Omega.{arith}
use lib.ListN.{length, get_elem?}
use Rattle.complex_entity.specs.MeaningRising.{◌∈◌}
use Rattle.complex_entity.specs.MeaningRising.◌∈◌.{here, there}
use Rattle.grammar.proofs.Choosing.{clash}
use Rattle.declarations.specs.MeaningNamespace.{first, or, last}

module _ {A : Type 0} where
  pub or_none : (m : Option A) → or m none ≡ m
  unfolding or
  or_none none = refl
  or_none (some x) = refl

  pub or_assoc : (a b c : Option A) → or (or a b) c ≡ or a (or b c)
  unfolding or
  or_assoc none b c = refl
  or_assoc (some x) b c = refl

  pub first_append : (p : A → Bool) (xs ys : List A) → first p (xs ++ ys) ≡ or (first p xs) (first p ys)
  unfolding first or
  first_append p [] ys = refl
  first_append p (x ∷ xs) ys = by (p x) (first_append p xs ys)
    where
      by : (b : Bool) → first p (xs ++ ys) ≡ or (first p xs) (first p ys) → cond b (some x) (first p (xs ++ ys)) ≡ or (cond b (some x) (first p xs)) (first p ys)
      by true e = refl
      by false e = e

  -- tests that say the same find the same
  pub first_same : (p q : A → Bool) → ((x : A) → p x ≡ q x) → (xs : List A) → first p xs ≡ first q xs
  unfolding first
  first_same p q h [] = refl
  first_same p q h (x ∷ xs) = rw (h x, first_same p q h xs) refl

  pub last_same : (p q : A → Bool) → ((x : A) → p x ≡ q x) → (xs : List A) → last p xs ≡ last q xs
  unfolding last
  last_same p q h [] = refl
  last_same p q h (x ∷ xs) = rw (h x, last_same p q h xs) refl

  -- what is found stands there and passes
  pub first_found : (p : A → Bool) (xs : List A) (x : A) → first p xs ≡ some x → (x ∈ xs) × (p x ≡ true)
  unfolding first
  first_found p [] x e = clash (cc)
  first_found p (y ∷ xs) x e = by (λ z. first_found p xs x z) (p y) refl e
    where
      by : (first p xs ≡ some x → (x ∈ xs) × (p x ≡ true)) → (b : Bool) → p y ≡ b → cond b (some y) (first p xs) ≡ some x → (x ∈ (y ∷ xs)) × (p x ≡ true)
      by go true k z = let u : y ≡ x = cc in (here (sym u), rw u at k)
      by go false k z = let r = go z in (there r.0, r.1)

  pub last_found : (p : A → Bool) (xs : List A) (x : A) → last p xs ≡ some x → (x ∈ xs) × (p x ≡ true)
  unfolding last or
  last_found p [] x e = clash (cc)
  last_found p (y ∷ xs) x e = by (λ z. last_found p xs x z) (last p xs) refl (p y) refl e
    where
      by : (last p xs ≡ some x → (x ∈ xs) × (p x ≡ true)) → (m : Option A) → last p xs ≡ m → (b : Bool) → p y ≡ b → or m (cond b (some y) none) ≡ some x → (x ∈ (y ∷ xs)) × (p x ≡ true)
      by go (some z) f b k e = let u : z ≡ x = cc in let r = go (f ∙ ap some u) in (there r.0, r.1)
      by go none f true k e = let u : y ≡ x = cc in (here (sym u), rw u at k)
      by go none f false k e = clash (cc)

  -- one that passes is found, or one before it
  pub first_finds : (p : A → Bool) (xs : List A) (x : A) → x ∈ xs → p x ≡ true → (y : A) × (first p xs ≡ some y)
  unfolding first
  first_finds p [] x x4 h = elim x4 [ ]
  first_finds p (y ∷ xs) x (here e) h = (y, rw (rw e at h) refl)
  first_finds p (y ∷ xs) x (there m) h = by (p y) (first_finds p xs x m h)
    where
      by : (b : Bool) → (z : A) × (first p xs ≡ some z) → (z : A) × (cond b (some y) (first p xs) ≡ some z)
      by true r = (y, refl)
      by false r = r

  pub none_first : (p : A → Bool) → ((x : A) → p x ≡ false) → (xs : List A) → first p xs ≡ none
  unfolding first
  none_first p h [] = refl
  none_first p h (x ∷ xs) = rw (h x) (none_first p h xs)

  -- ---- by number

  pub nth_left : (xs ys : List A) (k : ℕ) (x : A) → get_elem? xs k ≡ some x → get_elem? (xs ++ ys) k ≡ some x
  nth_left [] ys k x e = clash (cc)
  nth_left (y ∷ xs) ys zero x e = e
  nth_left (y ∷ xs) ys (suc k) x e = nth_left xs ys k x e

  pub nth_right : (xs ys : List A) (m : ℕ) → get_elem? (xs ++ ys) (length xs + m) ≡ get_elem? ys m
  nth_right [] ys m = let z : 0 + m ≡ m = omega arith in rw z refl
  nth_right (x ∷ xs) ys m = let z : suc (length xs) + m ≡ suc (length xs + m) = omega arith in rw z (nth_right xs ys m)

  pub nth_past : (xs : List A) (k : ℕ) → length xs ≤ k → get_elem? xs k ≡ none
  nth_past [] k h = refl
  nth_past (x ∷ xs) zero h = absurd (let y : ⊥ = omega arith in y)
  nth_past (x ∷ xs) (suc k) h = nth_past xs k (omega arith)

  pub nth_in : (xs : List A) (x : A) → x ∈ xs → (k : ℕ) × (k < length xs) × (get_elem? xs k ≡ some x)
  nth_in [] x x3 = elim x3 [ ]
  nth_in (y ∷ xs) x (here e) = (0, omega arith, ap some (sym e))
  nth_in (y ∷ xs) x (there m) = let r = nth_in xs x m in (suc r.0, (let z = r.1 in omega arith), r.2)

pub nth_map : {A B : Type 0} (f : A → B) (xs : List A) (k : ℕ) (x : A) → get_elem? xs k ≡ some x → get_elem? (map f xs) k ≡ some (f x)
nth_map f [] k x e = clash (cc)
nth_map f (y ∷ xs) zero x e = let u : y ≡ x = cc in rw u refl
nth_map f (y ∷ xs) (suc k) x e = nth_map f xs k x e
