-- Names compared byte by byte, and that equal names, steps and scopes are so as an equivalence has it.
use mathlib.Core.Path.{◌≡◌, refl, sym, ◌∙◌}
use mathlib.Core.List.{List, [], ◌∷◌}
use mathlib.Core.Bool.{Bool, true, ◌&&◌}
use Prim.Native.Nat.{ℕ}
use borrow.Author.Tests.{eq-eqb, eqb-true}
use lib.Dec.{eqb}
use lib.Pointwise.{pointwise}
use Rattle.grammar.specs.MeaningReading.{Reading}
use Rattle.grammar.specs.MeaningReading.Reading.{rust}
use Rattle.grammar.proofs.Choosing.{clash, both}
use Rattle.scope.specs.MeaningNames.{same_bytes, same_name}
use Rattle.scope.specs.MeaningScope.{Step, Scope, place_of, steps_equal, same_scope}

-- the slices' own test
pub bytewise : (a b : List ℕ) → pointwise eqb a b ≡ same_bytes a b
unfolding same_bytes
bytewise [] [] = refl
bytewise [] (y ∷ ys) = refl
bytewise (x ∷ xs) [] = refl
bytewise (x ∷ xs) (y ∷ ys) = rw (bytewise xs ys) refl

-- ---- an equivalence

bytes_refl : (a : List ℕ) → same_bytes a a ≡ true
unfolding same_bytes
bytes_refl [] = refl
bytes_refl (x ∷ xs) = rw (eq-eqb x x refl, bytes_refl xs) refl

pub bytes_equal : (a b : List ℕ) → same_bytes a b ≡ true → a ≡ b
unfolding same_bytes
bytes_equal [] [] e = refl
bytes_equal [] (y ∷ ys) e = clash (cc)
bytes_equal (x ∷ xs) [] e = clash (cc)
bytes_equal (x ∷ xs) (y ∷ ys) e =
    let z = both (eqb x y) (same_bytes xs ys) e in
    let u = eqb-true x y z.0 in
    let v = bytes_equal xs ys z.1 in
    cc

pub name_refl : (rd : Reading) (a : List ℕ) → same_name rd a a ≡ true
unfolding same_name
name_refl rust a = bytes_refl a

pub name_sym : (rd : Reading) (a b : List ℕ) → same_name rd a b ≡ true → same_name rd b a ≡ true
unfolding same_name
name_sym rust a b e = rw (bytes_equal a b e) (bytes_refl b)

pub name_trans : (rd : Reading) (a b c : List ℕ) → same_name rd a b ≡ true → same_name rd b c ≡ true → same_name rd a c ≡ true
unfolding same_name
name_trans rust a b c e f = rw (bytes_equal a b e) f

pub two : {a b : Bool} → a ≡ true → b ≡ true → a && b ≡ true
two e f = rw (e, f) refl

module _ (rd : Reading) where
  pub step_refl : (x : Step) → steps_equal rd x x ≡ true
  unfolding steps_equal
  step_refl x = two (eq-eqb (place_of x.kind) (place_of x.kind) refl) (name_refl rd x.name.bytes)

  pub step_sym : (x y : Step) → steps_equal rd x y ≡ true → steps_equal rd y x ≡ true
  unfolding steps_equal
  step_sym x y e =
      let z = both (eqb (place_of x.kind) (place_of y.kind)) (same_name rd x.name.bytes y.name.bytes) e in
      two (eq-eqb (place_of y.kind) (place_of x.kind) (sym (eqb-true (place_of x.kind) (place_of y.kind) z.0))) (name_sym rd x.name.bytes y.name.bytes z.1)

  pub step_trans : (x y z : Step) → steps_equal rd x y ≡ true → steps_equal rd y z ≡ true → steps_equal rd x z ≡ true
  unfolding steps_equal
  step_trans x y z e f =
      let u = both (eqb (place_of x.kind) (place_of y.kind)) (same_name rd x.name.bytes y.name.bytes) e in
      let v = both (eqb (place_of y.kind) (place_of z.kind)) (same_name rd y.name.bytes z.name.bytes) f in
      two (eq-eqb (place_of x.kind) (place_of z.kind) (eqb-true (place_of x.kind) (place_of y.kind) u.0 ∙ eqb-true (place_of y.kind) (place_of z.kind) v.0)) (name_trans rd x.name.bytes y.name.bytes z.name.bytes u.1 v.1)

  pub scope_refl : (a : Scope) → same_scope rd a a ≡ true
  unfolding same_scope
  scope_refl [] = refl
  scope_refl (x ∷ xs) = two (step_refl x) (scope_refl xs)

  pub scope_sym : (a b : Scope) → same_scope rd a b ≡ true → same_scope rd b a ≡ true
  unfolding same_scope
  scope_sym [] [] e = refl
  scope_sym [] (y ∷ ys) e = clash (cc)
  scope_sym (x ∷ xs) [] e = clash (cc)
  scope_sym (x ∷ xs) (y ∷ ys) e = let z = both (steps_equal rd x y) (same_scope rd xs ys) e in two (step_sym x y z.0) (scope_sym xs ys z.1)

  pub scope_trans : (a b c : Scope) → same_scope rd a b ≡ true → same_scope rd b c ≡ true → same_scope rd a c ≡ true
  unfolding same_scope
  scope_trans [] [] c e f = f
  scope_trans [] (y ∷ ys) c e f = clash (cc)
  scope_trans (x ∷ xs) [] c e f = clash (cc)
  scope_trans (x ∷ xs) (y ∷ ys) [] e f = clash (cc)
  scope_trans (x ∷ xs) (y ∷ ys) (z ∷ zs) e f =
      let u = both (steps_equal rd x y) (same_scope rd xs ys) e in
      let v = both (steps_equal rd y z) (same_scope rd ys zs) f in
      two (step_trans x y z u.0 v.0) (scope_trans xs ys zs u.1 v.1)
