-- The partial order: a scope in its struct and its steps, and which of two starts the other.
use mathlib.Core.Path.{◌≡◌, refl, sym, ap, ◌∙◌}
use mathlib.Core.List.{List, [], ◌∷◌}
use mathlib.Core.Bool.{Bool, true, false, not, ◌&&◌, and-true, and-false}
use Prim.Native.Nat.{ℕ, zero, suc, ◌-◌, ◌<◌, ◌≤◌}
use native.Mathlib.Omega.{arith}
use borrow.Author.Tests.{not-true, not-false}
use lib.ListN.{length, take, length-take}
use Rattle.grammar.specs.MeaningReading.{Reading}
use Rattle.grammar.proofs.Choosing.{clash}
use Rattle.scope.specs.MeaningScope.{Step, steps_equal, starts}
use Rattle.scope.specs.Told.{told_step, told_scope}
use Rattle.scope.specs.MirrorScope.{Spans, Fits}
use Rattle.scope.specs.declared.Scope.{Scope}

-- ---- one step

-- ---- one scope starts another

module _ (rd : Reading) where
  one_on : (n m : ℕ) (x y : Step) (xs ys : List Step) → (n ≡ 0 → ⊥) → n ≤ m → starts rd (take n (x ∷ xs)) (take m (y ∷ ys)) ≡ steps_equal rd x y && starts rd (take (n - 1) xs) (take (m - 1) ys)
  unfolding starts
  one_on zero m x y xs ys d h = absurd (d refl)
  one_on (suc n) zero x y xs ys d h = absurd (let e : ⊥ = omega arith in e)
  one_on (suc n) (suc m) x y xs ys d h =
      let i : suc n - 1 ≡ n = omega arith in
      let j : suc m - 1 ≡ m = omega arith in
      rw (i, j) refl

  none_on : (n : ℕ) (l r : List Step) → n ≡ 0 → starts rd (take n l) r ≡ true
  unfolding starts
  none_on n l r e = rw e refl

  pub too_long : (l r : List Step) → length r < length l → starts rd l r ≡ false
  unfolding starts
  too_long [] r h = absurd (let e : ⊥ = omega arith in e)
  too_long (x ∷ l) [] h = refl
  too_long (x ∷ l) (y ∷ r) h = rw (too_long l r (omega arith), and-false (steps_equal rd x y)) refl

taken : (n : ℕ) (x y z : Step) → n ≤ 3 → length (take n (x ∷ y ∷ z ∷ [])) ≡ n
taken n x y z h = simp (length-take) (omega arith)

three_left : (n : ℕ) → n ≤ 3 → (n ≡ 0 → ⊥) → (n ≡ 1 → ⊥) → (n ≡ 2 → ⊥) → n ≡ 3
three_left n h d0 d1 d2 = omega (arith, d0, d1, d2)

two_less : (n m : ℕ) → n ≤ m → n - 1 - 1 ≤ m - 1 - 1
two_less n m h = omega arith

module _ (rd : Reading) (s t : List ℕ) (a b : Scope) where
  pub start_short : Fits s a → Fits t b → b.count < a.count → false ≡ starts rd (told_scope s a) (told_scope t b)
  unfolding told_scope
  start_short f g h =
      let i = taken a.count (told_step s a.one) (told_step s a.two) (told_step s a.three) f.few in
      let j = taken b.count (told_step t b.one) (told_step t b.two) (told_step t b.three) g.few in
      sym (too_long rd (take a.count (told_step s a.one ∷ told_step s a.two ∷ told_step s a.three ∷ [])) (take b.count (told_step t b.one ∷ told_step t b.two ∷ told_step t b.three ∷ [])) (omega (arith, i, j)))

  pub start_root : a.count ≡ 0 → true ≡ starts rd (told_scope s a) (told_scope t b)
  unfolding told_scope
  start_root e = sym (none_on rd a.count (told_step s a.one ∷ told_step s a.two ∷ told_step s a.three ∷ []) (told_scope t b) e)

  module _ (h : a.count ≤ b.count) (d0 : a.count ≡ 0 → ⊥) (x1 : Bool) (e1 : x1 ≡ steps_equal rd (told_step s a.one) (told_step t b.one)) where
    on_first : starts rd (told_scope s a) (told_scope t b) ≡ x1 && starts rd (take (a.count - 1) (told_step s a.two ∷ told_step s a.three ∷ [])) (take (b.count - 1) (told_step t b.two ∷ told_step t b.three ∷ []))
    unfolding told_scope
    on_first = rw (e1) (one_on rd a.count b.count (told_step s a.one) (told_step t b.one) (told_step s a.two ∷ told_step s a.three ∷ []) (told_step t b.two ∷ told_step t b.three ∷ []) d0 h)

    pub start_differs : not x1 ≡ true → false ≡ starts rd (told_scope s a) (told_scope t b)
    start_differs k = sym (on_first ∙ rw (not-true x1 k) refl)

    module _ (k1 : not x1 ≡ false) where
      pub start_first : a.count ≡ 1 → true ≡ starts rd (told_scope s a) (told_scope t b)
      start_first e = sym (on_first ∙ rw (not-false x1 k1, none_on rd (a.count - 1) (told_step s a.two ∷ told_step s a.three ∷ []) (take (b.count - 1) (told_step t b.two ∷ told_step t b.three ∷ [])) (omega arith)) refl)

      module _ (d1 : a.count ≡ 1 → ⊥) (x2 : Bool) (e2 : x2 ≡ steps_equal rd (told_step s a.two) (told_step t b.two)) where
        on_second : starts rd (told_scope s a) (told_scope t b) ≡ x2 && starts rd (take (a.count - 1 - 1) (told_step s a.three ∷ [])) (take (b.count - 1 - 1) (told_step t b.three ∷ []))
        on_second = on_first ∙ rw (not-false x1 k1, e2) (one_on rd (a.count - 1) (b.count - 1) (told_step s a.two) (told_step t b.two) (told_step s a.three ∷ []) (told_step t b.three ∷ []) (λ z. d1 (omega (arith, z, d0))) (omega arith))

        pub start_second_differs : not x2 ≡ true → false ≡ starts rd (told_scope s a) (told_scope t b)
        start_second_differs k = sym (on_second ∙ rw (not-true x2 k) refl)

        module _ (k2 : not x2 ≡ false) where
          pub start_second : a.count ≡ 2 → true ≡ starts rd (told_scope s a) (told_scope t b)
          start_second e = sym (on_second ∙ rw (not-false x2 k2, none_on rd (a.count - 1 - 1) (told_step s a.three ∷ []) (take (b.count - 1 - 1) (told_step t b.three ∷ [])) (omega arith)) refl)

          pub start_third : (a.count ≡ 2 → ⊥) → Fits s a → (x3 : Bool) → x3 ≡ steps_equal rd (told_step s a.three) (told_step t b.three) → x3 ≡ starts rd (told_scope s a) (told_scope t b)
          unfolding starts
          start_third d2 f x3 e3 =
              let n : a.count - 1 - 1 ≡ 1 = ap (λ (k : ℕ). k - 1 - 1) (three_left a.count f.few d0 d1 d2) in
              let r = one_on rd (a.count - 1 - 1) (b.count - 1 - 1) (told_step s a.three) (told_step t b.three) [] [] (λ z. clash (sym z ∙ n)) (two_less a.count b.count h) in
              sym (on_second ∙ rw (not-false x2 k2) (r ∙ rw (n, ← e3) (and-true x3)))

pub fits_first : (s : List ℕ) (a : Scope) → Fits s a → Spans s a.one
fits_first s a f = f.first

pub fits_second : (s : List ℕ) (a : Scope) → Fits s a → Spans s a.two
fits_second s a f = f.second

pub fits_third : (s : List ℕ) (a : Scope) → Fits s a → Spans s a.three
fits_third s a f = f.third

pub ruleset starting = (start_short, start_root, start_differs, start_first, start_second_differs, start_second, start_third, fits_first, fits_second, fits_third)
