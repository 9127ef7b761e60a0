-- Numbers, lists of numbers and parts are totally ordered.
use mathlib.Core.Path.{◌≡◌, refl, sym, ◌∙◌, ap}
use mathlib.Core.Logic.{◌⊎◌, inl, inr}
use mathlib.Core.List.{List, [], ◌∷◌}
use Prim.Native.Nat.compare
use Prim.Native.Nat.{ℕ, zero, suc, ◌<◌, suc-le-suc, Ordering, compare}
use native.Mathlib.Omega.{arith}
use native.Mathlib.Nat.{not-suc-le-zero, le_of_suc-le-suc}
use lib.ListN.{length}
use Rattle.complex_entity.specs.MeaningRising.{Lt, View, less, same, more, Order}
use Rattle.complex_entity.specs.MeaningParts.{Part, then, lex, order}

-- ---- the order of numbers
pub cmp→lt : (m n : ℕ) → Lt compare m n → m < n
cmp→lt zero zero h = let z : ◌≡◌ {A = ℕ} 0 1 = cc compare.zero-zero in omega arith
cmp→lt zero (suc n) h = omega arith
cmp→lt (suc m) zero h = let z : ◌≡◌ {A = ℕ} 0 1 = cc (compare.suc-zero m) in omega arith
cmp→lt (suc m) (suc n) h = suc-le-suc (cmp→lt m n (rw compare.suc-suc at h))

pub lt→cmp : (m n : ℕ) → m < n → Lt compare m n
lt→cmp zero zero h = absurd (not-suc-le-zero h)
lt→cmp zero (suc n) h = compare.zero-suc n
lt→cmp (suc m) zero h = absurd (not-suc-le-zero h)
lt→cmp (suc m) (suc n) h = rw compare.suc-suc (lt→cmp m n (le_of_suc-le-suc h))

pub gt→cmp : (m n : ℕ) → n < m → compare m n ≡ Ordering.gt
gt→cmp zero n h = absurd (not-suc-le-zero h)
gt→cmp (suc m) zero h = compare.suc-zero m
gt→cmp (suc m) (suc n) h = rw compare.suc-suc (gt→cmp m n (le_of_suc-le-suc h))

pub nat_view : (m n : ℕ) → View compare m n (compare m n)
nat_view zero zero = rw compare.zero-zero (same refl)
nat_view zero (suc n) = rw compare.zero-suc (less (compare.zero-suc n))
nat_view (suc m) zero = rw compare.suc-zero (more (compare.zero-suc m))
nat_view (suc m) (suc n) = rw compare.suc-suc (up (nat_view m n))
  where
    up : {o : Ordering} → View compare m n o → View compare (suc m) (suc n) o
    up (less h) = less (compare.suc-suc m n ∙ h)
    up (same e) = same (ap suc e)
    up (more h) = more (compare.suc-suc n m ∙ h)

pub nat_order : Order compare
nat_order = record {
  view = nat_view;
  irrefl = λ a h. omega (arith, cmp→lt a a h);
  trans = λ a b c h k. lt→cmp a c (omega (arith, cmp→lt a b h, cmp→lt b c k));
}

-- ---- the order of lists of numbers
pub compare_self : (x : ℕ) → compare x x ≡ Ordering.eq
compare_self zero = compare.zero-zero
compare_self (suc x) = compare.suc-suc x x ∙ compare_self x

module _ (x y : ℕ) (xs ys : List ℕ) where
  lex_head : Lt compare x y → Lt lex (x ∷ xs) (y ∷ ys)
  lex_head h = rw h

  lex_tail : x ≡ y → Lt lex xs ys → Lt lex (x ∷ xs) (y ∷ ys)
  lex_tail e h = rw (e, compare_self y) h

  lex_cases : Lt lex (x ∷ xs) (y ∷ ys) → Lt compare x y ⊎ ((x ≡ y) × Lt lex xs ys)
  lex_cases h = go (nat_view x y) h
    where
      go : {o : Ordering} → View compare x y o → then o (lex xs ys) ≡ Ordering.lt → Lt compare x y ⊎ ((x ≡ y) × Lt lex xs ys)
      go (less k) h = inl k
      go (same e) h = inr (e, h)
      go (more k) h = let z : ◌≡◌ {A = ℕ} 0 1 = cc in absurd (omega arith)

lex_view : (p q : List ℕ) → View lex p q (lex p q)
lex_view [] [] = same refl
lex_view [] (y ∷ ys) = less refl
lex_view (x ∷ xs) [] = more refl
lex_view (x ∷ xs) (y ∷ ys) = go (nat_view x y) (lex_view xs ys)
  where
    go : {o r : Ordering} → View compare x y o → View lex xs ys r → View lex (x ∷ xs) (y ∷ ys) (then o r)
    go (less k) v = less (lex_head x y xs ys k)
    go (same e) (less k) = less (lex_tail x y xs ys e k)
    go (same e) (same d) = same (cc)
    go (same e) (more k) = more (lex_tail y x ys xs (sym e) k)
    go (more k) v = more (lex_head y x ys xs k)

lex_irrefl : (p : List ℕ) → Lt lex p p → ⊥
lex_irrefl [] h = let z : ◌≡◌ {A = ℕ} 0 1 = cc in omega arith
lex_irrefl (x ∷ xs) h = elim (lex_cases x x xs xs h) [ inl k ↦ nat_order.irrefl x k | inr k ↦ lex_irrefl xs k.1 ]

lex_trans : (p q r : List ℕ) → Lt lex p q → Lt lex q r → Lt lex p r
lex_trans [] [] r h k = k
lex_trans [] (y ∷ ys) [] h k = let z : ◌≡◌ {A = ℕ} 0 1 = cc in absurd (omega arith)
lex_trans [] (y ∷ ys) (z ∷ zs) h k = refl
lex_trans (x ∷ xs) [] r h k = let z : ◌≡◌ {A = ℕ} 0 1 = cc in absurd (omega arith)
lex_trans (x ∷ xs) (y ∷ ys) [] h k = let z : ◌≡◌ {A = ℕ} 0 1 = cc in absurd (omega arith)
lex_trans (x ∷ xs) (y ∷ ys) (z ∷ zs) h k = go (lex_cases x y xs ys h) (lex_cases y z ys zs k) (lex_trans xs ys zs)
  where
    go : Lt compare x y ⊎ ((x ≡ y) × Lt lex xs ys) → Lt compare y z ⊎ ((y ≡ z) × Lt lex ys zs) → (Lt lex xs ys → Lt lex ys zs → Lt lex xs zs) → Lt lex (x ∷ xs) (z ∷ zs)
    go (inl a) (inl b) f = lex_head x z xs zs (nat_order.trans x y z a b)
    go (inl a) (inr b) f = lex_head x z xs zs (rw b.0 at a)
    go (inr a) (inl b) f = lex_head x z xs zs (rw a.0 b)
    go (inr a) (inr b) f = lex_tail x z xs zs (a.0 ∙ b.0) (f a.1 b.1)

-- ---- the order of parts
order_view : (p q : Part) → View order p q (order p q)
order_view p q = go (lex_view (length p ∷ p) (length q ∷ q))
  where
    go : {o : Ordering} → View lex (length p ∷ p) (length q ∷ q) o → View order p q o
    go (less h) = less h
    go (same e) = same (cc)
    go (more h) = more h

pub part_order : Order order
part_order = record {
  view = order_view;
  irrefl = λ p h. lex_irrefl (length p ∷ p) h;
  trans = λ p q r h k. lex_trans (length p ∷ p) (length q ∷ q) (length r ∷ r) h k;
}
