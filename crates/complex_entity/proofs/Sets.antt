-- The laws of sets as lists, over any order: what is in them, that they rise, and that the members alone decide.
use mathlib.Core.Path.{◌≡◌, refl, sym, ◌∙◌}
use mathlib.Core.Logic.{◌⊎◌, inl, inr}
use mathlib.Core.List.{List, [], ◌∷◌}
use Prim.Native.Nat.{◌≤◌, zero-le, suc-le-suc, Ordering}
use native.Mathlib.Omega.{arith}
use lib.ListN.{length}
use Rattle.complex_entity.specs.MeaningSets.{put, sort_in, tidy}
use Rattle.complex_entity.specs.MeaningRising.{◌∈◌, here, there, Lt, View, less, same, more, Order, Below, Rising, empty, next}

-- nothing is in the empty list
pub not_in_nil : {A : Type 0} {a : A} → a ∈ [] → ⊥
not_in_nil m = elim m [ ]

-- an element moved along an equation
pub ∈_cast : {A : Type 0} {a b : A} {l : List A} → a ≡ b → b ∈ l → a ∈ l
∈_cast e (here f) = here (e ∙ f)
∈_cast e (there m) = there (∈_cast e m)

-- ---- what one step of `sort_in` does, by the answer of its comparison
module _ {A : Type 0} (cmp : A → A → Ordering) (a b : A) (l r : List A) where
  put_old : {o : Ordering} {q : A} → View cmp a b o → (q ∈ r → (q ≡ a) ⊎ (q ∈ l)) → q ∈ put cmp o a b l r → (q ≡ a) ⊎ (q ∈ (b ∷ l))
  put_old (less h) f (here e) = inl e
  put_old (less h) f (there m) = inr m
  put_old (same s) f m = inr m
  put_old (more h) f (here e) = inr (here e)
  put_old (more h) f (there m) = elim (f m) [ inl e ↦ inl e | inr k ↦ inr (there k) ]

  put_new : {o : Ordering} {q : A} → View cmp a b o → ((q ≡ a) ⊎ (q ∈ l) → q ∈ r) → (q ≡ a) ⊎ (q ∈ (b ∷ l)) → q ∈ put cmp o a b l r
  put_new (less h) f (inl e) = here e
  put_new (less h) f (inr m) = there m
  put_new (same s) f (inl e) = here (e ∙ s)
  put_new (same s) f (inr m) = m
  put_new (more h) f (inl e) = there (f (inl e))
  put_new (more h) f (inr (here e)) = here e
  put_new (more h) f (inr (there m)) = there (f (inr m))

-- ---- the laws, of any order
module _ {A : Type 0} {cmp : A → A → Ordering} (O : Order cmp) where
  pub sort_in_old : (a : A) (l : List A) {q : A} → q ∈ sort_in cmp a l → (q ≡ a) ⊎ (q ∈ l)
  sort_in_old a [] (here e) = inl e
  sort_in_old a [] (there m) = inr m
  sort_in_old a (b ∷ l) m = put_old cmp a b l (sort_in cmp a l) (O.view a b) (sort_in_old a l) m

  pub sort_in_new : (a : A) (l : List A) {q : A} → (q ≡ a) ⊎ (q ∈ l) → q ∈ sort_in cmp a l
  sort_in_new a [] (inl e) = here e
  sort_in_new a [] (inr m) = there m
  sort_in_new a (b ∷ l) m = put_new cmp a b l (sort_in cmp a l) (O.view a b) (sort_in_new a l) m

  pub below_cons : {a b : A} {l : List A} → Lt cmp a b → Below cmp b l → Below cmp a (b ∷ l)
  below_cons h B q (here e) = rw e h
  below_cons {a} {b} h B q (there m) = O.trans a b q h (B q m)

  put_rising : (a b : A) (l r : List A) {o : Ordering} → View cmp a b o → Rising cmp (b ∷ l) → Rising cmp r → ((q : A) → q ∈ r → (q ≡ a) ⊎ (q ∈ l)) → Rising cmp (put cmp o a b l r)
  put_rising a b l r (less h) (next B R) s f = next (below_cons h B) (next B R)
  put_rising a b l r (same e) R s f = R
  put_rising a b l r (more h) (next B R) s f = next {a = b} (λ q m. elim (f q m) [ inl e ↦ rw e h | inr k ↦ B q k ]) s

  rising_tail : {a : A} {l : List A} → Rising cmp (a ∷ l) → Rising cmp l
  rising_tail (next B R) = R

  pub sort_in_rising : (a : A) (l : List A) → Rising cmp l → Rising cmp (sort_in cmp a l)
  sort_in_rising a [] R = next (λ q m. absurd (not_in_nil m)) R
  sort_in_rising a (b ∷ l) R = put_rising a b l (sort_in cmp a l) (O.view a b) R (sort_in_rising a l (rising_tail R)) (λ q m. sort_in_old a l m)

  -- ---- tidy: the same members, strictly rising
  pub tidy_old : (l : List A) {q : A} → q ∈ tidy cmp l → q ∈ l
  tidy_old [] {q = q} m = elim m [ ]
  tidy_old (a ∷ l) m = elim (sort_in_old a (tidy cmp l) m) [ inl e ↦ here e | inr n ↦ there (tidy_old l n) ]

  pub tidy_new : (l : List A) {q : A} → q ∈ l → q ∈ tidy cmp l
  tidy_new [] {q = q} x' = elim x' [ ]
  tidy_new (a ∷ l) (here e) = sort_in_new a (tidy cmp l) (inl e)
  tidy_new (a ∷ l) (there m) = sort_in_new a (tidy cmp l) (inr (tidy_new l m))

  pub tidy_rising : (l : List A) → Rising cmp (tidy cmp l)
  tidy_rising [] = empty
  tidy_rising (a ∷ l) = sort_in_rising a (tidy cmp l) (tidy_rising l)

  -- ---- two rising lists with the same elements are one
  least : {a b : A} {k l : List A} → Below cmp a k → Below cmp b l → a ∈ (b ∷ l) → b ∈ (a ∷ k) → a ≡ b
  least B C (here e) n = e
  least B C (there m) (here e) = sym e
  least {a} {b} B C (there m) (there n) = absurd (O.irrefl a (O.trans a b a (B b n) (C a m)))

  inner : {a b : A} {k l : List A} → Below cmp a k → a ≡ b → ((q : A) → q ∈ (a ∷ k) → q ∈ (b ∷ l)) → (q : A) → q ∈ k → q ∈ l
  inner {a} {b} {k} {l} B e f q m = go (f q (there m))
    where
      go : q ∈ (b ∷ l) → q ∈ l
      go (here d) = absurd (O.irrefl a (rw (d ∙ sym e) at (B q m)))
      go (there n) = n

  pub ext : {k l : List A} → Rising cmp k → Rising cmp l → ((q : A) → q ∈ k → q ∈ l) → ((q : A) → q ∈ l → q ∈ k) → k ≡ l
  ext empty empty f g = refl
  ext empty (next {a = b} C S) f g = absurd (not_in_nil (g b (here refl)))
  ext (next {a = a} B R) empty f g = absurd (not_in_nil (f a (here refl)))
  ext (next {a = a} {l = k} B R) (next {a = b} {l = l} C S) f g =
      let e : a ≡ b = least B C (f a (here refl)) (g b (here refl)) in
      let t : k ≡ l = ext R S (inner B e f) (inner C (sym e) g) in
      cc

  -- lists with the same members are one when tidied
  pub tidy_same : (k l : List A) → ((q : A) → q ∈ k → q ∈ l) → ((q : A) → q ∈ l → q ∈ k) → tidy cmp k ≡ tidy cmp l
  tidy_same k l f g = ext (tidy_rising k) (tidy_rising l) (λ q m. tidy_new l (f q (tidy_old k m))) (λ q m. tidy_new k (g q (tidy_old l m)))

  pub tidy_is : {l : List A} → Rising cmp l → tidy cmp l ≡ l
  tidy_is {l} R = ext (tidy_rising l) R (λ q m. tidy_old l m) (λ q m. tidy_new l m)

  -- ---- a part of a set is no longer than the set
  pub subset_length : {k l : List A} → Rising cmp k → Rising cmp l → ((q : A) → q ∈ k → q ∈ l) → length k ≤ length l
  subset_length empty S f = zero-le
  subset_length (next {a = a} B R) empty f = absurd (not_in_nil (f a (here refl)))
  subset_length (next {a = a} {l = k} B R) (next {a = b} {l = l} C S) f = go (f a (here refl)) (λ g. subset_length R S g) (λ g. subset_length (next B R) S g)
    where
      -- none of a ∷ k is b where a is above b
      past : Lt cmp b a → (q : A) → q ∈ (a ∷ k) → q ∈ (b ∷ l) → q ∈ l
      past h q (here d) (here e) = absurd (O.irrefl a (let c : b ≡ a = sym e ∙ d in rw c at h))
      past h q (there m) (here e) = absurd (O.irrefl b (O.trans b a b h (rw e at (B q m))))
      past h q n (there m) = m

      go : a ∈ (b ∷ l) → (((q : A) → q ∈ k → q ∈ l) → length k ≤ length l) → (((q : A) → q ∈ (a ∷ k) → q ∈ l) → length (a ∷ k) ≤ length l) → length (a ∷ k) ≤ length (b ∷ l)
      go (here e) x y = suc-le-suc (x (inner B e f))
      go (there m) x y = let h = y (λ q n. past (C a m) q n (f q n)) in omega arith
