-- What `-` and `/` keep, and what their tests say.
use mathlib.Core.Path.{◌≡◌, refl, sym}
use mathlib.Core.Logic.{◌⊎◌, inl, inr}
use mathlib.Core.List.{List, [], ◌∷◌}
use mathlib.Core.Bool.{Bool, true, false, not, ◌||◌}
use Prim.Native.Nat.{ℕ, Ordering}
use lib.Dec.{T, compare_is_eq, eqb, eqb→eq, eqb_refl, T_not, not_T}
use mir.Facts.{and_yes, yes_and}
use Rattle.complex_entity.specs.MeaningRising.{◌∈◌, here, there, View, less, same, more}
use Rattle.complex_entity.specs.MeaningParts.{Part, order, has_name, contains}
use Rattle.complex_entity.specs.MeaningLists.{keep_if, keep, any, equal, sub, div}
use Rattle.complex_entity.proofs.Orders.{part_order}

-- ---- one test or another
or_yes : (a b : Bool) → T (a || b) → T a ⊎ T b
or_yes true b t = inl tt
or_yes false b t = inr t

yes_or : (a b : Bool) → T a ⊎ T b → T (a || b)
yes_or true b t = tt
yes_or false b (inl x'') = elim x'' [ ]
yes_or false b (inr t) = t

-- ---- those that meet a test
module _ {A : Type 0} (f : A → Bool) where
  pub keep_old : (l : List A) {q : A} → q ∈ keep f l → (q ∈ l) × T (f q)
  keep_old [] {q = q} m = elim m [ ]
  keep_old (a ∷ l) {q} m = go (f a) refl (keep_old l) m
    where
      go : (b : Bool) → f a ≡ b → (q ∈ keep f l → (q ∈ l) × T (f q)) → q ∈ keep_if b a (keep f l) → (q ∈ (a ∷ l)) × T (f q)
      go true e h (here d) = (here d, rw (d, e) tt)
      go true e h (there n) = let r = h n in (there r.0, r.1)
      go false e h n = let r = h n in (there r.0, r.1)

  pub keep_new : (l : List A) {q : A} → q ∈ l → T (f q) → q ∈ keep f l
  keep_new [] {q = q} m t = elim m [ ]
  keep_new (a ∷ l) {q} m t = go (f a) refl m (λ n. keep_new l n t)
    where
      go : (b : Bool) → f a ≡ b → q ∈ (a ∷ l) → (q ∈ l → q ∈ keep f l) → q ∈ keep_if b a (keep f l)
      go true e (here d) h = here d
      go true e (there n) h = there (h n)
      go false e (here d) h = absurd (rw (d, e) at t)
      go false e (there n) h = h n

  -- some element meets the test
  pub any_out : (l : List A) → T (any f l) → (q : A) × (q ∈ l) × T (f q)
  any_out [] t = elim t [ ]
  any_out (a ∷ l) t = elim (or_yes (f a) (any f l) t) [
    | inl h ↦ (a, here refl, h)
    | inr h ↦ let r = any_out l h in (r.0, there r.1, r.2)
  ]

  pub any_in : (l : List A) {q : A} → q ∈ l → T (f q) → T (any f l)
  any_in [] {q = q} x'' t = elim x'' [ ]
  any_in (a ∷ l) (here e) t = yes_or (f a) (any f l) (inl (rw e at t))
  any_in (a ∷ l) (there m) t = yes_or (f a) (any f l) (inr (any_in l m t))

-- ---- what contains what
pub has_out : (p : Part) (n : ℕ) → T (has_name p n) → n ∈ p
has_out [] n t = elim t [ ]
has_out (m ∷ p) n t = elim (or_yes (eqb m n) (has_name p n) t) [ inl e ↦ here (sym (eqb→eq m n e)) | inr s ↦ there (has_out p n s) ]

pub has_in : (p : Part) (n : ℕ) → n ∈ p → T (has_name p n)
has_in [] n x' = elim x' [ ]
has_in (m ∷ p) n (here e) = yes_or (eqb m n) (has_name p n) (inl (rw e (eqb_refl m)))
has_in (m ∷ p) n (there i) = yes_or (eqb m n) (has_name p n) (inr (has_in p n i))

pub contains_out : (p q : Part) → T (contains p q) → (n : ℕ) → n ∈ q → n ∈ p
contains_out p [] t n x'' = elim x'' [ ]
contains_out p (m ∷ q) t n (here e) = rw e (has_out p m (and_yes (has_name p m) (contains p q) t).0)
contains_out p (m ∷ q) t n (there i) = contains_out p q (and_yes (has_name p m) (contains p q) t).1 n i

pub contains_in : (p q : Part) → ((n : ℕ) → n ∈ q → n ∈ p) → T (contains p q)
contains_in p [] f = tt
contains_in p (m ∷ q) f = yes_and (has_name p m) (contains p q) (has_in p m (f m (here refl))) (contains_in p q (λ n i. f n (there i)))

-- ---- equal parts
pub equal_out : (p q : Part) → T (equal p q) → p ≡ q
equal_out p q t = go (part_order.view p q) t
  where
    go : {o : Ordering} → View order p q o → T (compare_is_eq o) → p ≡ q
    go (less h) t = absurd t
    go (same e) t = e
    go (more h) t = absurd t

pub equal_in : (p q : Part) → p ≡ q → T (equal p q)
equal_in p q e = go (part_order.view p q)
  where
    go : {o : Ordering} → View order p q o → T (compare_is_eq o)
    go (less h) = absurd (part_order.irrefl q (rw e at h))
    go (same d) = tt
    go (more h) = absurd (part_order.irrefl q (rw e at h))

-- ---- `-` and `/`
pub sub_old : (L K : List Part) {q : Part} → q ∈ sub L K → (q ∈ L) × (q ∈ K → ⊥)
sub_old L K {q} m =
    let r = keep_old (λ p. not (any (equal p) K)) L m in
    (r.0, λ i. T_not (any (equal q) K) r.1 (any_in (equal q) K i (equal_in q q refl)))

pub sub_new : (L K : List Part) {q : Part} → (q ∈ L) × (q ∈ K → ⊥) → q ∈ sub L K
sub_new L K {q} h = keep_new (λ p. not (any (equal p) K)) L h.0 (not_T (any (equal q) K) (λ t. let r = any_out (equal q) K t in h.1 (rw (equal_out q r.0 r.2) r.1)))

pub div_old : (L K : List Part) {p : Part} → p ∈ div L K → (p ∈ L) × ((q : Part) × (q ∈ K) × T (contains p q))
div_old L K {p} m = let r = keep_old (λ p. any (contains p) K) L m in (r.0, any_out (contains p) K r.1)

pub div_new : (L K : List Part) {p : Part} → (p ∈ L) × ((q : Part) × (q ∈ K) × T (contains p q)) → p ∈ div L K
div_new L K {p} h = keep_new (λ p. any (contains p) K) L h.0 (any_in (contains p) K h.1.1 h.1.2)
