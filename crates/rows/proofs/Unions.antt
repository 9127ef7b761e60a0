-- The union of two sorted lists, taken from the last parts on.
use Prim.Native.Nat.{Ordering}
use Prim.Native.Nat.{ℕ, suc, ◌-◌, ◌*◌, ◌≤◌, ◌<◌}
use mathlib.Core.Path.{◌≡◌, refl, sym, ap, ◌∙◌}
use mathlib.Core.Logic.{◌⊎◌, inl, inr}
use mathlib.Core.List.{List, [], ◌∷◌, ◌++◌}
use native.Mathlib.Omega.{arith}
use lib.ListN.{length, take, drop, take-append-drop}
use lib.Seq.{take_all, take-suc, length-take-le}
use Rattle.complex_entity.specs.MeaningRising.{◌∈◌, here, there, Lt, Rising, empty, next}
use Rattle.complex_entity.specs.MeaningParts.{Part, order}
use Rattle.complex_entity.specs.MeaningLists.{add}
use Rattle.complex_entity.specs.MirrorParts.{part_at}
use Rattle.complex_entity.proofs.Sets.{not_in_nil, tidy_same, tidy_is, ext, subset_length}
use Rattle.complex_entity.proofs.Orders.{part_order}
use Rattle.complex_entity.proofs.Members.{∈_append_left, ∈_append_right, ∈_append_cases, add_old, add_left, add_right, add_rising, add_nil}
use Rattle.rows.specs.MirrorRows.{parts_at, Stands}
use Rattle.rows.proofs.Flats.{parts_length, parts_at_law}
use Rattle.rows.proofs.Halving.{order_same, order_more, rising_left}

-- ---- a part above all others comes last
above_last : (A : List Part) (p : Part) → Rising order (A ++ p ∷ []) → (q : Part) → q ∈ A → Lt order q p
above_last [] p R q m = absurd (not_in_nil m)
above_last (a ∷ A) p (next B R) q (here e) = rw e (B p (∈_append_right A (p ∷ []) (here refl)))
above_last (a ∷ A) p (next B R) q (there m) = above_last A p R q m

snoc_cases : (A : List Part) (p q : Part) → q ∈ (A ++ p ∷ []) → (q ∈ A) ⊎ (q ≡ p)
snoc_cases A p q m = elim (∈_append_cases A (p ∷ []) m) [
  | inl i ↦ inl i
  | inr j ↦ elim j [ here e ↦ inr e | there k ↦ absurd (not_in_nil k) ]
]

rising_snoc : (A : List Part) (p : Part) → Rising order A → ((q : Part) → q ∈ A → Lt order q p) → Rising order (A ++ p ∷ [])
rising_snoc [] p R f = next {a = p} (λ q m. absurd (not_in_nil m)) empty
rising_snoc (a ∷ A) p (next B R) f =
    next {a = a} (λ q m. elim (snoc_cases A p q m) [ inl i ↦ B q i | inr e ↦ rw e (f a (here refl)) ]) (rising_snoc A p R (λ q m. f q (there m)))

-- L and K have what X and Y have, and t
module _ (L K X Y : List Part) (t : Part)
    (out : (q : Part) → (q ∈ L) ⊎ (q ∈ K) → ((q ∈ X) ⊎ (q ∈ Y)) ⊎ (q ≡ t))
    (into : (q : Part) → ((q ∈ X) ⊎ (q ∈ Y)) ⊎ (q ≡ t) → (q ∈ L) ⊎ (q ∈ K))
    (above : (q : Part) → (q ∈ X) ⊎ (q ∈ Y) → Lt order q t) where
  add_either : (M N : List Part) (q : Part) → (q ∈ M) ⊎ (q ∈ N) → q ∈ add M N
  add_either M N q (inl i) = add_left M N i
  add_either M N q (inr j) = add_right M N j

  add_last : add L K ≡ add X Y ++ t ∷ []
  add_last = ext part_order (add_rising L K) (rising_snoc (add X Y) t (add_rising X Y) (λ q m. above q (add_old X Y m))) to fro
    where
      to : (q : Part) → q ∈ add L K → q ∈ (add X Y ++ t ∷ [])
      to q m = elim (out q (add_old L K m)) [ inl i ↦ ∈_append_left (add X Y) (t ∷ []) (add_either X Y q i) | inr e ↦ ∈_append_right (add X Y) (t ∷ []) (here e) ]

      fro : (q : Part) → q ∈ (add X Y ++ t ∷ []) → q ∈ add L K
      fro q m = add_either L K q (into q (elim (snoc_cases (add X Y) t q m) [ inl i ↦ inl (add_old X Y i) | inr e ↦ inr e ]))

add_turned : (L K : List Part) → add L K ≡ add K L
add_turned L K = tidy_same part_order (L ++ K) (K ++ L) (λ q m. turn L K (∈_append_cases L K m)) (λ q m. turn K L (∈_append_cases K L m))
  where
    turn : (a b : List Part) {q : Part} → (q ∈ a) ⊎ (q ∈ b) → q ∈ (b ++ a)
    turn a b (inl m) = ∈_append_right b a m
    turn a b (inr m) = ∈_append_left b a m

module _ (A B : List Part) (p q : Part) (R : Rising order (A ++ p ∷ [])) (S : Rising order (B ++ q ∷ [])) where
  last_less : Lt order p q → add (A ++ p ∷ []) (B ++ q ∷ []) ≡ add (A ++ p ∷ []) B ++ q ∷ []
  last_less h = add_last (A ++ p ∷ []) (B ++ q ∷ []) (A ++ p ∷ []) B q out into above
    where
      out : (x : Part) → (x ∈ (A ++ p ∷ [])) ⊎ (x ∈ (B ++ q ∷ [])) → ((x ∈ (A ++ p ∷ [])) ⊎ (x ∈ B)) ⊎ (x ≡ q)
      out x (inl i) = inl (inl i)
      out x (inr j) = elim (snoc_cases B q x j) [ inl k ↦ inl (inr k) | inr e ↦ inr e ]

      into : (x : Part) → ((x ∈ (A ++ p ∷ [])) ⊎ (x ∈ B)) ⊎ (x ≡ q) → (x ∈ (A ++ p ∷ [])) ⊎ (x ∈ (B ++ q ∷ []))
      into x (inl (inl i)) = inl i
      into x (inl (inr k)) = inr (∈_append_left B (q ∷ []) k)
      into x (inr e) = inr (∈_append_right B (q ∷ []) (here e))

      above : (x : Part) → (x ∈ (A ++ p ∷ [])) ⊎ (x ∈ B) → Lt order x q
      above x (inl i) = elim (snoc_cases A p x i) [ inl k ↦ part_order.trans x p q (above_last A p R x k) h | inr e ↦ rw e h ]
      above x (inr k) = above_last B q S x k

  last_same : p ≡ q → add (A ++ p ∷ []) (B ++ q ∷ []) ≡ add A B ++ p ∷ []
  last_same h = add_last (A ++ p ∷ []) (B ++ q ∷ []) A B p out into above
    where
      out : (x : Part) → (x ∈ (A ++ p ∷ [])) ⊎ (x ∈ (B ++ q ∷ [])) → ((x ∈ A) ⊎ (x ∈ B)) ⊎ (x ≡ p)
      out x (inl i) = elim (snoc_cases A p x i) [ inl k ↦ inl (inl k) | inr e ↦ inr e ]
      out x (inr j) = elim (snoc_cases B q x j) [ inl k ↦ inl (inr k) | inr e ↦ inr (e ∙ sym h) ]

      into : (x : Part) → ((x ∈ A) ⊎ (x ∈ B)) ⊎ (x ≡ p) → (x ∈ (A ++ p ∷ [])) ⊎ (x ∈ (B ++ q ∷ []))
      into x (inl (inl i)) = inl (∈_append_left A (p ∷ []) i)
      into x (inl (inr k)) = inr (∈_append_left B (q ∷ []) k)
      into x (inr e) = inl (∈_append_right A (p ∷ []) (here e))

      above : (x : Part) → (x ∈ A) ⊎ (x ∈ B) → Lt order x p
      above x (inl i) = above_last A p R x i
      above x (inr k) = rw h (above_last B q S x k)

last_more : (A B : List Part) (p q : Part) → Rising order (A ++ p ∷ []) → Rising order (B ++ q ∷ []) → Lt order q p
    → add (A ++ p ∷ []) (B ++ q ∷ []) ≡ add A (B ++ q ∷ []) ++ p ∷ []
last_more A B p q R S h =
    add_turned (A ++ p ∷ []) (B ++ q ∷ []) ∙ last_less B A q p S R h ∙ ap (λ (t : List Part). t ++ p ∷ []) (add_turned (B ++ q ∷ []) A)

-- ---- the first rows of a list that stands
module _ (rows : List ℕ) (count : ℕ) (s : Stands rows count) (n : ℕ) (h : n ≤ count) where
  pub first_length : length (take n (parts_at count rows)) ≡ n
  first_length = length-take-le n (parts_at count rows) (omega (arith, parts_length count rows))

  first_rising : Rising order (take n (parts_at count rows))
  first_rising = rising_left (take n (parts_at count rows)) (drop n (parts_at count rows)) (rw (take-append-drop n (parts_at count rows)) s.ordered)

  first_last : 0 < n → take n (parts_at count rows) ≡ take (n - 1) (parts_at count rows) ++ part_at (drop (13 * (n - 1)) rows) ∷ []
  first_last k =
      let d : Part = [] in
      let e : n ≡ suc (n - 1) = omega arith in
      ap (λ (j : ℕ). take j (parts_at count rows)) e ∙ take-suc (parts_at count rows) (n - 1) d (omega (arith, parts_length count rows))
      ∙ rw (parts_at_law count (n - 1) rows d (omega arith))

-- ---- n rows of one list and m of the other are left
pub record Backing (rows others : List ℕ) (count other n m : ℕ) : Type 0 where
  pub left : Stands rows count
  pub right : Stands others other
  pub few_left : n ≤ count
  pub few_right : m ≤ other

abbrev pub united : List ℕ → List ℕ → ℕ → ℕ → ℕ → ℕ → List Part
united rows others count other n m = add (take n (parts_at count rows)) (take m (parts_at other others))

pub back_start : (rows others : List ℕ) (count other : ℕ) → Stands rows count → Stands others other → Backing rows others count other count other
back_start rows others count other s t = record { left = s; right = t; few_left = omega arith; few_right = omega arith }

pub united_all : (rows others : List ℕ) (count other : ℕ) → united rows others count other count other ≡ add (parts_at count rows) (parts_at other others)
united_all rows others count other =
    rw (take_all count (parts_at count rows) (omega (arith, parts_length count rows)), take_all other (parts_at other others) (omega (arith, parts_length other others)))

module _ (rows others : List ℕ) (count other n m : ℕ) (f : Backing rows others count other n m) where
  pub united_left : m ≤ 0 → united rows others count other n m ≡ take n (parts_at count rows)
  united_left h =
      let e : m ≡ 0 = omega arith in
      ap (λ (j : ℕ). united rows others count other n j) e ∙ add_nil (first_rising rows count f.left n f.few_left)

  pub united_right : n ≤ 0 → united rows others count other n m ≡ take m (parts_at other others)
  united_right h =
      let e : n ≡ 0 = omega arith in
      ap (λ (j : ℕ). united rows others count other j m) e ∙ tidy_is part_order (first_rising others other f.right m f.few_right)

  pub united_wider : m ≤ length (united rows others count other n m)
  united_wider =
      let x : List Part = take n (parts_at count rows) in
      let y : List Part = take m (parts_at other others) in
      let l = subset_length part_order (first_rising others other f.right m f.few_right) (add_rising x y) (λ q i. add_right x y i) in
      omega (arith, l, first_length others other f.right m f.few_right)

  pub united_longer : n ≤ length (united rows others count other n m)
  united_longer =
      let x : List Part = take n (parts_at count rows) in
      let y : List Part = take m (parts_at other others) in
      let l = subset_length part_order (first_rising rows count f.left n f.few_left) (add_rising x y) (λ q i. add_left x y i) in
      omega (arith, l, first_length rows count f.left n f.few_left)

module _ (rows others : List ℕ) (count other n m : ℕ) (f : Backing rows others count other n m) where
  module _ (k : 0 < m) where
    R : Rising order (take (m - 1) (parts_at other others) ++ part_at (drop (13 * (m - 1)) others) ∷ [])
    R = rw (first_last others other f.right m f.few_right k) at (first_rising others other f.right m f.few_right)

    pub back_right : Backing rows others count other n (m - 1)
    back_right = record { left = f.left; right = f.right; few_left = f.few_left; few_right = omega (arith, f.few_right) }

    module _ (h : 0 < n) where
      L : Rising order (take (n - 1) (parts_at count rows) ++ part_at (drop (13 * (n - 1)) rows) ∷ [])
      L = rw (first_last rows count f.left n f.few_left h) at (first_rising rows count f.left n f.few_left)

      pub back_left : Backing rows others count other (n - 1) m
      back_left = record { left = f.left; right = f.right; few_left = omega (arith, f.few_left); few_right = f.few_right }

      pub back_both : Backing rows others count other (n - 1) (m - 1)
      back_both = record { left = f.left; right = f.right; few_left = omega (arith, f.few_left); few_right = omega (arith, f.few_right) }

      pub united_less : order (part_at (drop (13 * (n - 1)) rows)) (part_at (drop (13 * (m - 1)) others)) ≡ Ordering.lt
          → united rows others count other n m ≡ united rows others count other n (m - 1) ++ part_at (drop (13 * (m - 1)) others) ∷ []
      united_less g =
          rw (first_last rows count f.left n f.few_left h, first_last others other f.right m f.few_right k)
          (last_less (take (n - 1) (parts_at count rows)) (take (m - 1) (parts_at other others)) _ _ L R g)

      pub united_same : order (part_at (drop (13 * (n - 1)) rows)) (part_at (drop (13 * (m - 1)) others)) ≡ Ordering.eq
          → united rows others count other n m ≡ united rows others count other (n - 1) (m - 1) ++ part_at (drop (13 * (n - 1)) rows) ∷ []
      united_same g =
          rw (first_last rows count f.left n f.few_left h, first_last others other f.right m f.few_right k)
          (last_same (take (n - 1) (parts_at count rows)) (take (m - 1) (parts_at other others)) _ _ L R (order_same _ _ g))

      pub united_more : order (part_at (drop (13 * (n - 1)) rows)) (part_at (drop (13 * (m - 1)) others)) ≡ Ordering.gt
          → united rows others count other n m ≡ united rows others count other (n - 1) m ++ part_at (drop (13 * (n - 1)) rows) ∷ []
      united_more g =
          rw (first_last rows count f.left n f.few_left h, first_last others other f.right m f.few_right k)
          (last_more (take (n - 1) (parts_at count rows)) (take (m - 1) (parts_at other others)) _ _ L R (order_more (part_at (drop (13 * (n - 1)) rows)) (part_at (drop (13 * (m - 1)) others)) g))
