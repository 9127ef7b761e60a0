-- A set's place in a strictly rising list is its number: both ways.
use mathlib.Core.Path.{◌≡◌, refl, sym, ap}
use mathlib.Core.List.{List, [], ◌∷◌}
use mathlib.Core.Bool.{Bool, true, false, cond}
use mathlib.Core.Option.{Option, none, some}
use Prim.Native.Nat.{ℕ, zero, suc, ◌≤◌, ◌<◌, suc-le-suc}
use native.Mathlib.Omega.{arith}
use native.Mathlib.Nat.{not-suc-le-zero, le_of_suc-le-suc}
use native.Mathlib.Decide.{dec_lt}
use lib.ListN.{length, get_elem?}
use lib.Dec.{T}
use Rattle.refusal.specs.MeaningAnswer.{done, refused}
use Rattle.complex_entity.specs.MeaningRising.{◌∈◌, here, there, Lt, Rising, empty, next}
use Rattle.complex_entity.specs.MeaningParts.{Part, order, moved}
use Rattle.complex_entity.specs.MeaningLists.{equal}
use Rattle.complex_entity.proofs.Orders.{part_order}
use Rattle.complex_entity.proofs.Keeping.{equal_out, equal_in}
use Rattle.expression.specs.MeaningNumbers.{place_in, or17, number_of, set_at}

-- ---- number to set
at_mem : (L : List Part) (i : ℕ) (q : Part) → get_elem? L i ≡ some q → q ∈ L
at_mem [] i q e = let z : ◌≡◌ {A = ℕ} 0 1 = cc in absurd (omega arith)
at_mem (a ∷ L) zero q e = here {b = a} (cc)
at_mem (a ∷ L) (suc i) q e = there (at_mem L i q e)

at_below : (L : List Part) (i : ℕ) (q : Part) → get_elem? L i ≡ some q → i < length L
at_below [] i q e = let z : ◌≡◌ {A = ℕ} 0 1 = cc in absurd (omega arith)
at_below (a ∷ L) zero q e = omega arith
at_below (a ∷ L) (suc i) q e = suc-le-suc (at_below L i q e)

mem_at : {q : Part} {L : List Part} → q ∈ L → (i : ℕ) × (get_elem? L i ≡ some q)
mem_at (here e) = (0, cc)
mem_at (there m) = let r = mem_at m in (suc r.0, r.1)

full_at : (L : List Part) (i : ℕ) → i < length L → (q : Part) × (get_elem? L i ≡ some q)
full_at [] i h = absurd (not-suc-le-zero h)
full_at (a ∷ L) zero h = (a, refl)
full_at (a ∷ L) (suc i) h = full_at L i (le_of_suc-le-suc h)

past_at : (L : List Part) (i : ℕ) → length L ≤ i → get_elem? L i ≡ none
past_at [] i h = refl
past_at (a ∷ L) zero h = absurd (not-suc-le-zero h)
past_at (a ∷ L) (suc i) h = past_at L i (le_of_suc-le-suc h)

at_rising : (L : List Part) → Rising order L → (i j : ℕ) (p q : Part) → get_elem? L i ≡ some p → get_elem? L j ≡ some q → i < j → Lt order p q
at_rising L empty i j p q e f h = let z : ◌≡◌ {A = ℕ} 0 1 = cc in absurd (omega arith)
at_rising L (next B R) i zero p q e f h = absurd (not-suc-le-zero h)
at_rising L (next {a = a} {l = t} B R) zero (suc j) p q e f h = let d : a ≡ p = cc in rw d at (B q (at_mem t j q f))
at_rising L (next {a = a} {l = t} B R) (suc i) (suc j) p q e f h = at_rising t R i j p q e f (le_of_suc-le-suc h)

-- ---- set to number
at_place : (L : List Part) → Rising order L → (i : ℕ) (q : Part) → get_elem? L i ≡ some q → place_in L q ≡ some i
unfolding place_in
at_place L empty i q e = let z : ◌≡◌ {A = ℕ} 0 1 = cc in absurd (omega arith)
at_place L (next {a = a} {l = t} B R) zero q e = go (equal q a) (equal_in q a (cc))
  where
    go : (b : Bool) → T b → cond b (some 0) (moved (place_in t q)) ≡ some 0
    go true h = refl
    go false h = absurd h
at_place L (next {a = a} {l = t} B R) (suc i) q e = go (equal q a) (λ h. part_order.irrefl q (rw (sym (equal_out q a h)) at (B q (at_mem t i q e)))) (at_place t R i q e)
  where
    go : (b : Bool) → (T b → ⊥) → place_in t q ≡ some i → cond b (some 0) (moved (place_in t q)) ≡ some (suc i)
    go true h d = absurd (h tt)
    go false h d = rw d

place_at : (L : List Part) (i : ℕ) (q : Part) → place_in L q ≡ some i → get_elem? L i ≡ some q
unfolding place_in
place_at [] i q e = let z : ◌≡◌ {A = ℕ} 0 1 = cc in absurd (omega arith)
place_at (a ∷ L) i q e = go (equal q a) (equal_out q a) (place_in L q) (λ j d. place_at L j q d) e
  where
    go : (b : Bool) → (T b → q ≡ a) → (o : Option ℕ) → ((j : ℕ) → o ≡ some j → get_elem? L j ≡ some q) → cond b (some 0) (moved o) ≡ some i → get_elem? (a ∷ L) i ≡ some q
    go true h o f e = let z : i ≡ 0 = cc in rw (z, h tt)
    go false h none f e = let z : ◌≡◌ {A = ℕ} 0 1 = cc in absurd (omega arith)
    go false h (some j) f e = let z : i ≡ suc j = cc in rw z (f j refl)

-- ---- as answers
told_some : {A : Type 0} (o : Option A) (a : A) → or17 o ≡ done a → o ≡ some a
told_some none a e = let z : ◌≡◌ {A = ℕ} 0 1 = cc in absurd (omega arith)
told_some (some b) a e = cc

pub number→set : (L : List Part) (q : Part) (i : ℕ) → number_of L q ≡ done i → set_at L i ≡ done q
unfolding number_of set_at
number→set L q i e = ap or17 (place_at L i q (told_some (place_in L q) i e))

pub set→number : (L : List Part) → Rising order L → (q : Part) (i : ℕ) → set_at L i ≡ done q → number_of L q ≡ done i
unfolding number_of set_at
set→number L R q i e = ap or17 (at_place L R i q (told_some (get_elem? L i) q e))

pub set_in : (L : List Part) (q : Part) (i : ℕ) → set_at L i ≡ done q → q ∈ L
unfolding set_at
set_in L q i e = at_mem L i q (told_some (get_elem? L i) q e)

pub set_below : (L : List Part) (q : Part) (i : ℕ) → set_at L i ≡ done q → i < length L
unfolding set_at
set_below L q i e = at_below L i q (told_some (get_elem? L i) q e)

pub in_set : (L : List Part) {q : Part} → q ∈ L → (i : ℕ) × (set_at L i ≡ done q)
unfolding set_at
in_set L m = let r = mem_at m in (r.0, ap or17 r.1)

pub set_full : (L : List Part) (i : ℕ) → i < length L → (q : Part) × (set_at L i ≡ done q)
unfolding set_at
set_full L i h = let r = full_at L i h in (r.0, ap or17 r.1)

pub set_past : (L : List Part) (i : ℕ) → length L ≤ i → set_at L i ≡ refused 17 0
unfolding set_at
set_past L i h = ap or17 (past_at L i h)

pub set_rising : (L : List Part) → Rising order L → (i j : ℕ) (p q : Part) → set_at L i ≡ done p → set_at L j ≡ done q → i < j → Lt order p q
unfolding set_at
set_rising L R i j p q e f h = at_rising L R i j p q (told_some (get_elem? L i) p e) (told_some (get_elem? L j) q f) h

-- lesser sets have lesser numbers
pub rising_set : (L : List Part) → Rising order L → (i j : ℕ) (p q : Part) → set_at L i ≡ done p → set_at L j ≡ done q → Lt order p q → i < j
rising_set L R i j p q e f h = go (dec_lt i j) (dec_lt j i)
  where
    go : Dec (i < j) → Dec (j < i) → i < j
    go (yes k) d = k
    go (no k) (yes g) = absurd (part_order.irrefl p (part_order.trans p q p h (set_rising L R j i q p f e g)))
    go (no k) (no g) =
        let d : i ≡ j = omega arith in
        let c : p ≡ q = cc in
        absurd (part_order.irrefl q (rw c at h))

-- a set that is not in the list has no number
pub no_number : (L : List Part) (q : Part) → (q ∈ L → ⊥) → number_of L q ≡ refused 17 0
unfolding number_of
no_number L q f = go (place_in L q) (λ i e. f (at_mem L i q (place_at L i q e)))
  where
    go : (o : Option ℕ) → ((i : ℕ) → o ≡ some i → ⊥) → or17 o ≡ refused 17 0
    go none g = refl
    go (some i) g = absurd (g i refl)
