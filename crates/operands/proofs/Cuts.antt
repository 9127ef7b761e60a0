-- Numbers cut into rows, and where the first wrong row is among those of a list.
use Prim.Native.Nat.{ℕ, zero, suc, ◌+◌, ◌*◌, ◌≤◌, ◌<◌}
use mathlib.Core.Path.{◌≡◌, refl, ap}
use mathlib.Core.List.{List, [], ◌∷◌, ◌++◌}
use mathlib.Core.Bool.{Bool, true, false, cond, ◌&&◌, and-eq-true_iff}
use mathlib.Core.Option.{some}
use native.Mathlib.Omega.{arith}
use native.Mathlib.Nat.{not-suc-le-zero, add-zero}
use lib.ListN.{length, take, drop, length-take, length-drop}
use lib.Seq.{drop-drop}
use lib.Dec.{ltb}
use borrow.Author.Tests.{ltb-true, eqb-true}
use Rattle.complex_entity.specs.MeaningLists.{most_parts}
use Rattle.operands.specs.MeaningOperands.{is_row, cut_up, rows_in, numbers_from, first_wrong}
use Rattle.operands.specs.MirrorOperands.{good_from}

-- from a contradiction that `cc` found
pub clash : {A : Type 0} → ◌≡◌ {A = ℕ} 0 1 → A
clash e = absurd (omega arith)

-- ---- rows
same_cut : (n m : ℕ) (l : List ℕ) → length l ≤ n → length l ≤ m → cut_up n l ≡ cut_up m l
unfolding cut_up
same_cut zero zero l h k = refl
same_cut zero (suc m) [] h k = refl
same_cut zero (suc m) (x ∷ l) h k = absurd (not-suc-le-zero h)
same_cut (suc n) zero [] h k = refl
same_cut (suc n) zero (x ∷ l) h k = absurd (not-suc-le-zero k)
same_cut (suc n) (suc m) [] h k = refl
same_cut (suc n) (suc m) (x ∷ l) h k =
    ap (λ (z : List (List ℕ)). take 13 (x ∷ l) ∷ z) (same_cut n m (drop 12 l) (omega (arith, length-drop 12 l)) (omega (arith, length-drop 12 l)))

pub rows_nil : (l : List ℕ) → length l ≤ 0 → rows_in l ≡ []
unfolding cut_up
rows_nil [] h = refl
rows_nil (x ∷ l) h = absurd (not-suc-le-zero h)

pub rows_cons : (l : List ℕ) → 0 < length l → rows_in l ≡ take 13 l ∷ rows_in (drop 13 l)
unfolding cut_up
rows_cons [] h = absurd (not-suc-le-zero h)
rows_cons (x ∷ l) h =
    ap (λ (z : List (List ℕ)). take 13 (x ∷ l) ∷ z) (same_cut (length l) (length (drop 12 l)) (drop 12 l) (omega (arith, length-drop 12 l)) (omega arith))

-- ---- tests
row_length : (r : List ℕ) → is_row r ≡ true → length r ≡ 13
unfolding is_row
row_length r e = eqb-true (length r) 13 ((and-eq-true_iff _ _).0 e).0

pub row_there : (l : List ℕ) → is_row (take 13 l) ≡ true → 13 ≤ length l
row_there l e = omega (arith, row_length (take 13 l) e, length-take 13 l)

-- ---- the rows of one list, from number i on: g of n are good
pub data Run : ℕ → ℕ → List ℕ → ℕ → Type 0 where
  ends : {i : ℕ} {l : List ℕ} → Run i zero l 0
  stops : {i n : ℕ} {l : List ℕ} → (ltb i most_parts && is_row (take 13 l)) ≡ false → Run i (suc n) l 0
  goes : {i n : ℕ} {l : List ℕ} {g : ℕ} → (ltb i most_parts && is_row (take 13 l)) ≡ true → Run (suc i) n (drop 13 l) g → Run i (suc n) l (suc g)

pub run : (i n : ℕ) (l : List ℕ) → Run i n l (good_from i n l)
unfolding good_from
run i zero l = ends
run i (suc n) l = go (ltb i most_parts && is_row (take 13 l)) refl (run (suc i) n (drop 13 l))
  where
    go : (b : Bool) → (ltb i most_parts && is_row (take 13 l)) ≡ b → Run (suc i) n (drop 13 l) (good_from (suc i) n (drop 13 l))
        → Run i (suc n) l (cond b (suc (good_from (suc i) n (drop 13 l))) 0)
    go true e r = goes e r
    go false e r = stops e

-- a good row is there
goes_on : (i : ℕ) (l : List ℕ) → (ltb i most_parts && is_row (take 13 l)) ≡ true → 13 ≤ length l
goes_on i l e = row_there l ((and-eq-true_iff (ltb i most_parts) (is_row (take 13 l))).0 e).1

-- the first wrong row, where `more` is wanted after this list
pub run_stops : {i n : ℕ} {l : List ℕ} {g : ℕ} → Run i n l g → g < n → (k : ℕ) (more : List ℕ) → first_wrong k (numbers_from i n ++ more) (rows_in l) ≡ some (k + g)
unfolding first_wrong numbers_from
run_stops ends h k more = absurd (not-suc-le-zero h)
run_stops {i} {n} {l} (stops e) h k more = go (length l) refl
  where
    go : (m : ℕ) → length l ≡ m → first_wrong k (numbers_from i n ++ more) (rows_in l) ≡ some (k + 0)
    go zero u = rw (rows_nil l (omega arith), add-zero k) refl
    go (suc m) u = rw (rows_cons l (omega arith), e, add-zero k) refl
run_stops {i} {n} {l} {g} (goes {g = d} e r) h k more =
    let s : suc k + d ≡ k + g = omega arith in
    rw (rows_cons l (omega (arith, goes_on i l e)), e, ← s) (run_stops r (omega arith) (suc k) more)

pub run_on : {i n : ℕ} {l : List ℕ} {g : ℕ} → Run i n l g → n ≤ g → (k : ℕ) (more : List ℕ)
    → first_wrong k (numbers_from i n ++ more) (rows_in l) ≡ first_wrong (k + n) more (rows_in (drop (13 * n) l))
unfolding first_wrong numbers_from
run_on ends h k more = rw (add-zero k) refl
run_on (stops e) h k more = absurd (not-suc-le-zero h)
run_on {i} {n} {l} (goes {n = m} e r) h k more =
    let s : k + suc m ≡ suc k + m = omega arith in
    let t : 13 * suc m ≡ 13 + 13 * m = omega arith in
    rw (rows_cons l (omega (arith, goes_on i l e)), e, s, t, ← drop-drop (13 * m) 13 l) (run_on r (omega arith) (suc k) more)

pub run_there : {i n : ℕ} {l : List ℕ} {g : ℕ} → Run i n l g → n ≤ g → 13 * n ≤ length l
run_there ends h = omega arith
run_there (stops e) h = absurd (not-suc-le-zero h)
run_there {i} {n} {l} (goes e r) h = omega (arith, goes_on i l e, run_there r (omega arith), length-drop 13 l)

pub run_few : {i n : ℕ} {l : List ℕ} {g : ℕ} → Run i n l g → n ≤ g → i ≤ 128 → i + n ≤ 128
run_few ends h u = omega arith
run_few (stops e) h u = absurd (not-suc-le-zero h)
run_few {i} {n} {l} (goes e r) h u = omega (arith, run_few r (omega arith) (ltb-true i 128 ((and-eq-true_iff (ltb i most_parts) (is_row (take 13 l))).0 e).0))

-- at most 128 are good, and from there on it does not matter how many are wanted
pub run_most : {i n : ℕ} {l : List ℕ} {g : ℕ} → Run i n l g → i ≤ 128 → i + g ≤ 128
run_most ends u = omega arith
run_most (stops e) u = omega arith
run_most {i} {n} {l} (goes e r) u = omega (arith, run_most r (ltb-true i 128 ((and-eq-true_iff (ltb i most_parts) (is_row (take 13 l))).0 e).0))

pub run_same : {i n m : ℕ} {l : List ℕ} {g h : ℕ} → Run i n l g → Run i m l h → i ≤ 128 → 128 < i + n → 128 < i + m → g ≡ h
run_same ends s u a b = absurd (omega arith)
run_same (stops e) ends u a b = absurd (omega arith)
run_same (goes e r) ends u a b = absurd (omega arith)
run_same (stops e) (stops f) u a b = refl
run_same (stops e) (goes f s) u a b = clash (cc)
run_same (goes e r) (stops f) u a b = clash (cc)
run_same {i} {n} {m} {l} (goes e r) (goes f s) u a b =
    ap suc (run_same r s (ltb-true i 128 ((and-eq-true_iff (ltb i most_parts) (is_row (take 13 l))).0 e).0) (omega arith) (omega arith))

-- how many rows there are, the last of which may be cut short
pub rows_count : (n : ℕ) (l : List ℕ) → length l ≤ n → (13 * length (rows_in l) ≤ length l + 12) × (length l ≤ 13 * length (rows_in l))
rows_count zero [] h = rw (rows_nil [] (omega arith)) (omega arith, omega arith)
rows_count (suc n) [] h = rw (rows_nil [] (omega arith)) (omega arith, omega arith)
rows_count zero (x ∷ l) h = absurd (not-suc-le-zero h)
rows_count (suc n) (x ∷ l) h =
    let i = rows_count n (drop 13 (x ∷ l)) (omega (arith, length-drop 13 (x ∷ l))) in
    rw (rows_cons (x ∷ l) (omega arith)) (omega (arith, i.0, length-drop 13 (x ∷ l)), omega (arith, i.1, length-drop 13 (x ∷ l)))
