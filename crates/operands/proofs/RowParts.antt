-- A row that is good is the row of a good part, and the other way round.
use Prim.Native.Nat.{Ordering}
use Prim.Native.Nat.{ℕ, zero, suc, ◌+◌, ◌-◌, ◌≤◌, compare}
use mathlib.Core.Path.{◌≡◌, refl, sym, ap, ◌∙◌}
use mathlib.Core.List.{List, [], ◌∷◌, ◌++◌}
use mathlib.Core.Bool.{Bool, true, and-eq-true_iff}
use native.Mathlib.Omega.{arith}
use lib.ListN.{length, get_or, take, drop, replicate, length-drop, take-append-drop}
use lib.Seq.{drop-drop, drop-append_seam, length-take-le}
use lib.Dec.{leb, ltb, eqb}
use borrow.Author.Tests.{leb-true, ltb-true, eqb-true, le-leb, lt-ltb, eq-eqb}
use Rattle.complex_entity.specs.MeaningRising.{◌∈◌, here, there, Rising, empty, next}
use Rattle.complex_entity.specs.MeaningParts.{Part, last_index}
use Rattle.complex_entity.specs.MeaningRows.{row_of}
use Rattle.complex_entity.specs.MirrorParts.{part_at}
use Rattle.complex_entity.proofs.Sets.{not_in_nil, below_cons}
use Rattle.complex_entity.proofs.Orders.{nat_order, cmp→lt, lt→cmp}
use Rattle.complex_entity.proofs.Names.{names_of_part}
use Rattle.complex_entity.proofs.Rows.{row_long}
use Rattle.operands.specs.MeaningOperands.{each, rises_after, rises, names_in, is_row}
use Rattle.operands.specs.Claims.{Good}

-- ---- the tests
each_out : (f : ℕ → Bool) (l : List ℕ) → each f l ≡ true → (n : ℕ) → n ∈ l → f n ≡ true
each_out f [] e n m = absurd (not_in_nil m)
each_out f (x ∷ l) e n (here d) = rw d ((and-eq-true_iff (f x) (each f l)).0 e).0
each_out f (x ∷ l) e n (there m) = each_out f l ((and-eq-true_iff (f x) (each f l)).0 e).1 n m

each_in : (f : ℕ → Bool) (l : List ℕ) → ((n : ℕ) → n ∈ l → f n ≡ true) → each f l ≡ true
each_in f [] h = refl
each_in f (x ∷ l) h = (and-eq-true_iff (f x) (each f l)).1 (h x (here refl), each_in f l (λ n m. h n (there m)))

after_rising : (x : ℕ) (l : List ℕ) → rises_after x l ≡ true → Rising compare (x ∷ l)
after_rising x [] e = next (λ q m. absurd (not_in_nil m)) empty
after_rising x (y ∷ l) e =
    let h = (and-eq-true_iff (ltb x y) (rises_after y l)).0 e in
    go (lt→cmp x y (ltb-true x y h.0)) (after_rising y l h.1)
  where
    go : compare x y ≡ Ordering.lt → Rising compare (y ∷ l) → Rising compare (x ∷ y ∷ l)
    go u (next B R) = next (below_cons nat_order u B) (next B R)

rising_out : (l : List ℕ) → rises l ≡ true → Rising compare l
rising_out [] e = empty
rising_out (x ∷ l) e = after_rising x l e

rising_after : (x : ℕ) (l : List ℕ) → Rising compare (x ∷ l) → rises_after x l ≡ true
rising_after x [] R = refl
rising_after x (y ∷ l) (next B R) = (and-eq-true_iff (ltb x y) (rises_after y l)).1 (lt-ltb x y (cmp→lt x y (B y (here refl))), rising_after y l R)

rising_in : (l : List ℕ) → Rising compare l → rises l ≡ true
rising_in [] R = refl
rising_in (x ∷ l) R = rising_after x l R

zeros : (l : List ℕ) → each (λ n. eqb n 0) l ≡ true → l ≡ replicate (length l) 0
zeros [] e = refl
zeros (x ∷ l) e =
    let h = (and-eq-true_iff (eqb x 0) (each (λ n. eqb n 0) l)).0 e in
    rw (eqb-true x 0 h.0) (ap (λ (z : List ℕ). 0 ∷ z) (zeros l h.1))

zeros_in : (n : ℕ) → each (λ n. eqb n 0) (replicate n 0) ≡ true
zeros_in zero = refl
zeros_in (suc n) = zeros_in n

-- ---- what a good row says
record Shown (r : List ℕ) : Type 0 where
  long : length r ≡ 13
  few : get_or r 0 0 ≤ 12
  rising : rises (names_in r) ≡ true
  small : each (λ n. leb n last_index) (names_in r) ≡ true
  tail : each (λ n. eqb n 0) (drop (1 + get_or r 0 0) r) ≡ true

shown : (r : List ℕ) → is_row r ≡ true → Shown r
unfolding is_row
shown r e =
    let a = (and-eq-true_iff (eqb (length r) 13) _).0 e in
    let b = (and-eq-true_iff (leb (get_or r 0 0) 12) _).0 a.1 in
    let c = (and-eq-true_iff (rises (names_in r)) _).0 b.1 in
    let d = (and-eq-true_iff (each (λ n. leb n last_index) (names_in r)) _).0 c.1 in
    record { long = eqb-true (length r) 13 a.0; few = leb-true (get_or r 0 0) 12 b.0; rising = c.0; small = d.0; tail = d.1 }

names_long : (r : List ℕ) → Shown r → length (names_in r) ≡ get_or r 0 0
names_long r s = length-take-le (get_or r 0 0) (drop 1 r) (omega (arith, length-drop 1 r, s.long, s.few))

pub row_good : (r : List ℕ) → is_row r ≡ true → Good (names_in r)
row_good r e =
    let s = shown r e in
    record {
      rising = rising_out (names_in r) s.rising;
      small = λ n m. leb-true n last_index (each_out (λ n. leb n last_index) (names_in r) s.small n m);
      few = omega (arith, names_long r s, s.few);
    }

pub row_is_of : (r : List ℕ) → is_row r ≡ true → r ≡ row_of (names_in r)
unfolding row_of
row_is_of [] e = let s = shown [] e in absurd (omega (arith, s.long))
row_is_of (c ∷ l) e =
    let s = shown (c ∷ l) e in
    let n : length (take c l) ≡ c = names_long (c ∷ l) s in
    let k : length (drop c l) ≡ 12 - c = length-drop c l ∙ omega (arith, s.long) in
    let z : drop c l ≡ replicate (length (drop c l)) 0 = zeros (drop c l) (rw (← drop-drop c 1 (c ∷ l)) at s.tail) in
    rw n (ap (λ (x : List ℕ). c ∷ x) (sym (take-append-drop c l) ∙ ap (λ (x : List ℕ). take c l ++ x) (z ∙ ap (λ (m : ℕ). replicate m 0) k)))

-- ---- the row of a good part
pub names_back_law : (p : Part) → names_in (row_of p) ≡ p
unfolding row_of
names_back_law p = names_of_part p

pub good_row : (p : Part) → Good p → is_row (row_of p) ≡ true
unfolding is_row row_of
good_row p g =
    let n : take (length p) (p ++ replicate (12 - length p) 0) ≡ p = names_back_law p in
    let d : drop (1 + length p) (row_of p) ≡ replicate (12 - length p) 0 = sym (drop-drop (length p) 1 (row_of p)) ∙ drop-append_seam p (replicate (12 - length p) 0) in
    rw (
      eq-eqb (length (row_of p)) 13 (row_long p g.few),
      le-leb (length p) 12 g.few,
      n,
      d,
      rising_in p g.rising,
      each_in (λ n. leb n last_index) p (λ m i. le-leb m last_index (g.small m i)),
      zeros_in (12 - length p),
    ) refl

-- the part that a list of numbers begins with
pub part_names : (l : List ℕ) → names_in (take 13 l) ≡ part_at l
part_names [] = refl
part_names (x ∷ l) = refl
