-- One row: the loop that looks at its numbers one after the other.
use Prim.Native.Nat.{ℕ, zero, suc, ◌+◌, ◌-◌, ◌≤◌, ◌<◌}
use mathlib.Core.Path.{◌≡◌, refl, sym, ap, ◌∙◌}
use mathlib.Core.List.{List, [], ◌∷◌}
use mathlib.Core.Bool.{Bool, true, false, ◌&&◌}
use native.Mathlib.Omega.{arith}
use native.Mathlib.Numerals.{add-one}
use lib.ListN.{length, get_or, take, drop, drop_of_length-le}
use lib.Seq.{drop-cons, drop-drop}
use lib.Dec.{leb, eqb, leb-zero}
use borrow.Author.Tests.{le-leb, lt-leb, eq-eqb, ne_eqb}
use Rattle.complex_entity.specs.MeaningParts.{last_index}
use Rattle.operands.specs.MeaningOperands.{each, rises_after, rises, names_in, is_row}

-- n names, each at least the least that may come and at most the last index, and then zeros
unfoldable pub rest_of : ℕ → ℕ → List ℕ → Bool
rest_of zero low [] = true
rest_of zero low (x ∷ l) = eqb x 0 && rest_of zero low l
rest_of (suc n) low [] = true
rest_of (suc n) low (x ∷ l) = leb low x && (leb x last_index && rest_of n (suc x) l)

rises_from : ℕ → List ℕ → Bool
rises_from low [] = true
rises_from low (x ∷ l) = leb low x && rises_after x l

shuffle : (a b c d e : Bool) → ((a && b) && ((c && d) && e)) ≡ (a && (c && (b && (d && e))))
shuffle true true true d e = refl
shuffle true false true d e = refl
shuffle true true false d e = refl
shuffle true false false d e = refl
shuffle false b c d e = refl

after_from : (x : ℕ) (l : List ℕ) → rises_after x l ≡ rises_from (suc x) l
unfolding rises_from
after_from x [] = refl
after_from x (y ∷ l) = refl

zeros_are : (low : ℕ) (l : List ℕ) → each (λ n. eqb n 0) l ≡ rest_of zero low l
unfolding rest_of
zeros_are low [] = refl
zeros_are low (x ∷ l) = ap (λ (b : Bool). eqb x 0 && b) (zeros_are low l)

rest_is : (n low : ℕ) (l : List ℕ) → (rises_from low (take n l) && (each (λ n. leb n last_index) (take n l) && each (λ n. eqb n 0) (drop n l))) ≡ rest_of n low l
unfolding rest_of rises_from
rest_is zero low l = zeros_are low l
rest_is (suc n) low [] = refl
rest_is (suc n) low (x ∷ l) =
    shuffle (leb low x) (rises_after x (take n l)) (leb x last_index) (each (λ n. leb n last_index) (take n l)) (each (λ n. eqb n 0) (drop n l))
    ∙ ap (λ (b : Bool). leb low x && (leb x last_index && b))
    (ap (λ (b : Bool). b && (each (λ n. leb n last_index) (take n l) && each (λ n. eqb n 0) (drop n l))) (after_from x (take n l)) ∙ rest_is n (suc x) l)

rises_from_law : (l : List ℕ) → rises l ≡ rises_from 0 l
unfolding rises_from
rises_from_law [] = refl
rises_from_law (x ∷ l) = rw (leb-zero x) refl

-- a row of 13 numbers with a count of at most 12
pub row_is : (r : List ℕ) → length r ≡ 13 → get_or r 0 0 ≤ 12 → is_row r ≡ rest_of (get_or r 0 0) 0 (drop 1 r)
unfolding is_row
row_is r l h =
    rw (eq-eqb (length r) 13 l, le-leb (get_or r 0 0) 12 h, ← drop-drop (get_or r 0 0) 1 r, rises_from_law (names_in r)) (rest_is (get_or r 0 0) 0 (drop 1 r))

pub record Shaping (row : List ℕ) (count low i : ℕ) (r : Bool) : Type 0 where
  pub long : length row ≡ 13
  pub few : count ≤ 12
  pub at : 1 ≤ i
  pub rest : rest_of (count + 1 - i) low (drop i row) ≡ r

pub shape_long : (row : List ℕ) → (length row ≡ 13 → ⊥) → false ≡ is_row row
unfolding is_row
shape_long row h = rw (ne_eqb (length row) 13 h) refl

pub shape_first : (row : List ℕ) → length row ≡ 13 → 0 < length row
shape_first row l = omega arith

module _ (row : List ℕ) (l : length row ≡ 13) where
  pub shape_many : 12 < get_or row 0 0 → false ≡ is_row row
  unfolding is_row
  shape_many h = rw (eq-eqb (length row) 13 l, lt-leb (get_or row 0 0) 12 h) refl

  pub shape_start : get_or row 0 0 ≤ 12 → Shaping row (get_or row 0 0) 0 1 (is_row row)
  shape_start h =
      let e : get_or row 0 0 + 1 - 1 ≡ get_or row 0 0 = omega arith in
      record { long = l; few = h; at = omega arith; rest = rw e (sym (row_is row l h)) }

module _ (row : List ℕ) (count low i : ℕ) (r : Bool) (f : Shaping row count low i r) where
  pub shape_done : 13 ≤ i → true ≡ r
  unfolding rest_of
  shape_done h =
      let e : count + 1 - i ≡ 0 = omega (arith, f.few) in
      sym (rw (e, drop_of_length-le row {i = i} (omega (arith, f.long))) refl) ∙ f.rest

  module _ (h : i < 13) where
    here : drop i row ≡ get_or row i 0 ∷ drop (i + 1) row
    here = rw (add-one i) (drop-cons row i 0 (omega (arith, f.long)))

    pub shape_read : i < length row
    shape_read = omega (arith, f.long)

    module _ (g : i ≤ count) where
      left : count + 1 - i ≡ suc (count + 1 - (i + 1))
      left = omega arith

      pub shape_low : get_or row i 0 < low → false ≡ r
      unfolding rest_of
      shape_low u = sym (rw (left, here, lt-leb low (get_or row i 0) u) refl) ∙ f.rest

      module _ (u : low ≤ get_or row i 0) where
        pub shape_high : last_index < get_or row i 0 → false ≡ r
        unfolding rest_of
        shape_high v = sym (rw (left, here, le-leb low (get_or row i 0) u, lt-leb (get_or row i 0) last_index v) refl) ∙ f.rest

        pub shape_next : get_or row i 0 ≤ last_index → Shaping row count (get_or row i 0 + 1) (i + 1) r
        unfolding rest_of
        shape_next v =
            record {
              long = f.long;
              few = f.few;
              at = omega arith;
              rest = sym (rw (left, here, le-leb low (get_or row i 0) u, le-leb (get_or row i 0) last_index v, add-one (get_or row i 0)) refl) ∙ f.rest;
            }

    module _ (g : count < i) where
      none : count + 1 - i ≡ 0
      none = omega arith

      pub shape_stray : (get_or row i 0 ≡ 0 → ⊥) → false ≡ r
      unfolding rest_of
      shape_stray u = sym (rw (none, here, ne_eqb (get_or row i 0) 0 u) refl) ∙ f.rest

      pub shape_zero : get_or row i 0 ≡ 0 → Shaping row count low (i + 1) r
      unfolding rest_of
      shape_zero u =
          let e : count + 1 - (i + 1) ≡ 0 = omega arith in
          record {
            long = f.long;
            few = f.few;
            at = omega arith;
            rest = rw e (sym (rw (none, here, eq-eqb (get_or row i 0) 0 u) refl) ∙ f.rest);
          }

pub ruleset shaping = (shape_long, shape_first, shape_many, shape_start, shape_done, shape_read, shape_low, shape_high, shape_next, shape_stray, shape_zero)
