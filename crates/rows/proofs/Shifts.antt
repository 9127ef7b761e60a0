-- Numbers that move: the loops of `raise` and `copy`, and a row where it stands.
use Prim.Native.Nat.{ℕ, suc, ◌+◌, ◌-◌, ◌≤◌, ◌<◌}
use mathlib.Core.Path.{◌≡◌, refl, sym, ap, ◌∙◌}
use mathlib.Core.List.{List, [], ◌∷◌, ◌++◌, append_assoc}
use native.Mathlib.Omega.{arith}
use native.Mathlib.Nat.{add-zero}
use native.Mathlib.Numerals.{add-one}
use lib.ListN.{length, get_or, take, drop, set, length-set, length-drop, take-append-drop, drop_of_length-le, get_or-append}
use lib.Seq.{paste, take-add, drop_at, take-suc, drop-cons, append_snoc, set_at, get_or-take, get_or-drop, length-take-le}

-- k of the n numbers are still to go, those after them stand further up
unfoldable pub moving : List ℕ → ℕ → ℕ → ℕ → ℕ → List ℕ
moving l from to n k = take (to + k) l ++ (drop k (take n (drop from l)) ++ drop (to + n) l)

pub record Raising (rows₀ rows : List ℕ) (from to n k : ℕ) : Type 0 where
  pub up : from ≤ to
  pub high : k ≤ n
  pub inside : to + n ≤ length rows₀
  pub is : rows ≡ moving rows₀ from to n k
  pub long : length rows ≡ length rows₀

taken_length : (l : List ℕ) (from to n : ℕ) → from ≤ to → to + n ≤ length l → length (take n (drop from l)) ≡ n
taken_length l from to n h k = length-take-le n (drop from l) (omega (arith, length-drop from l))

pub raise_start : (rows : List ℕ) (from to n : ℕ) → from ≤ to → to + n ≤ length rows → Raising rows rows from to n (n - 0)
unfolding moving
raise_start rows from to n h k =
    let e : drop n (take n (drop from rows)) ≡ [] = drop_of_length-le (take n (drop from rows)) {i = n} (omega (arith, taken_length rows from to n h k)) in
    let z : n - 0 ≡ n = omega arith in
    rw z (record { up = h; high = omega arith; inside = k; is = sym (rw e (take-append-drop (to + n) rows)); long = refl })

-- one number more moves up
moved_step : (l : List ℕ) (from to n j : ℕ) → from ≤ to → suc j ≤ n → to + n ≤ length l
    → set (moving l from to n (suc j)) (to + j) (get_or (moving l from to n (suc j)) (from + j) 0) ≡ moving l from to n j
unfolding moving
moved_step l from to n j o h k =
    let S : List ℕ = take n (drop from l) in
    let z : List ℕ = drop (suc j) S ++ drop (to + n) l in
    let e : to + suc j ≡ suc (to + j) = omega arith in
    let t : length (take (suc (to + j)) l) ≡ suc (to + j) = length-take-le (suc (to + j)) l (omega arith) in
    let g : get_or (take (suc (to + j)) l ++ z) (from + j) 0 ≡ get_or S j 0 =
    get_or-append (take (suc (to + j)) l) z 0 (from + j) (omega arith) ∙ get_or-take (suc (to + j)) l (from + j) 0 (omega arith)
    ∙ sym (get_or-take n (drop from l) j 0 h ∙ get_or-drop from l j 0) in
    let s : take (suc (to + j)) l ++ z ≡ take (to + j) l ++ get_or l (to + j) 0 ∷ z =
    ap (λ (x : List ℕ). x ++ z) (take-suc l (to + j) 0 (omega arith)) ∙ append_snoc (take (to + j) l) (get_or l (to + j) 0) z in
    let u : drop j S ≡ get_or S j 0 ∷ drop (suc j) S = drop-cons S j 0 (omega (arith, taken_length l from to n o k)) in
    rw (e, g, u)
    (ap (λ (x : List ℕ). set x (to + j) (get_or S j 0)) s
    ∙ set_at (take (to + j) l) (get_or l (to + j) 0) z (get_or S j 0) (to + j) (length-take-le (to + j) l (omega arith)))

module _ (rows₀ rows : List ℕ) (from to n k : ℕ) (f : Raising rows₀ rows from to n (n - k)) where
  pub raise_done : n ≤ k → rows ≡ paste rows₀ to (drop from rows₀) n
  unfolding moving
  raise_done h =
      let e : n - k ≡ 0 = omega arith in
      f.is ∙ rw (e, add-zero to) (sym (append_assoc (take to rows₀) (take n (drop from rows₀)) (drop (to + n) rows₀)))

  pub raise_next : k < n → Raising rows₀ (set rows (to + (n - 1 - k)) (get_or rows (from + (n - 1 - k)) 0)) from to n (n - (k + 1))
  raise_next h =
      let d : n - k ≡ suc (n - 1 - k) = omega arith in
      let e : n - (k + 1) ≡ n - 1 - k = omega arith in
      rw e (record {
        up = f.up;
        high = omega arith;
        inside = f.inside;
        is =
            ap (λ (x : List ℕ). set x (to + (n - 1 - k)) (get_or x (from + (n - 1 - k)) 0)) (f.is ∙ ap (moving rows₀ from to n) d)
            ∙ moved_step rows₀ from to n (n - 1 - k) f.up (omega arith) f.inside;
        long = length-set rows _ _ ∙ f.long;
      })

pub ruleset raising = (raise_start, raise_done, raise_next)

-- ---- the loop of `copy`: the first i numbers are the other slice's, and the rest is what it was

pub record Copying (to₀ to from : List ℕ) (n i : ℕ) : Type 0 where
  pub at : i ≤ n
  pub in_to : n ≤ length to₀
  pub in_from : n ≤ length from
  pub is : to ≡ take i from ++ drop i to₀
  pub long : length to ≡ length to₀

pub copy_start : (to from : List ℕ) (n : ℕ) → n ≤ length to → n ≤ length from → Copying to to from n 0
copy_start to from n h k = record { at = omega arith; in_to = h; in_from = k; is = refl; long = refl }

module _ (to₀ to from : List ℕ) (n i : ℕ) (f : Copying to₀ to from n i) where
  pub copy_done : n ≤ i → to ≡ take n from ++ drop n to₀
  copy_done h = let e : i ≡ n = omega (arith, f.at) in f.is ∙ ap (λ (j : ℕ). take j from ++ drop j to₀) e

  module _ (h : i < n) where
    pub copy_next : Copying to₀ (set to i (get_or from i 0)) from n (i + 1)
    copy_next =
        let a : i < length from = omega (arith, f.in_from) in
        let b : i < length to₀ = omega (arith, f.in_to) in
        record {
          at = omega arith;
          in_to = f.in_to;
          in_from = f.in_from;
          is =
              rw (add-one i, f.is, drop-cons to₀ i 0 b, take-suc from i 0 a)
              (set_at (take i from) (get_or to₀ i 0) (drop (suc i) to₀) (get_or from i 0) i (length-take-le i from (omega arith))
              ∙ sym (append_snoc (take i from) (get_or from i 0) (drop (suc i) to₀)));
          long = length-set to _ _ ∙ f.long;
        }

pub ruleset copying = (copy_start, copy_done, copy_next)

-- a row where it stands
pub row_slice : (l : List ℕ) (a : ℕ) → a + 13 ≤ length l → drop a (take (a + 13) l) ≡ take 13 (drop a l)
row_slice l a h = rw (take-add a 13 l) (drop_at (take a l) (take 13 (drop a l)) a (length-take-le a l (omega arith)))
