-- The place of a part in a rising list: found by halving, or by a look at the last row first.
use Prim.Native.Nat.{ℕ, suc, ◌+◌, ◌-◌, ◌*◌, ◌/◌, ◌≤◌, ◌<◌, Ordering}
use mathlib.Core.Path.{◌≡◌, refl, sym, ap, ◌∙◌}
use mathlib.Core.List.{List, [], ◌∷◌, ◌++◌}
use native.Mathlib.Omega.{arith}
use native.Mathlib.Numerals.{add-one}
use native.Mathlib.Nat.{zero-add, add-zero}
use lib.ListN.{length, get_or, take, drop, take-append-drop}
use lib.Seq.{slice, slice-cons, slice_empty, length-slice, take-length, drop-append-le, take-take, length-take-le}
use Rattle.std.specs.Prelude.{Result, Ok, Err}
use Rattle.std.specs.declared.cmp.Ordering.{Ordering as Answered}
use Rattle.std.specs.declared.cmp.Ordering.TheVariants.{Less, Equal, Greater}
use Rattle.complex_entity.specs.MeaningRising.{here, Lt, View, less, same, more, Rising, empty, next}
use Rattle.complex_entity.specs.MeaningParts.{Part, order}
use Rattle.complex_entity.specs.MirrorParts.{part_at}
use Rattle.complex_entity.specs.Told.{told_order}
use Rattle.complex_entity.proofs.Orders.{part_order}
use Rattle.complex_entity.proofs.Members.{∈_append_left, ∈_append_right}
use Rattle.rows.specs.MirrorRows.{parts_at, Stands}
use Rattle.rows.specs.MirrorLists.{further, place_of}
use Rattle.rows.proofs.Flats.{parts_length, parts_at_law}

-- ---- what a comparison's answer says, and the other way round
module _ (p q : Part) where
  pub order_same : order p q ≡ Ordering.eq → p ≡ q
  order_same e = go (part_order.view p q) e
    where
      go : {o : Ordering} → View order p q o → o ≡ Ordering.eq → p ≡ q
      go (less h) e = let z : ◌≡◌ {A = ℕ} 0 1 = cc in absurd (omega arith)
      go (same h) e = h
      go (more h) e = let z : ◌≡◌ {A = ℕ} 0 1 = cc in absurd (omega arith)

  pub order_more : order p q ≡ Ordering.gt → Lt order q p
  order_more e = go (part_order.view p q) e
    where
      go : {o : Ordering} → View order p q o → o ≡ Ordering.gt → Lt order q p
      go (less h) e = let z : ◌≡◌ {A = ℕ} 0 1 = cc in absurd (omega arith)
      go (same h) e = let z : ◌≡◌ {A = ℕ} 0 1 = cc in absurd (omega arith)
      go (more h) e = h

  order_flip : Lt order q p → order p q ≡ Ordering.gt
  order_flip k = go (part_order.view p q)
    where
      go : {o : Ordering} → View order p q o → o ≡ Ordering.gt
      go (less h) = absurd (part_order.irrefl p (part_order.trans p q p h k))
      go (same h) = absurd (part_order.irrefl q (rw h at k))
      go (more h) = refl

-- ---- parts of a rising list
pub rising_left : (a b : List Part) → Rising order (a ++ b) → Rising order a
rising_left [] b r = empty
rising_left (x ∷ a) b (next B R) = next (λ q m. B q (∈_append_left a b m)) (rising_left a b R)

rising_right : (a b : List Part) → Rising order (a ++ b) → Rising order b
rising_right [] b r = r
rising_right (x ∷ a) b (next B R) = rising_right a b R

rising_after : (a : List Part) (q : Part) (b : List Part) → Rising order (a ++ q ∷ b) → Rising order b
rising_after a q b r = go (rising_right a (q ∷ b) r)
  where
    go : Rising order (q ∷ b) → Rising order b
    go (next B R) = R

-- ---- places moved up
further_zero : (s : Result ℕ ℕ) → further 0 s ≡ s
further_zero (Ok i) = ap (λ (j : ℕ). Ok j) (zero-add i)
further_zero (Err i) = ap (λ (j : ℕ). Err j) (zero-add i)

further_further : (k m : ℕ) (s : Result ℕ ℕ) → further k (further m s) ≡ further (k + m) s
further_further k m (Ok i) = ap (λ (j : ℕ). Ok j) (omega arith)
further_further k m (Err i) = ap (λ (j : ℕ). Err j) (omega arith)

-- ---- the place in a list that is split at q
module _ (p q : Part) (b : List Part) where
  place_less : (a : List Part) → order p q ≡ Ordering.lt → place_of (a ++ q ∷ b) p ≡ place_of a p
  unfolding place_of
  place_less [] e = rw e
  place_less (x ∷ a) e = rw (place_less a e)

  place_same : (a : List Part) → order p q ≡ Ordering.eq → Rising order (a ++ q ∷ b) → place_of (a ++ q ∷ b) p ≡ Ok (length a)
  unfolding place_of
  place_same [] e r = rw e
  place_same (x ∷ a) e (next B R) =
      let m : order p x ≡ Ordering.gt = order_flip p x (rw (order_same p q e) (B q (∈_append_right a (q ∷ b) (here refl)))) in
      let n : 1 + length a ≡ suc (length a) = omega arith in
      rw (m, place_same a e R, n)

  place_more : (a : List Part) → order p q ≡ Ordering.gt → Rising order (a ++ q ∷ b) → place_of (a ++ q ∷ b) p ≡ further (suc (length a)) (place_of b p)
  unfolding place_of
  place_more [] e r = rw e
  place_more (x ∷ a) e (next B R) =
      let m : order p x ≡ Ordering.gt = order_flip p x (part_order.trans x q p (B q (∈_append_right a (q ∷ b) (here refl))) (order_more p q e)) in
      let n : 1 + suc (length a) ≡ suc (suc (length a)) = omega arith in
      rw (m, place_more a e R) (further_further 1 (suc (length a)) (place_of b p) ∙ ap (λ (k : ℕ). further k (place_of b p)) n)

slice_split : (lo mid hi : ℕ) (l : List Part) (d : Part) → lo ≤ mid → mid < hi → hi ≤ length l
    → slice lo hi l ≡ slice lo mid l ++ get_or l mid d ∷ slice (suc mid) hi l
slice_split lo mid hi l d h k n =
    let t : take mid (take hi l) ++ drop mid (take hi l) ≡ take hi l = take-append-drop mid (take hi l) in
    let m : length (take mid l) ≡ mid = length-take-le mid l (omega arith) in
    ap (drop lo) (sym t ∙ rw (take-take mid hi l (omega arith))) ∙ drop-append-le lo (take mid l) (slice mid hi l) (omega arith)
    ∙ ap (λ (x : List Part). slice lo mid l ++ x) (slice-cons mid hi l d k n)

-- ---- the loop: the place is among the rows from lo up to hi
pub record Placing (rows : List ℕ) (count : ℕ) (p : Part) (lo hi : ℕ) (r : Result ℕ ℕ) : Type 0 where
  pub low : lo ≤ hi
  pub high : hi ≤ count
  pub stands : Stands rows count
  pub ordered : Rising order (slice lo hi (parts_at count rows))
  pub whole : further lo (place_of (slice lo hi (parts_at count rows)) p) ≡ r

pub place_start : (rows : List ℕ) (count : ℕ) (p : Part) → Stands rows count → Placing rows count p 0 count (place_of (parts_at count rows) p)
place_start rows count p h =
    let e : take count (parts_at count rows) ≡ parts_at count rows =
    ap (λ (j : ℕ). take j (parts_at count rows)) (sym (parts_length count rows)) ∙ take-length (parts_at count rows) in
    record {
      low = omega arith;
      high = omega arith;
      stands = h;
      ordered = rw e h.ordered;
      whole = rw e (further_zero _);
    }

module _ (rows : List ℕ) (count : ℕ) (p : Part) (lo hi : ℕ) (r : Result ℕ ℕ) (f : Placing rows count p lo hi r) where
  pub place_done : hi ≤ lo → Err lo ≡ r
  unfolding place_of
  place_done h =
      let e : lo ≡ hi = omega (arith, f.low) in
      let s : slice lo hi (parts_at count rows) ≡ [] = ap (λ (k : ℕ). slice k hi (parts_at count rows)) e ∙ slice_empty hi (parts_at count rows) in
      sym (ap (λ (x : List Part). further lo (place_of x p)) s ∙ ap (λ (k : ℕ). Err k) (add-zero lo)) ∙ f.whole

  module _ (h : lo < hi) where
    abbrev mid : ℕ
    mid = lo + (hi - lo) / 2

    left : List Part
    left = slice lo mid (parts_at count rows)

    right : List Part
    right = slice (suc mid) hi (parts_at count rows)

    split : slice lo hi (parts_at count rows) ≡ left ++ part_at (drop (13 * mid) rows) ∷ right
    unfolding left right
    split =
        let d : Part = [] in
        slice_split lo mid hi (parts_at count rows) d (omega arith) (omega arith) (rw (parts_length count rows) f.high)
        ∙ rw (parts_at_law count mid rows d (omega (arith, f.high)))

    rising : Rising order (left ++ part_at (drop (13 * mid) rows) ∷ right)
    rising = rw split at f.ordered

    left_length : lo + length left ≡ mid
    unfolding left
    left_length = let n = length-slice lo mid (parts_at count rows) (rw (parts_length count rows) (omega (arith, f.high))) in omega (arith, n)

    pub place_inside : 13 * (lo + (hi - lo) / 2) + 13 ≤ length rows
    place_inside = omega (arith, f.high, f.stands.small, f.stands.room)

    module _ (o : Answered) (e : told_order o ≡ order p (part_at (drop (13 * (lo + (hi - lo) / 2)) rows))) where
      pub place_found : o ≡ Equal → Ok (lo + (hi - lo) / 2) ≡ r
      place_found g =
          sym (ap (λ (x : List Part). further lo (place_of x p)) split ∙ ap (further lo) (place_same p _ right left (sym e ∙ ap told_order g) rising)
          ∙ ap (λ (k : ℕ). Ok k) left_length) ∙ f.whole

      pub place_lower : o ≡ Less → Placing rows count p lo (lo + (hi - lo) / 2) r
      unfolding left
      place_lower g =
          record {
            low = omega arith;
            high = omega (arith, f.high);
            stands = f.stands;
            ordered = rising_left left _ rising;
            whole =
                sym (ap (λ (x : List Part). further lo (place_of x p)) split ∙ ap (further lo) (place_less p _ right left (sym e ∙ ap told_order g))) ∙ f.whole;
          }

      pub place_upper : o ≡ Greater → Placing rows count p (lo + (hi - lo) / 2 + 1) hi r
      unfolding right
      place_upper g =
          let n : lo + suc (length left) ≡ suc mid = omega (arith, left_length) in
          rw (add-one mid)
          (record {
            low = omega arith;
            high = f.high;
            stands = f.stands;
            ordered = rising_after left _ right rising;
            whole =
                sym (ap (λ (x : List Part). further lo (place_of x p)) split ∙ ap (further lo) (place_more p _ right left (sym e ∙ ap told_order g) rising)
                ∙ further_further lo (suc (length left)) (place_of right p) ∙ ap (λ (k : ℕ). further k (place_of right p)) n) ∙ f.whole;
          })

pub ruleset placing = (place_start, place_done, place_inside, place_found, place_lower, place_upper)

-- ---- the last row, looked at first
pub last_none : (rows : List ℕ) (count : ℕ) (p : Part) → count ≡ 0 → Err 0 ≡ place_of (parts_at count rows) p
unfolding parts_at place_of
last_none rows count p h = sym (ap (λ (k : ℕ). place_of (parts_at k rows) p) h)

module _ (rows : List ℕ) (count : ℕ) (p : Part) (h : 0 < count) (s : Stands rows count) where
  before_last : List Part
  before_last = take (count - 1) (parts_at count rows)

  last_split : parts_at count rows ≡ before_last ++ part_at (drop (13 * (count - 1)) rows) ∷ []
  unfolding before_last
  last_split =
      let d : Part = [] in
      let ps : List Part = parts_at count rows in
      let n : length ps ≡ count = parts_length count rows in
      let e : suc (count - 1) ≡ count = omega arith in
      let w : take count ps ≡ ps = ap (λ (j : ℕ). take j ps) (sym n) ∙ take-length ps in
      let z : slice (suc (count - 1)) count ps ≡ [] = ap (λ (j : ℕ). slice j count ps) e ∙ slice_empty count ps in
      sym w ∙ slice_split 0 (count - 1) count ps d (omega arith) (omega arith) (omega arith) ∙ rw (z, parts_at_law count (count - 1) rows d (omega arith))

  last_rising : Rising order (before_last ++ part_at (drop (13 * (count - 1)) rows) ∷ [])
  last_rising = rw last_split at s.ordered

  last_length : length before_last ≡ count - 1
  unfolding before_last
  last_length = length-take-le (count - 1) (parts_at count rows) (omega (arith, parts_length count rows))

  pub last_inside : 13 * (count - 1) + 13 ≤ length rows
  last_inside = omega (arith, s.small, s.room)

  module _ (o : Answered) (e : told_order o ≡ order p (part_at (drop (13 * (count - 1)) rows))) where
    pub last_same : o ≡ Equal → Ok (count - 1) ≡ place_of (parts_at count rows) p
    last_same g =
        sym (ap (λ (x : List Part). place_of x p) last_split ∙ place_same p _ [] before_last (sym e ∙ ap told_order g) last_rising ∙ ap (λ (j : ℕ). Ok j) last_length)

    pub last_more : o ≡ Greater → Err count ≡ place_of (parts_at count rows) p
    unfolding place_of
    last_more g =
        let n : suc (length before_last) + 0 ≡ count = omega (arith, last_length) in
        sym (ap (λ (x : List Part). place_of x p) last_split ∙ place_more p _ [] before_last (sym e ∙ ap told_order g) last_rising ∙ ap (λ (j : ℕ). Err j) n)

pub ruleset lasting = (last_none, last_inside, last_same, last_more)
