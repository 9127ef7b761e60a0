-- Two sorted lists made one in place, from the last rows on: the loop of `merge`.
use Prim.Native.Nat as nat
use Prim.Native.Nat.{ℕ, suc, ◌+◌, ◌-◌, ◌*◌, ◌≤◌, ◌<◌}
use mathlib.Core.Path.{◌≡◌, refl, sym, ap, ◌∙◌, subst}
use mathlib.Core.Logic.{◌⊎◌, inl, inr}
use mathlib.Core.List.{List, [], ◌∷◌, ◌++◌, append_assoc, append-nil, flat_map}
use native.Mathlib.Omega.{arith}
use native.Mathlib.Numerals.{add-one}
use lib.ListN.{length, get_or, take, drop, length-append, length-take, take-append-drop}
use lib.Seq.{paste, length-paste, take_at, drop_at, drop-cons, take-take, take-append-le, length-take-le, append_snoc}
use Rattle.std.specs.declared.cmp.Ordering.{Ordering}
use Rattle.std.specs.declared.cmp.Ordering.TheVariants.{Less, Equal, Greater}
use Rattle.complex_entity.specs.MeaningParts.{Part, order}
use Rattle.complex_entity.specs.MeaningLists.{add}
use Rattle.complex_entity.specs.MeaningRows.{row_of, flat}
use Rattle.complex_entity.specs.MirrorParts.{by, part_at}
use Rattle.complex_entity.specs.Told.{told_order}
use Rattle.complex_entity.proofs.Rows.{part_at_few, row_long}
use Rattle.rows.specs.MirrorRows.{parts_at, Stands, Put}
use Rattle.rows.specs.MirrorUnions.{Compared}
use Rattle.rows.proofs.Flats.{parts_length, parts_narrow, parts_at_law, flat_cons, flat_append, flat_take, flat_drop}
use Rattle.rows.proofs.Shifts.{row_slice}
use native.Mathlib.Nat.{pos_of_ne-zero}
use Rattle.rows.proofs.Unions.{Backing, united, back_start, back_left, back_right, back_both, united_all, united_left, united_right, united_wider, united_longer, united_less, united_same, united_more, first_length}

-- ---- a row of a list that stands
module _ (rows : List ℕ) (count : ℕ) (s : Stands rows count) (i : ℕ) (h : i < count) where
  row_stands : take 13 (drop (13 * i) rows) ≡ row_of (part_at (drop (13 * i) rows))
  row_stands =
      let d : Part = [] in
      let P : List Part = parts_at count rows in
      let n : length P ≡ count = parts_length count rows in
      let e : 13 * i + 13 ≤ 13 * count = omega arith in
      let p : Part = part_at (drop (13 * i) rows) in
      let z : drop i P ≡ p ∷ drop (suc i) P = drop-cons P i d (omega arith) ∙ rw (parts_at_law count i rows d h) in
      let a : drop (13 * i) (take (13 * count) rows) ≡ row_of p ++ flat (drop (suc i) P) =
      rw s.clean (flat_drop P i (parts_narrow count rows) (omega arith)) ∙ ap flat z ∙ flat_cons p (drop (suc i) P) in
      sym (row_slice rows (13 * i) (omega (arith, s.room, s.small)))
      ∙ ap (drop (13 * i)) (sym (take-take (13 * i + 13) (13 * count) rows e))
      ∙ row_slice (take (13 * count) rows) (13 * i) (omega (arith, length-take-le (13 * count) rows (omega (arith, s.room, s.small))))
      ∙ ap (take 13) a
      ∙ take_at (row_of p) (flat (drop (suc i) P)) 13 (row_long p (part_at_few (drop (13 * i) rows)))

-- ---- n rows and m are left; `done` are the last parts, and they stand where they belong, from the row with number `to` on
pub record Merged (rows₀ others rows : List ℕ) (count other total n m to : ℕ) : Type 0 where
  pub back : Backing rows₀ others count other n m
  pub done : List Part
  pub size : length (united rows₀ others count other n m) ≡ to
  pub whole : united rows₀ others count other n m ++ done ≡ add (parts_at count rows₀) (parts_at other others)
  pub all : length (add (parts_at count rows₀) (parts_at other others)) ≡ total
  pub high : to ≤ total
  pub small : total ≤ 128
  pub front : take (13 * n) rows ≡ take (13 * n) rows₀
  pub past : drop (13 * to) rows ≡ flat done ++ drop (13 * total) rows₀
  pub long : length rows ≡ length rows₀

merged_start : (rows others : List ℕ) (count other total : ℕ) → Stands rows count → Stands others other
    → total ≡ length (add (parts_at count rows) (parts_at other others)) → total ≤ 128 → Merged rows others rows count other total count other total
unfolding flat flat_map
merged_start rows others count other total s t e h =
    record {
      back = back_start rows others count other s t;
      done = [];
      size = ap length (united_all rows others count other) ∙ sym e;
      whole = append-nil (united rows others count other count other) ∙ united_all rows others count other;
      all = sym e;
      high = omega arith;
      small = h;
      front = refl;
      past = refl;
      long = refl;
    }

module _ (rows₀ others rows : List ℕ) (count other total n m to : ℕ) (f : Merged rows₀ others rows count other total n m to) where
  -- L's first rows stand at the front of `before`, and are all that is still to come
  merged_by : (L : List Part) (before after : List ℕ) (j : ℕ) → united rows₀ others count other n m ≡ L → length L ≡ j → j ≡ to → take (13 * j) before ≡ flat L
      → after ≡ take (13 * j) before ++ drop (13 * j) rows → Put (add (parts_at count rows₀) (parts_at other others)) rows₀ after
  merged_by L before after j u n e a w =
      let w' : flat (add (parts_at count rows₀) (parts_at other others)) ≡ flat L ++ flat f.done =
      ap flat (sym f.whole ∙ ap (λ (t : List Part). t ++ f.done) u) ∙ flat_append L f.done in
      let b : drop (13 * j) rows ≡ flat f.done ++ drop (13 * total) rows₀ = ap (λ (j : ℕ). drop (13 * j) rows) e ∙ f.past in
      w ∙ rw (a, b, w', f.all) (sym (append_assoc (flat L) (flat f.done) (drop (13 * total) rows₀)))

  -- no row is left of the other list, or of this one
  merged_done : m ≤ 0 → Put (add (parts_at count rows₀) (parts_at other others)) rows₀ rows
  merged_done h =
      let P : List Part = parts_at count rows₀ in
      let s : Stands rows₀ count = f.back.left in
      let u : united rows₀ others count other n m ≡ take n P = united_left rows₀ others count other n m f.back h in
      let l : length (take n P) ≡ n = first_length rows₀ count s n f.back.few_left in
      merged_by (take n P) rows rows n u l (sym l ∙ ap length (sym u) ∙ f.size)
      (f.front ∙ sym (take-take (13 * n) (13 * count) rows₀ (omega (arith, f.back.few_left)))
      ∙ rw s.clean (flat_take P n (parts_narrow count rows₀) (omega (arith, f.back.few_left, parts_length count rows₀))))
      (sym (take-append-drop (13 * n) rows))

  merged_rest : n ≤ 0 → (after : List ℕ) → after ≡ take (13 * m) others ++ drop (13 * m) rows → Put (add (parts_at count rows₀) (parts_at other others)) rows₀ after
  merged_rest h after w =
      let Q : List Part = parts_at other others in
      let s : Stands others other = f.back.right in
      let u : united rows₀ others count other n m ≡ take m Q = united_right rows₀ others count other n m f.back h in
      let l : length (take m Q) ≡ m = first_length others other s m f.back.few_right in
      merged_by (take m Q) others after m u l (sym l ∙ ap length (sym u) ∙ f.size)
      (sym (take-take (13 * m) (13 * other) others (omega (arith, f.back.few_right)))
      ∙ rw s.clean (flat_take Q m (parts_narrow other others) (omega (arith, f.back.few_right, parts_length other others))))
      w

  -- there is a part more, and so a place for it
  module _ (k : 0 < m) where
    merged_to : 1 ≤ to
    merged_to = omega (arith, united_wider rows₀ others count other n m f.back, f.size)

    merged_in_to : 13 * (to - 1) + 13 ≤ length rows
    merged_in_to = omega (arith, merged_to, f.high, f.small, f.long, f.back.left.room)

    merged_in_right : 13 * (m - 1) + 13 ≤ length others
    merged_in_right = omega (arith, f.back.few_right, f.back.right.small, f.back.right.room)

    -- p's row goes to the last place that is free
    one_more : (n' m' : ℕ) (p : Part) (S rows' : List ℕ) → Backing rows₀ others count other n' m' → n' ≤ n
        → united rows₀ others count other n m ≡ united rows₀ others count other n' m' ++ p ∷ [] → take 13 S ≡ row_of p → length p ≤ 12
        → rows' ≡ paste rows (13 * (to - 1)) S 13 → Merged rows₀ others rows' count other total n' m' (to - 1)
    one_more n' m' p S rows' b le u r few w =
        let J : List Part = united rows₀ others count other n' m' in
        let l : length (united rows₀ others count other n m) ≡ length J + 1 = ap length u ∙ length-append J (p ∷ []) in
        let g : n' ≤ length J = united_longer rows₀ others count other n' m' b in
        let t : length (take (13 * (to - 1)) rows) ≡ 13 * (to - 1) = length-take-le (13 * (to - 1)) rows (omega (arith, merged_in_to)) in
        let e : 13 * (to - 1) + 13 ≡ 13 * to = omega (arith, merged_to) in
        let v : rows' ≡ take (13 * (to - 1)) rows ++ (row_of p ++ drop (13 * to) rows) =
        w ∙ rw (r, e) (append_assoc (take (13 * (to - 1)) rows) (row_of p) (drop (13 * to) rows)) in
        record {
          back = b;
          done = p ∷ f.done;
          size = omega (arith, l, f.size);
          whole = sym (append_snoc J p f.done) ∙ ap (λ (x : List Part). x ++ f.done) (sym u) ∙ f.whole;
          all = f.all;
          high = omega (arith, f.high);
          small = f.small;
          front =
              ap (take (13 * n')) v
              ∙ take-append-le (13 * n') (take (13 * (to - 1)) rows) (row_of p ++ drop (13 * to) rows) (omega (arith, f.size))
              ∙ take-take (13 * n') (13 * (to - 1)) rows (omega (arith, f.size))
              ∙ sym (take-take (13 * n') (13 * n) rows (omega arith))
              ∙ ap (take (13 * n')) f.front
              ∙ take-take (13 * n') (13 * n) rows₀ (omega arith);
          past =
              ap (drop (13 * (to - 1))) v ∙ drop_at (take (13 * (to - 1)) rows) (row_of p ++ drop (13 * to) rows) (13 * (to - 1)) t
              ∙ rw (f.past, flat_cons p f.done) (sym (append_assoc (row_of p) (flat f.done) (drop (13 * total) rows₀)));
          long = ap length w ∙ length-paste rows (13 * (to - 1)) S 13 merged_in_to (omega (arith, ap length r, row_long p few, length-take 13 S)) ∙ f.long;
        }

    q : Part
    q = part_at (drop (13 * (m - 1)) others)

    q_row : take 13 (drop (13 * (m - 1)) others) ≡ row_of q
    unfolding q
    q_row = row_stands others other f.back.right (m - 1) (omega (arith, f.back.few_right))

    q_more : (rows' : List ℕ) → united rows₀ others count other n m ≡ united rows₀ others count other n (m - 1) ++ part_at (drop (13 * (m - 1)) others) ∷ []
        → rows' ≡ paste rows (13 * (to - 1)) (drop (13 * (m - 1)) others) 13 → Merged rows₀ others rows' count other total n (m - 1) (to - 1)
    unfolding q
    q_more rows' u w =
        one_more n (m - 1) q (drop (13 * (m - 1)) others) rows' (back_right rows₀ others count other n m f.back k) (omega arith) u q_row
        (part_at_few (drop (13 * (m - 1)) others)) w

    module _ (h : 0 < n) where
      merged_in_left : 13 * (n - 1) + 13 ≤ length rows
      merged_in_left = omega (arith, f.back.few_left, f.back.left.small, f.back.left.room, f.long)

      p : Part
      p = part_at (drop (13 * (n - 1)) rows₀)

      p_row : take 13 (drop (13 * (n - 1)) rows) ≡ row_of p
      unfolding p
      p_row =
          let e : 13 * (n - 1) + 13 ≡ 13 * n = omega arith in
          sym (row_slice rows (13 * (n - 1)) merged_in_left)
          ∙ ap (drop (13 * (n - 1))) (ap (λ (j : ℕ). take j rows) e ∙ f.front ∙ ap (λ (j : ℕ). take j rows₀) (sym e))
          ∙ row_slice rows₀ (13 * (n - 1)) (omega (arith, merged_in_left, f.long))
          ∙ row_stands rows₀ count f.back.left (n - 1) (omega (arith, f.back.few_left))

      merged_less : (rows' : List ℕ) → order (part_at (drop (13 * (n - 1)) rows₀)) (part_at (drop (13 * (m - 1)) others)) ≡ nat.Ordering.lt
          → rows' ≡ paste rows (13 * (to - 1)) (drop (13 * (m - 1)) others) 13 → Merged rows₀ others rows' count other total n (m - 1) (to - 1)
      merged_less rows' g w = q_more rows' (united_less rows₀ others count other n m f.back k h g) w

      merged_same : (rows' : List ℕ) → order (part_at (drop (13 * (n - 1)) rows₀)) (part_at (drop (13 * (m - 1)) others)) ≡ nat.Ordering.eq
          → rows' ≡ paste rows (13 * (to - 1)) (drop (13 * (n - 1)) rows) 13 → Merged rows₀ others rows' count other total (n - 1) (m - 1) (to - 1)
      unfolding p
      merged_same rows' g w =
          one_more (n - 1) (m - 1) p (drop (13 * (n - 1)) rows) rows' (back_both rows₀ others count other n m f.back k h) (omega arith)
          (united_same rows₀ others count other n m f.back k h g) p_row (part_at_few (drop (13 * (n - 1)) rows₀)) w

      merged_more : (rows' : List ℕ) → order (part_at (drop (13 * (n - 1)) rows₀)) (part_at (drop (13 * (m - 1)) others)) ≡ nat.Ordering.gt
          → rows' ≡ paste rows (13 * (to - 1)) (drop (13 * (n - 1)) rows) 13 → Merged rows₀ others rows' count other total (n - 1) m (to - 1)
      unfolding p
      merged_more rows' g w =
          one_more (n - 1) m p (drop (13 * (n - 1)) rows) rows' (back_left rows₀ others count other n m f.back k h) (omega arith)
          (united_more rows₀ others count other n m f.back k h g) p_row (part_at_few (drop (13 * (n - 1)) rows₀)) w

-- ---- the loop of `merge`: k steps are taken
pub record Merging (rows₀ others : List ℕ) (steps : List Ordering) (rows : List ℕ) (count other total n m to k : ℕ) : Type 0 where
  pub few : k + n + m ≤ 256
  pub size : length steps ≡ 256
  pub merged : Merged rows₀ others rows count other total n m to
  pub told : Compared rows₀ others n m (drop k steps)

pub merge_start : (rows others : List ℕ) (steps : List Ordering) (count other total : ℕ) → Stands rows count → Stands others other → length steps ≡ 256
    → total ≡ length (add (parts_at count rows) (parts_at other others)) → total ≤ 128 → Compared rows others count other steps
    → Merging rows others steps rows count other total count other total 0
merge_start rows others steps count other total s t l e h c =
    record {
      few = omega (arith, s.small, t.small);
      size = l;
      merged = merged_start rows others count other total s t e h;
      told = c;
    }

module _ (rows₀ others : List ℕ) (steps : List Ordering) (rows : List ℕ) (count other total n m to k : ℕ) (f : Merging rows₀ others steps rows count other total n m to k) where
  pub merge_long : length rows ≡ length rows₀
  merge_long = f.merged.long

  pub merge_rest_in : 13 * m ≤ length others
  merge_rest_in = omega (arith, f.merged.back.few_right, f.merged.back.right.small, f.merged.back.right.room)

  pub merge_rest_fits : 13 * m ≤ length rows
  merge_rest_fits = omega (arith, f.merged.back.few_right, f.merged.back.right.small, f.merged.back.left.room, f.merged.long)

  module _ (after : List ℕ) (w : after ≡ take (13 * m) others ++ drop (13 * m) rows) where
    merge_rest : n ≤ 0 → Put (add (parts_at count rows₀) (parts_at other others)) rows₀ after
    merge_rest h = merged_rest rows₀ others rows count other total n m to f.merged h after w

    pub merge_end : length steps ≤ k → Put (add (parts_at count rows₀) (parts_at other others)) rows₀ after
    merge_end h = merge_rest (omega (arith, f.few, f.size))

    pub merge_either : (n ≡ 0) ⊎ ((n ≡ 0 → ⊥) × (m ≡ 0)) → Put (add (parts_at count rows₀) (parts_at other others)) rows₀ after
    merge_either h = elim h [
      | inl i ↦ merge_rest (omega arith)
      | inr i ↦
          let e : after ≡ rows = w ∙ ap (λ (j : ℕ). take (13 * j) others ++ drop (13 * j) rows) i.1 in
          subst (Put (add (parts_at count rows₀) (parts_at other others)) rows₀) (sym e) (merged_done rows₀ others rows count other total n m to f.merged (omega (arith, i.1)))
    ]

  module _ (a : n ≡ 0 → ⊥) (b : m ≡ 0 → ⊥) where
    some_left : 0 < n
    some_left = pos_of_ne-zero a

    some_right : 0 < m
    some_right = pos_of_ne-zero b

    pub merge_sub_to : 1 ≤ to
    merge_sub_to = merged_to rows₀ others rows count other total n m to f.merged some_right

    pub merge_in_to : 13 * (to - 1) + 13 ≤ length rows
    merge_in_to = merged_in_to rows₀ others rows count other total n m to f.merged some_right

    pub merge_in_right : 13 * (m - 1) + 13 ≤ length others
    merge_in_right = merged_in_right rows₀ others rows count other total n m to f.merged some_right

    pub merge_in_left : 13 * (n - 1) + 13 ≤ length rows
    merge_in_left = merged_in_left rows₀ others rows count other total n m to f.merged some_right some_left

    module _ (h : k < length steps) (d : Ordering) (rows' put : List ℕ) (n' m' : ℕ) (z : rows' ≡ put) where
      -- what the next step says, and the steps after it
      next_told : (told_order (get_or steps k d) ≡ order (part_at (drop (13 * (n - 1)) rows₀)) (part_at (drop (13 * (m - 1)) others)))
          × Compared rows₀ others (by (told_order (get_or steps k d)) n (n - 1) (n - 1)) (by (told_order (get_or steps k d)) (m - 1) (m - 1) m) (drop (k + 1) steps)
      unfolding Compared
      next_told =
          let c : drop k steps ≡ get_or steps k d ∷ drop (k + 1) steps = drop-cons steps k d h ∙ rw add-one in
          (rw c at f.told) some_left some_right

      pub merge_less : get_or steps k d ≡ Less → put ≡ paste rows (13 * (to - 1)) (drop (13 * (m - 1)) others) 13 → n' ≡ n → m' ≡ m - 1
          → Merging rows₀ others steps rows' count other total n' m' (to - 1) (k + 1)
      merge_less s w x y =
          let c = rw s at next_told in
          rw (x, y) (record {
            few = omega (arith, some_right, f.few);
            size = f.size;
            merged = merged_less rows₀ others rows count other total n m to f.merged some_right some_left rows' (sym c.0) (z ∙ w);
            told = c.1;
          })

      pub merge_same : get_or steps k d ≡ Equal → put ≡ paste rows (13 * (to - 1)) (drop (13 * (n - 1)) rows) 13 → n' ≡ n - 1 → m' ≡ m - 1
          → Merging rows₀ others steps rows' count other total n' m' (to - 1) (k + 1)
      merge_same s w x y =
          let c = rw s at next_told in
          rw (x, y) (record {
            few = omega (arith, some_left, some_right, f.few);
            size = f.size;
            merged = merged_same rows₀ others rows count other total n m to f.merged some_right some_left rows' (sym c.0) (z ∙ w);
            told = c.1;
          })

      pub merge_more : get_or steps k d ≡ Greater → put ≡ paste rows (13 * (to - 1)) (drop (13 * (n - 1)) rows) 13 → n' ≡ n - 1 → m' ≡ m
          → Merging rows₀ others steps rows' count other total n' m' (to - 1) (k + 1)
      merge_more s w x y =
          let c = rw s at next_told in
          rw (x, y) (record {
            few = omega (arith, some_left, f.few);
            size = f.size;
            merged = merged_more rows₀ others rows count other total n m to f.merged some_right some_left rows' (sym c.0) (z ∙ w);
            told = c.1;
          })

pub ruleset merging = (merge_start, merge_long, merge_rest_in, merge_rest_fits, merge_end, merge_either, merge_sub_to, merge_in_to, merge_in_right, merge_in_left, merge_less, merge_same, merge_more)
