-- How many parts two sorted lists have together: the loop of `together`.
use Prim.Native.Nat.{ℕ, ◌+◌, ◌-◌, ◌*◌, ◌≤◌, ◌<◌}
use mathlib.Core.Path.{◌≡◌, sym, ap, ◌∙◌, refl}
use mathlib.Core.Logic.{◌⊎◌, inl, inr}
use mathlib.Core.List.{List, [], ◌∷◌, ◌++◌}
use native.Mathlib.Omega.{arith}
use native.Mathlib.Nat.{pos_of_ne-zero}
use native.Mathlib.Numerals.{add-one}
use lib.ListN.{length, get_or, take, drop, set, length-set, length-append, take-append-drop}
use lib.Seq.{take-suc-set, append_snoc}
use Rattle.std.proofs.lemmas.List.{set-get_or}
use Rattle.std.specs.declared.cmp.Ordering.{Ordering}
use Rattle.std.specs.declared.cmp.Ordering.TheVariants.{Less, Equal, Greater}
use Rattle.complex_entity.specs.MeaningParts.{Part, order}
use Rattle.complex_entity.specs.MeaningLists.{add}
use Rattle.complex_entity.specs.MirrorParts.{by, part_at}
use Rattle.complex_entity.specs.Told.{told_order}
use Rattle.rows.specs.MirrorRows.{parts_at, Stands}
use Rattle.rows.specs.MirrorUnions.{Compared}
use Rattle.rows.proofs.Unions.{Backing, united, back_start, back_left, back_right, back_both, united_all, united_left, united_right, united_less, united_same, united_more, first_length}

-- ---- the loop of `together`: n rows and m are left, k steps are told, and r is the count in the end
pub record Counting (rows others : List ℕ) (steps : List Ordering) (count other n m total k r : ℕ) : Type 0 where
  pub back : Backing rows others count other n m
  pub few : k + n + m ≤ 256
  pub enough : n + m ≤ total
  pub long : length steps ≡ 256
  pub whole : total + length (united rows others count other n m) ≡ r + (n + m)
  pub trail : (t : List Ordering) → Compared rows others n m t → Compared rows others count other (take k steps ++ t)

pub count_start : (rows others : List ℕ) (steps : List Ordering) (count other : ℕ) → Stands rows count → Stands others other → length steps ≡ 256
    → Counting rows others steps count other count other (count + other) 0 (length (add (parts_at count rows) (parts_at other others)))
count_start rows others steps count other s t l =
    record {
      back = back_start rows others count other s t;
      few = omega (arith, s.small, t.small);
      enough = omega arith;
      long = l;
      whole = let e = ap length (united_all rows others count other) in omega (arith, e);
      trail = λ t c. c;
    }

module _ (rows others : List ℕ) (steps : List Ordering) (count other n m total k r : ℕ) (f : Counting rows others steps count other n m total k r) where
  pub count_long : length steps ≡ 256
  count_long = f.long

  -- no row is left of one list: each row was counted, and the steps are all told
  count_none : (n ≤ 0) ⊎ (m ≤ 0) → total ≡ r
  count_none h = elim h [
    | inl i ↦ let e = ap length (united_right rows others count other n m f.back i) in omega (arith, e, first_length others other f.back.right m f.back.few_right, f.whole)
    | inr j ↦ let e = ap length (united_left rows others count other n m f.back j) in omega (arith, e, first_length rows count f.back.left n f.back.few_left, f.whole)
  ]

  told_none : (n ≤ 0) ⊎ (m ≤ 0) → Compared rows others count other steps
  unfolding Compared
  told_none h = rw (take-append-drop k steps) at (f.trail (drop k steps) (short (drop k steps)))
    where
      short : (t : List Ordering) → Compared rows others n m t
      short [] = tt
      short (s ∷ t) = λ a b. elim h [ inl i ↦ absurd (omega arith) | inr j ↦ absurd (omega arith) ]

  -- a list is used up
  one_used : (n ≡ 0) ⊎ ((n ≡ 0 → ⊥) × (m ≡ 0)) → (n ≤ 0) ⊎ (m ≤ 0)
  one_used h = elim h [ inl i ↦ inl (omega arith) | inr j ↦ inr (omega arith) ]

  pub count_either : (n ≡ 0) ⊎ ((n ≡ 0 → ⊥) × (m ≡ 0)) → total ≡ r
  count_either h = count_none (one_used h)

  pub count_end : length steps ≤ k → total ≡ r
  count_end h = count_none (inl (omega (arith, f.few, f.long)))

  -- a step that is read is put back
  pub told_either : (steps' : List Ordering) (d : Ordering) → (n ≡ 0) ⊎ ((n ≡ 0 → ⊥) × (m ≡ 0)) → steps' ≡ set steps k (get_or steps k d) → Compared rows others count other steps'
  told_either steps' d h e = rw (e, set-get_or steps k d) (told_none (one_used h))

  pub told_end : length steps ≤ k → Compared rows others count other steps
  told_end h = told_none (inl (omega (arith, f.few, f.long)))

  module _ (a : n ≡ 0 → ⊥) (b : m ≡ 0 → ⊥) where
    some_left : 0 < n
    some_left = pos_of_ne-zero a

    some_right : 0 < m
    some_right = pos_of_ne-zero b

    pub count_sub : 1 ≤ total
    count_sub = omega (arith, some_left, f.enough)

    pub count_in_left : 13 * (n - 1) + 13 ≤ length rows
    count_in_left = omega (arith, some_left, f.back.few_left, f.back.left.small, f.back.left.room)

    pub count_in_right : 13 * (m - 1) + 13 ≤ length others
    count_in_right = omega (arith, some_right, f.back.few_right, f.back.right.small, f.back.right.room)

    turn : (J : List Part) (p : Part) → united rows others count other n m ≡ J ++ p ∷ [] → length (united rows others count other n m) ≡ length J + 1
    turn J p e = ap length e ∙ length-append J (p ∷ [])

    module _ (o : Ordering) (h : k < length steps) (p : Part) (x : p ≡ part_at (drop (13 * (n - 1)) rows)) (y : told_order o ≡ order p (part_at (drop (13 * (m - 1)) others))) where
      is : told_order o ≡ order (part_at (drop (13 * (n - 1)) rows)) (part_at (drop (13 * (m - 1)) others))
      is = rw x at y

      -- a step more is told
      further : (n' m' : ℕ) → by (told_order o) n (n - 1) (n - 1) ≡ n' → by (told_order o) (m - 1) (m - 1) m ≡ m'
          → (t : List Ordering) → Compared rows others n' m' t → Compared rows others count other (take (k + 1) (set steps k o) ++ t)
      unfolding Compared
      further n' m' a b t c =
          let x : take (k + 1) (set steps k o) ≡ take k steps ++ o ∷ [] = rw add-one (take-suc-set steps k o h) in
          let y : Compared rows others n m (o ∷ t) = λ _ _. (is, rw (a, b) c) in
          rw (x, append_snoc) (f.trail (o ∷ t) y)

      pub count_less : (n' m' total' : ℕ) → o ≡ Less → n' ≡ n → m' ≡ m - 1 → total' ≡ total → Counting rows others (set steps k o) count other n' m' total' (k + 1) r
      count_less n' m' total' g a b c =
          let q = turn (united rows others count other n (m - 1)) (part_at (drop (13 * (m - 1)) others)) (united_less rows others count other n m f.back some_right some_left (sym is ∙ ap told_order g)) in
          rw (a, b, c) (record {
            back = back_right rows others count other n m f.back some_right;
            few = omega (arith, some_right, f.few);
            enough = omega (arith, f.enough);
            long = length-set steps k o ∙ f.long;
            whole = omega (arith, q, some_right, f.whole);
            trail = further n (m - 1) (rw g refl) (rw g refl);
          })

      pub count_same : (n' m' total' : ℕ) → o ≡ Equal → n' ≡ n - 1 → m' ≡ m - 1 → total' ≡ total - 1 → Counting rows others (set steps k o) count other n' m' total' (k + 1) r
      count_same n' m' total' g a b c =
          let q = turn (united rows others count other (n - 1) (m - 1)) (part_at (drop (13 * (n - 1)) rows)) (united_same rows others count other n m f.back some_right some_left (sym is ∙ ap told_order g)) in
          rw (a, b, c) (record {
            back = back_both rows others count other n m f.back some_right some_left;
            few = omega (arith, some_left, some_right, f.few);
            enough = omega (arith, some_left, some_right, f.enough);
            long = length-set steps k o ∙ f.long;
            whole = omega (arith, q, some_left, some_right, f.enough, f.whole);
            trail = further (n - 1) (m - 1) (rw g refl) (rw g refl);
          })

      pub count_more : (n' m' total' : ℕ) → o ≡ Greater → n' ≡ n - 1 → m' ≡ m → total' ≡ total → Counting rows others (set steps k o) count other n' m' total' (k + 1) r
      count_more n' m' total' g a b c =
          let q = turn (united rows others count other (n - 1) m) (part_at (drop (13 * (n - 1)) rows)) (united_more rows others count other n m f.back some_right some_left (sym is ∙ ap told_order g)) in
          rw (a, b, c) (record {
            back = back_left rows others count other n m f.back some_right some_left;
            few = omega (arith, some_left, f.few);
            enough = omega (arith, f.enough);
            long = length-set steps k o ∙ f.long;
            whole = omega (arith, q, some_left, f.whole);
            trail = further (n - 1) m (rw g refl) (rw g refl);
          })

pub ruleset counting = (count_start, count_long, count_either, count_end, told_either, told_end, count_sub, count_in_left, count_in_right, count_less, count_same, count_more)
