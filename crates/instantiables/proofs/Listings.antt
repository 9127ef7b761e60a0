-- A list that stands in a slice, and what an answer says of it: made, and taken apart.
use Prim.Native.Nat.{ℕ, ◌+◌, ◌-◌, ◌*◌, ◌≤◌}
use mathlib.Core.Path.{◌≡◌, refl, sym, ap, ◌∙◌}
use mathlib.Core.List.{List, [], ◌∷◌, flat_map}
use native.Mathlib.Omega.{arith}
use lib.ListN.{length, take, drop, length-append, length-drop, take-append-drop}
use lib.Seq.{paste, take_at, drop_at, drop-drop, take_all}
use Rattle.refusal.specs.MeaningAnswer.{Answer, done, refused, mapped}
use Rattle.complex_entity.specs.MeaningRising.{Rising, empty}
use Rattle.complex_entity.specs.MeaningParts.{Part, order}
use Rattle.complex_entity.specs.MeaningLists.{held}
use Rattle.complex_entity.specs.MeaningRows.{row_of, flat}
use Rattle.complex_entity.specs.MirrorParts.{names_of, part_of}
use Rattle.complex_entity.specs.declared.PartialComplexEntity.{PartialComplexEntity}
use Rattle.complex_entity.proofs.Limits.{Narrow, Held, is_held, is_over, held_view, held_done}
use Rattle.rows.specs.MirrorRows.{parts_at, Stands, Put}
use Rattle.instantiables.specs.MirrorRows.{PutIf, Listing}
use Rattle.rows.proofs.Flats.{names_of_law, parts_length, parts_narrow, parts_flat, flat_length}

-- what is left of a slice from a place on, as it is lent
pub tail_is : (l : List ℕ) (a : ℕ) → take (length l - a) (drop a l) ≡ drop a l
tail_is l a = take_all (length l - a) (drop a l) (omega (arith, length-drop a l))

-- what is past some rows is as it was, so what is past more is too
pub past_more : (rows rows₀ : List ℕ) (n k : ℕ) → n ≤ k → drop (13 * n) rows ≡ drop (13 * n) rows₀ → drop (13 * k) rows ≡ drop (13 * k) rows₀
past_more rows rows₀ n k h e =
    let a : 13 * k ≡ 13 * n + (13 * k - 13 * n) = omega arith in
    rw (a, ← drop-drop (13 * k - 13 * n) (13 * n) rows, ← drop-drop (13 * k - 13 * n) (13 * n) rows₀) (ap (drop (13 * k - 13 * n)) e)

-- ---- a list that stands
pub stands_empty : (rows : List ℕ) → 1664 ≤ length rows → Stands rows 0
unfolding parts_at flat flat_map
stands_empty rows h = record { small = omega arith; room = h; clean = refl; ordered = empty }

pub stands_put : (rows₀ rows : List ℕ) (n : ℕ) → Stands rows n → drop (13 * n) rows ≡ drop (13 * n) rows₀ → Put (parts_at n rows) rows₀ rows
stands_put rows₀ rows n h e =
    sym (take-append-drop (13 * n) rows) ∙ rw (h.clean, e, parts_length n rows)

-- ---- a list that was put into a slice
module _ (L : List Part) (before after : List ℕ) (n : Narrow L) (w : Put L before after) where
  pub put_parts : parts_at (length L) after ≡ L
  put_parts = rw w (parts_flat L (drop (13 * length L) before) n)

  put_clean : take (13 * length L) after ≡ flat L
  put_clean = rw w (take_at (flat L) (drop (13 * length L) before) (13 * length L) (flat_length L n))

  pub put_past : drop (13 * length L) after ≡ drop (13 * length L) before
  put_past = rw w (drop_at (flat L) (drop (13 * length L) before) (13 * length L) (flat_length L n))

  pub put_long : 13 * length L ≤ length before → length after ≡ length before
  put_long h =
      ap length w ∙ length-append (flat L) (drop (13 * length L) before) ∙ omega (arith, flat_length L n, length-drop (13 * length L) before)

  pub put_stands : length L ≤ 128 → 1664 ≤ length before → Rising order L → Stands after (length L)
  put_stands h k r =
      record {
        small = h;
        room = omega (arith, put_long (omega arith));
        clean = rw put_parts put_clean;
        ordered = rw put_parts r;
      }

-- ---- an answer, taken apart
pub record Got (L : List Part) (before after : List ℕ) (k : ℕ) : Type 0 where
  pub count : length L ≡ k
  pub small : length L ≤ 128
  pub slim : Narrow L
  pub put : Put L before after

module _ (L : List Part) (before after : List ℕ) (r : Answer ℕ) (f : Listing (held L) before after r) where
  pub listing_got : (k : ℕ) → r ≡ done k → Got L before after k
  listing_got k e = go (held_view L) f.says f.stands
    where
      go : {o : Answer (List Part)} → Held L o → r ≡ mapped length o → PutIf o before after → Got L before after k
      go (is_held h n) s p = record { count = (cc); small = h; slim = n; put = p }
      go (is_over h) s p = let z : ◌≡◌ {A = ℕ} 0 1 = cc in absurd (omega arith)

  pub listing_parts : (k : ℕ) → r ≡ done k → parts_at k after ≡ L
  listing_parts k e = let g = listing_got k e in rw (← g.count) (put_parts L before after g.slim g.put)

  pub listing_over : (a b : ℕ) → r ≡ refused a b → (held L ≡ refused 11 0) × (r ≡ refused 11 0)
  listing_over a b e = go (held_view L) f.says
    where
      go : {o : Answer (List Part)} → Held L o → r ≡ mapped length o → (o ≡ refused 11 0) × (r ≡ refused 11 0)
      go (is_held h n) s = let z : ◌≡◌ {A = ℕ} 0 1 = cc in absurd (omega arith)
      go (is_over h) s = (refl, s)

-- ---- n rows stand in front, and past them is what was there
pub record Front (rows₀ rows : List ℕ) (n : ℕ) : Type 0 where
  pub stands : Stands rows n
  pub past : drop (13 * n) rows ≡ drop (13 * n) rows₀
  pub long : length rows ≡ length rows₀

pub front_start : (rows : List ℕ) (n : ℕ) → Stands rows n → Front rows rows n
front_start rows n h = record { stands = h; past = refl; long = refl }

-- a longer list took their place
module _ (rows₀ rows rows' : List ℕ) (n : ℕ) (f : Front rows₀ rows n) (L : List Part) (R : Rising order L) (h : n ≤ length L) (r : Answer ℕ) (g : Listing (held L) rows rows' r) where
  pub front_last : Listing (held L) rows₀ rows' r
  front_last = record { says = g.says; stands = go (held_view L) g.stands }
    where
      go : {x : Answer (List Part)} → Held L x → PutIf x rows rows' → PutIf x rows₀ rows'
      go (is_held k m) p = p ∙ rw (past_more rows rows₀ n (length L) h f.past)
      go (is_over k) p = tt

  module _ (k : ℕ) (e : r ≡ done k) where
    got : Got L rows rows' k
    got = listing_got L rows rows' r g k e

    pub front_parts : parts_at k rows' ≡ L
    front_parts = listing_parts L rows rows' r g k e

    pub front_next : Front rows₀ rows' k
    front_next =
        rw (← got.count)
        (record {
          stands = put_stands L rows rows' got.slim got.put got.small f.stands.room R;
          past = put_past L rows rows' got.slim got.put ∙ past_more rows rows₀ n (length L) h f.past;
          long = put_long L rows rows' got.slim got.put (omega (arith, got.small, f.stands.room)) ∙ f.long;
        })

-- ---- an answer, made
pub listing_refused : (o : Answer (List Part)) (before after : List ℕ) (a b : ℕ) → o ≡ refused a b → Listing o before after (refused a b)
listing_refused o before after a b e = rw e (record { says = refl; stands = tt })

pub listing_done : (o : Answer (List Part)) (L : List Part) (before after : List ℕ) (k : ℕ) → o ≡ done L → length L ≡ k → Put L before after → Listing o before after (done k)
listing_done o L before after k e n p = rw e (record { says = ap (λ (j : ℕ). done j) (sym n); stands = p })

-- what stands there already
pub listing_same : (o : Answer (List Part)) (rows₀ rows : List ℕ) (n : ℕ) → o ≡ held (parts_at n rows) → Stands rows n → drop (13 * n) rows ≡ drop (13 * n) rows₀
    → Listing o rows₀ rows (done n)
listing_same o rows₀ rows n e h p =
    let l : length (parts_at n rows) ≡ n = parts_length n rows in
    listing_done o (parts_at n rows) rows₀ rows n (e ∙ held_done (parts_at n rows) (omega (arith, h.small)) (parts_narrow n rows)) l (stands_put rows₀ rows n h p)

-- ---- the list of one part
pub put_one : (index : ℕ) (x : PartialComplexEntity) (before after : List ℕ) → x ≡ part_of (index ∷ []) → after ≡ paste before 0 (row_of (names_of x)) 13
    → Put ((index ∷ []) ∷ []) before after
unfolding flat flat_map row_of
put_one index x before after e w = w ∙ ap (λ (p : Part). paste before 0 (row_of p) 13) (names_of_law (index ∷ []) x e)
