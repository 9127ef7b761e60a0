-- A walk that keeps the rows that meet a test, in place: they are written at or below where they are read.
use Prim.Native.Nat.{ℕ, ◌+◌, ◌-◌, ◌*◌, ◌≤◌, ◌<◌}
use mathlib.Core.Path.{◌≡◌, refl, sym, ap, ◌∙◌}
use mathlib.Core.Logic.{inl, inr}
use mathlib.Core.List.{List, [], ◌∷◌, ◌++◌, append-nil, flat_map}
use mathlib.Core.Bool.{Bool, true, false}
use native.Mathlib.Omega.{arith}
use lib.ListN.{length, take, drop, length-append}
use lib.Seq.{paste, length-paste, take_at, drop_at, drop-drop, take_all, append_snoc}
use Rattle.refusal.specs.MeaningAnswer.{done}
use Rattle.complex_entity.specs.MeaningRising.{here, there}
use Rattle.complex_entity.specs.MeaningParts.{Part}
use Rattle.complex_entity.specs.MeaningLists.{keep, keep_if}
use Rattle.complex_entity.specs.MeaningRows.{row_of, flat}
use Rattle.complex_entity.specs.MirrorParts.{names_of, part_of, part_at}
use Rattle.complex_entity.specs.declared.PartialComplexEntity.{PartialComplexEntity}
use Rattle.complex_entity.proofs.Sets.{not_in_nil}
use Rattle.complex_entity.proofs.Members.{∈_append_cases}
use Rattle.complex_entity.proofs.Limits.{Narrow}
use Rattle.complex_entity.proofs.Rows.{part_at_few, row_long}
use Rattle.rows.specs.MirrorRows.{parts_at, Put}
use Rattle.instantiables.specs.MirrorRows.{Listing}
use Rattle.rows.proofs.Flats.{names_of_law, none_left, flat_append, flat_length}
use Rattle.instantiables.proofs.Listings.{put_past, listing_done}
use Rattle.instantiables.proofs.Feeds.{ahead_at, none_yet}
use Rattle.keeping.specs.MirrorKeeping.{Tells}

-- of the first i rows n are kept and stand in front; what is left is as it was; l is all that is kept in the end
pub record Keeping (f : Part → Bool) (rows₀ rows : List ℕ) (n i count : ℕ) (l : List Part) : Type 0 where
  pub kept : List Part
  pub inside : 13 * count ≤ length rows₀
  pub behind : n ≤ i
  pub long : length rows ≡ length rows₀
  pub number : length kept ≡ n
  pub slim : Narrow kept
  pub put : Put kept rows₀ rows
  pub whole : kept ++ keep f (parts_at (count - i) (drop (13 * i) rows₀)) ≡ l

pub keep_start : (f : Part → Bool) (rows : List ℕ) (m : ℕ) → 13 * m ≤ length rows → Keeping f rows rows 0 0 m (keep f (parts_at m rows))
unfolding flat flat_map
keep_start f rows m h =
    record {
      kept = [];
      inside = h;
      behind = omega arith;
      long = refl;
      number = refl;
      slim = λ q m. absurd (not_in_nil m);
      put = refl;
      whole = ap (keep f) (none_yet rows m);
    }

-- one row more is written after those that were put
put_snoc : (K : List Part) (q : Part) (before after : List ℕ) (to : ℕ) → Narrow K → length q ≤ 12 → Put K before after → to ≡ 13 * length K
    → Put (K ++ (q ∷ [])) before (paste after to (row_of q) 13)
unfolding flat flat_map
put_snoc K q before after to n h w e =
    let l : length (flat K) ≡ to = flat_length K n ∙ sym e in
    let a : take to after ≡ flat K = rw w (take_at (flat K) (drop (13 * length K) before) to l) in
    let b : drop to after ≡ drop to before = rw w (drop_at (flat K) (drop (13 * length K) before) to l ∙ rw e) in
    let m : 13 * length (K ++ (q ∷ [])) ≡ to + 13 = rw (length-append K (q ∷ [])) (omega arith) in
    let d : drop (to + 13) after ≡ drop (to + 13) before = sym (drop-drop 13 to after) ∙ ap (drop 13) b ∙ drop-drop 13 to before in
    let r : flat (K ++ (q ∷ [])) ≡ flat K ++ row_of q = flat_append K (q ∷ []) ∙ rw (append-nil (row_of q)) in
    rw (a, d, take_all 13 (row_of q) (omega (arith, row_long q h)), m, r)

module _ (f : Part → Bool) (rows₀ rows : List ℕ) (n i count : ℕ) (l : List Part) (k : Keeping f rows₀ rows n i count l) where
  pub keep_done : count ≤ i → Listing (done l) rows₀ rows (done n)
  keep_done h =
      let e : k.kept ≡ l = sym (ap (λ (t : List Part). k.kept ++ keep f t) (none_left (drop (13 * i) rows₀) (count - i) (omega arith)) ∙ append-nil k.kept) ∙ k.whole in
      listing_done (done l) k.kept rows₀ rows n (ap (λ (t : List Part). done t) (sym e)) k.number k.put

  module _ (h : i < count) where
    -- what is still to be read is as it was
    same_at : drop (13 * i) rows ≡ drop (13 * i) rows₀
    same_at =
        let a : 13 * i ≡ 13 * length k.kept + (13 * i - 13 * length k.kept) = omega (arith, k.behind, k.number) in
        let d : ℕ = 13 * i - 13 * length k.kept in
        rw (a, ← drop-drop d (13 * length k.kept) rows, ← drop-drop d (13 * length k.kept) rows₀) (ap (drop d) (put_past k.kept rows₀ rows k.slim k.put))

    module _ (R : PartialComplexEntity → Bool → Type 0) (t : Tells R f) (x : PartialComplexEntity) (w : x ≡ part_of (part_at (drop (13 * i) rows))) (b : Bool) (s : R x b) where
      is : names_of x ≡ part_at (drop (13 * i) rows₀)
      is = names_of_law (part_at (drop (13 * i) rows)) x w ∙ ap part_at same_at

      turn : k.kept ++ keep_if b (names_of x) (keep f (parts_at (count - (i + 1)) (drop (13 * (i + 1)) rows₀))) ≡ l
      turn = rw (t x b s, is) (sym (ap (λ (t : List Part). k.kept ++ keep f t) (ahead_at rows₀ i count h)) ∙ k.whole)

      pub keep_not : b ≡ false → Keeping f rows₀ rows n (i + 1) count l
      keep_not e =
          record {
            kept = k.kept;
            inside = k.inside;
            behind = omega (arith, k.behind);
            long = k.long;
            number = k.number;
            slim = k.slim;
            put = k.put;
            whole = rw e at turn;
          }

      pub keep_one : (rows' : List ℕ) → b ≡ true → rows' ≡ paste rows (13 * n) (row_of (names_of x)) 13
          → Keeping f rows₀ rows' (n + 1) (i + 1) count l
      keep_one rows' e v =
          let few : length (names_of x) ≤ 12 = rw is (part_at_few (drop (13 * i) rows₀)) in
          record {
            kept = k.kept ++ (names_of x ∷ []);
            inside = k.inside;
            behind = omega (arith, k.behind);
            long = ap length v ∙ length-paste rows (13 * n) (row_of (names_of x)) 13 (omega (arith, k.inside, k.long, k.behind)) (omega (arith, row_long (names_of x) few)) ∙ k.long;
            number = length-append k.kept (names_of x ∷ []) ∙ omega (arith, k.number);
            slim = λ q j. elim (∈_append_cases k.kept (names_of x ∷ []) j) [ inl i ↦ k.slim q i | inr i ↦ elim i [ here d ↦ rw d few | there z ↦ absurd (not_in_nil z) ] ];
            put = v ∙ put_snoc k.kept (names_of x) rows₀ rows (13 * n) k.slim few k.put (ap (λ (j : ℕ). 13 * j) (sym k.number));
            whole = append_snoc k.kept (names_of x) _ ∙ (rw e at turn);
          }
