-- One part more: what its place says of the list with the part in it, and the rows after a row was opened there.
use Prim.Native.Nat.{ℕ, suc, ◌+◌, ◌-◌, ◌*◌, ◌≤◌, ◌<◌, Ordering}
use mathlib.Core.Path.{◌≡◌, refl, sym, ap, ◌∙◌, subst}
use mathlib.Core.List.{List, [], ◌∷◌, ◌++◌, append_assoc}
use mathlib.Core.Logic.{inl, inr}
use native.Mathlib.Omega.{arith}
use lib.ListN.{length, take, drop, length-append, length-drop}
use lib.Seq.{paste, take-add, drop_at, take_all, take-take, take-append-le, length-take-le}
use mir.Syntax.{w64}
use mir.Val.{Fits}
use borrow.Author.Rules.{Fits-under}
use Rattle.std.specs.Prelude.{Result, Ok, Err}
use Rattle.refusal.specs.MeaningAnswer.{done}
use Rattle.refusal.specs.declared.Reason.TheVariants.{TooManySets}
use Rattle.refusal.specs.declared.Refusal.{Refusal}
use Rattle.refusal.specs.Told.{told_refusal}
use Rattle.complex_entity.specs.MeaningSets.{sort_in, put}
use Rattle.complex_entity.specs.MeaningRising.{here, there}
use Rattle.complex_entity.specs.MeaningParts.{Part, order}
use Rattle.complex_entity.specs.MeaningLists.{add, held}
use Rattle.complex_entity.specs.MeaningRows.{row_of, flat}
use Rattle.complex_entity.specs.MirrorParts.{names_of, by}
use Rattle.complex_entity.specs.declared.PartialComplexEntity.{PartialComplexEntity}
use Rattle.complex_entity.proofs.Members.{add_one_part, add_old}
use Rattle.complex_entity.proofs.Sets.{not_in_nil}
use Rattle.complex_entity.proofs.Limits.{Narrow, held_done, held_many}
use Rattle.complex_entity.proofs.Names.{names_few}
use Rattle.complex_entity.proofs.Rows.{row_long}
use Rattle.rows.specs.MirrorRows.{parts_at, Stands, Put}
use Rattle.instantiables.specs.MirrorRows.{Listing}
use Rattle.rows.specs.MirrorLists.{further, place_of}
use Rattle.rows.proofs.Flats.{parts_length, parts_narrow, flat_cons, flat_append, flat_take, flat_drop}
use Rattle.instantiables.proofs.Listings.{listing_same, listing_refused, listing_done}

-- R is the list L with p in it
data Seen (L : List Part) (p : Part) (R : List Part) : Result ℕ ℕ → Type 0 where
  found : (i : ℕ) → R ≡ L → Seen L p R (Ok i)
  before : (i : ℕ) → i ≤ length L → R ≡ take i L ++ p ∷ drop i L → Seen L p R (Err i)

seen : (L : List Part) (p : Part) → Seen L p (sort_in order p L) (place_of L p)
unfolding place_of
seen [] p = before 0 (omega arith) refl
seen (q ∷ L) p = go (order p q) (seen L p)
  where
    go : (o : Ordering) {R : List Part} {s : Result ℕ ℕ} → Seen L p R s → Seen (q ∷ L) p (put order o p q L R) (by o (Err 0) (Ok 0) (further 1 s))
    go Ordering.lt v = before 0 (omega arith) refl
    go Ordering.eq v = found 0 refl
    go Ordering.gt (found i e) = found (1 + i) (ap (λ (t : List Part). q ∷ t) e)
    go Ordering.gt (before i h e) =
        let n : 1 + i ≡ suc i = omega arith in
        rw n (before (suc i) (omega arith) (ap (λ (t : List Part). q ∷ t) e))

module _ (L : List Part) (p : Part) (s : Result ℕ ℕ) (i : ℕ) (e : s ≡ place_of L p) where
  found_is : s ≡ Ok i → sort_in order p L ≡ L
  found_is g = go (seen L p) (sym e ∙ g)
    where
      go : {t : Result ℕ ℕ} → Seen L p (sort_in order p L) t → t ≡ Ok i → sort_in order p L ≡ L
      go (found j w) x = w
      go (before j h w) x = let z : ◌≡◌ {A = ℕ} 0 1 = cc in absurd (omega arith)

  gap_is : s ≡ Err i → (i ≤ length L) × (sort_in order p L ≡ take i L ++ p ∷ drop i L)
  gap_is g = go (seen L p) (sym e ∙ g)
    where
      go : {t : Result ℕ ℕ} → Seen L p (sort_in order p L) t → t ≡ Err i → (i ≤ length L) × (sort_in order p L ≡ take i L ++ p ∷ drop i L)
      go (found j w) x = let z : ◌≡◌ {A = ℕ} 0 1 = cc in absurd (omega arith)
      go (before j h w) x =
          let y : j ≡ i = cc in
          subst (λ (k : ℕ). (k ≤ length L) × (sort_in order p L ≡ take k L ++ p ∷ drop k L)) y (h, w)

-- the numbers from at up to end, a row further up
abbrev opened : ℕ → ℕ → List ℕ → List ℕ
opened at end l = take (at + 13) l ++ (drop at (take end l) ++ drop (end + 13) l)

opened_is : (at end : ℕ) (l : List ℕ) → at ≤ end → end ≤ length l → paste l (at + 13) (drop at l) (end - at) ≡ opened at end l
opened_is at end l h k =
    let e : at + (end - at) ≡ end = omega arith in
    let d : at + 13 + (end - at) ≡ end + 13 = omega arith in
    let x : List ℕ = take (end - at) (drop at l) in
    let s : drop at (take end l) ≡ x =
    ap (λ (j : ℕ). drop at (take j l)) (sym e) ∙ rw (take-add at (end - at) l) (drop_at (take at l) x at (length-take-le at l (omega arith))) in
    rw (d, s) (append_assoc (take (at + 13) l) x (drop (end + 13) l))

-- ---- a row is opened before row i, and p is written there
module _ (rows : List ℕ) (count i : ℕ) (p : Part) (h : Stands rows count) (hi : i ≤ count) (hc : count < 128) (hp : length p ≤ 12) where
  L : List Part
  L = parts_at count rows

  within : i ≤ length L
  unfolding L
  within = rw (parts_length count rows) hi

  filled : paste (opened (13 * i) (13 * count) rows) (13 * i) (row_of p) 13
      ≡ take (13 * i) rows ++ (row_of p ++ (drop (13 * i) (take (13 * count) rows) ++ drop (13 * count + 13) rows))
  filled =
      let z : List ℕ = drop (13 * i) (take (13 * count) rows) ++ drop (13 * count + 13) rows in
      let t : length (take (13 * i + 13) rows) ≡ 13 * i + 13 = length-take-le (13 * i + 13) rows (omega (arith, h.room)) in
      rw (take-append-le (13 * i) (take (13 * i + 13) rows) z (omega arith), take-take (13 * i) (13 * i + 13) rows (omega arith), drop_at (take (13 * i + 13) rows) z (13 * i + 13) t, take_all 13 (row_of p) (omega (arith, row_long p hp)))
      (append_assoc (take (13 * i) rows) (row_of p) z)

  front : take (13 * i) rows ≡ flat (take i L)
  unfolding L
  front = sym (take-take (13 * i) (13 * count) rows (omega arith)) ∙ rw h.clean (flat_take L i (parts_narrow count rows) within)

  back : drop (13 * i) (take (13 * count) rows) ≡ flat (drop i L)
  unfolding L
  back = rw h.clean (flat_drop L i (parts_narrow count rows) within)

  put_filled : (R : List Part) → R ≡ take i L ++ p ∷ drop i L → length R ≡ count + 1
      → Put R rows (paste (opened (13 * i) (13 * count) rows) (13 * i) (row_of p) 13)
  put_filled R e n =
      let z : List ℕ = drop (13 * count + 13) rows in
      let m : 13 * length R ≡ 13 * count + 13 = omega arith in
      let g : flat R ≡ flat (take i L) ++ (row_of p ++ flat (drop i L)) =
      ap flat e ∙ flat_append (take i L) (p ∷ drop i L) ∙ ap (λ (t : List ℕ). flat (take i L) ++ t) (flat_cons p (drop i L)) in
      filled ∙ rw (front, back, m, g)
      (sym (append_assoc (flat (take i L)) (row_of p ++ flat (drop i L)) z ∙ ap (λ (t : List ℕ). flat (take i L) ++ t) (append_assoc (row_of p) (flat (drop i L)) z)))

-- ---- the ways through `add_part`
module _ (rows : List ℕ) (count : ℕ) (x : PartialComplexEntity) (p : List ℕ) (d : p ≡ names_of x) (s : Result ℕ ℕ) (i : ℕ) (h : Stands rows count) (e' : s ≡ place_of (parts_at count rows) p) where
  e : s ≡ place_of (parts_at count rows) (names_of x)
  e = e' ∙ ap (place_of (parts_at count rows)) d

  more : List Part
  more = add (parts_at count rows) (names_of x ∷ [])

  is_sorted_in : more ≡ sort_in order (names_of x) (parts_at count rows)
  unfolding more
  is_sorted_in = add_one_part (names_of x) h.ordered

  pub insert_found : s ≡ Ok i → Listing (held (add (parts_at count rows) (names_of x ∷ []))) rows rows (done count)
  unfolding more
  insert_found g = listing_same _ rows rows count (ap held (is_sorted_in ∙ found_is (parts_at count rows) (names_of x) s i e g)) h refl

  module _ (g : s ≡ Err i) where
    inside : i ≤ count
    inside = rw (parts_length count rows) at (gap_is (parts_at count rows) (names_of x) s i e g).0

    more_is : more ≡ take i (parts_at count rows) ++ names_of x ∷ drop i (parts_at count rows)
    more_is = is_sorted_in ∙ (gap_is (parts_at count rows) (names_of x) s i e g).1

    longer : length more ≡ count + 1
    longer =
        let K : List Part = parts_at count rows in
        let n : length K ≡ count = parts_length count rows in
        let a : length (take i K) ≡ i = length-take-le i K (omega (arith, inside)) in
        let b : length (drop i K) ≡ length K - i = length-drop i K in
        ap length more_is ∙ length-append (take i K) (names_of x ∷ drop i K) ∙ omega (arith, inside)

    pub insert_mul : Fits w64 (13 * i)
    insert_mul = Fits-under w64 (13 * i) 2000 (omega (arith, inside, h.small)) tt

    pub insert_full : 128 ≤ count → (w : Refusal) → w ≡ record { reason = TooManySets; place = 0 }
        → Listing (held (add (parts_at count rows) (names_of x ∷ []))) rows rows (told_refusal w)
    unfolding more
    insert_full k w u = rw u (listing_refused _ rows rows 11 0 (held_many more (omega (arith, longer))))

    module _ (k : count < 128) where
      pub insert_at : 13 * i ≤ 13 * count
      insert_at = omega (arith, inside)

      pub insert_end : 13 * i + 13 + (13 * count - 13 * i) ≤ length rows
      insert_end = omega (arith, inside, h.room)

      pub insert_add : Fits w64 (13 * i + 13)
      insert_add = Fits-under w64 (13 * i + 13) 2000 (omega (arith, inside)) tt

      pub insert_inside : (rows₁ : List ℕ) → length rows₁ ≡ length rows → 13 * i + 13 ≤ length rows₁
      insert_inside rows₁ l = omega (arith, inside, h.room)

      pub insert_grown : (rows₁ rows₂ : List ℕ) → rows₁ ≡ paste rows (13 * i + 13) (drop (13 * i) rows) (13 * count - 13 * i) → rows₂ ≡ paste rows₁ (13 * i) (row_of (names_of x)) 13 → length x.names ≡ 12
          → Listing (held (add (parts_at count rows) (names_of x ∷ []))) rows rows₂ (done (count + 1))
      unfolding more L
      insert_grown rows₁ rows₂ o' w m =
          let o : rows₁ ≡ opened (13 * i) (13 * count) rows = o' ∙ opened_is (13 * i) (13 * count) rows (omega (arith, inside)) (omega (arith, h.room)) in
          let a : length (names_of x) ≤ 12 = names_few x m in
          let v : rows₂ ≡ paste (opened (13 * i) (13 * count) rows) (13 * i) (row_of (names_of x)) 13 = w ∙ ap (λ (t : List ℕ). paste t (13 * i) (row_of (names_of x)) 13) o in
          listing_done _ more rows rows₂ (count + 1) (held_done more (omega (arith, longer)) narrow) longer
          (v ∙ put_filled rows count i (names_of x) h inside k a more more_is longer)
        where
          narrow : Narrow more
          narrow q n = elim (add_old (parts_at count rows) (names_of x ∷ []) n) [
            | inl j ↦ parts_narrow count rows q j
            | inr j ↦ elim j [ here d ↦ rw d (names_few x m) | there k ↦ absurd (not_in_nil k) ]
          ]

pub ruleset inserting = (insert_found, insert_mul, insert_full, insert_at, insert_end, insert_add, insert_inside, insert_grown)
