-- From the empty list: `bitand`; and one factor more of an ANDOR.
use Prim.Native.Nat.{ℕ, ◌*◌, ◌≤◌}
use mathlib.Core.Path.{◌≡◌, refl, sym, ap, ◌∙◌}
use mathlib.Core.Logic.{inl, inr}
use mathlib.Core.List.{List, ◌++◌}
use native.Mathlib.Omega.{arith}
use lib.ListN.{length, take, drop, length-append}
use Rattle.std.specs.Prelude.{Result, Ok, Err}
use Rattle.refusal.specs.MeaningAnswer.{Answer, refused}
use Rattle.refusal.specs.Told.{number_of}
use Rattle.refusal.specs.declared.Refusal.{Refusal}
use Rattle.complex_entity.specs.MeaningRising.{◌∈◌}
use Rattle.complex_entity.specs.MeaningParts.{Part}
use Rattle.complex_entity.specs.MeaningLists.{add, joins, bitand, held}
use Rattle.complex_entity.specs.MeaningRows.{flat}
use Rattle.complex_entity.specs.MirrorLists.{grown}
use Rattle.complex_entity.proofs.Sets.{tidy_same}
use Rattle.complex_entity.proofs.Orders.{part_order}
use Rattle.complex_entity.proofs.Members.{∈_append_left, ∈_append_right, ∈_append_cases, add_old, add_left, add_right, add_rising}
use Rattle.complex_entity.proofs.Limits.{held_less}
use Rattle.instantiables.specs.declared.Instantiables.{Instantiables}
use Rattle.rows.specs.MirrorRows.{parts_at, Stands}
use Rattle.instantiables.specs.MirrorRows.{Sets, Listing}
use Rattle.instantiables.specs.Told.{told_listed}
use Rattle.rows.proofs.Flats.{parts_length, parts_narrow, parts_flat, flat_length}
use Rattle.instantiables.proofs.Listings.{stands_empty, put_stands, listing_got, listing_parts, listing_over, listing_refused}
use Rattle.instantiables.proofs.Growing.{Growing, grow_start, grow_next, grow_over, grow_last}

-- ---- from the empty list
module _ (rows : List ℕ) (l : Instantiables) (e : l ≡ record { count = 0 }) where
  pub none_stands : 1664 ≤ length rows → Stands rows l.count
  none_stands h = rw e (stands_empty rows h)

  module _ (rows' : List ℕ) (t : Answer ℕ) where
    pub none_joins : (L K : List Part) → Listing (held (add (parts_at l.count rows) (joins L K))) rows rows' t → Listing (held (bitand L K)) rows rows' t
    unfolding parts_at
    none_joins L K g = rw e at g

pub ruleset crossed = (none_stands, none_joins)

-- ---- a list that was copied
module _ (rows scratch z : List ℕ) (count : ℕ) (h : Stands rows count) (e : scratch ≡ take (13 * count) rows ++ drop (13 * count) z) where
  is_flat : scratch ≡ flat (parts_at count rows) ++ drop (13 * count) z
  is_flat = e ∙ ap (λ (x : List ℕ). x ++ drop (13 * count) z) h.clean

  pub copied : parts_at count scratch ≡ parts_at count rows
  copied =
      ap (parts_at count) is_flat
      ∙ ap (λ (k : ℕ). parts_at k (flat (parts_at count rows) ++ drop (13 * count) z)) (sym (parts_length count rows))
      ∙ parts_flat (parts_at count rows) (drop (13 * count) z) (parts_narrow count rows)

  pub copied_room : 13 * count ≤ length scratch
  copied_room =
      let a : length (flat (parts_at count rows)) ≡ 13 * length (parts_at count rows) = flat_length (parts_at count rows) (parts_narrow count rows) in
      omega (arith, a, parts_length count rows, ap length is_flat, length-append (flat (parts_at count rows)) (drop (13 * count) z))

  pub copied_sets : Sets (parts_at count rows) → Sets (parts_at count scratch)
  copied_sets s = rw copied s

-- what was added stands
pub added_stands : (L K : List Part) (rows rows' : List ℕ) (r : Result Instantiables Refusal) → Listing (held (add L K)) rows rows' (told_listed r) → 1664 ≤ length rows
    → (l : Instantiables) → r ≡ Ok l → Stands rows' l.count
added_stands L K rows rows' r g h l u =
    let x = listing_got (add L K) rows rows' (told_listed r) g l.count (ap told_listed u) in
    rw (← x.count) (put_stands (add L K) rows rows' x.slim x.put x.small h (add_rising L K))

-- ---- from the empty list, T is added and then J
module _ (T J : List Part) (rows : List ℕ) (l : Instantiables) (e : l ≡ record { count = 0 }) (h : 1664 ≤ length rows) (rows₁ : List ℕ) (r : Result Instantiables Refusal)
    (g : Listing (held (add (parts_at l.count rows) T)) rows rows₁ (told_listed r)) where
  base : Growing rows rows l.count (T ++ J) (held (add T J))
  unfolding parts_at
  base = rw e (grow_start rows 0 (T ++ J) (held (add T J)) (stands_empty rows h) refl)

  pub two_over : (why : Refusal) → r ≡ Err why → Listing (held (add T J)) rows rows₁ (told_listed r)
  two_over why u = grow_over rows rows l.count (T ++ J) _ base rows₁ T (told_listed r) g J refl (number_of why.reason) why.place (ap told_listed u)

  module _ (own : Instantiables) (u : r ≡ Ok own) where
    more : Growing rows rows₁ own.count J (held (add T J))
    more = grow_next rows rows l.count (T ++ J) _ base rows₁ T (told_listed r) g J refl own.count (ap told_listed u)

    pub two_done : (rows₂ : List ℕ) (t : Answer ℕ) → Listing (held (add (parts_at own.count rows₁) J)) rows₁ rows₂ t → Listing (held (add T J)) rows rows₂ t
    two_done rows₂ t x = grow_last rows rows₁ own.count J _ more rows₂ J t x refl

pub ruleset twofold = (none_stands, added_stands, two_over, two_done)

-- ---- one factor more: T's parts and the joins are united with the list
grown_is : (L T : List Part) → add L (add T (joins L T)) ≡ grown L T
unfolding grown
grown_is L T = tidy_same part_order (L ++ add T J) (L ++ (J ++ T)) to fro
  where
    J : List Part
    J = joins L T

    to : (q : Part) → q ∈ (L ++ add T J) → q ∈ (L ++ (J ++ T))
    to q m = elim (∈_append_cases L (add T J) m) [
      | inl i ↦ ∈_append_left L (J ++ T) i
      | inr n ↦ ∈_append_right L (J ++ T) (elim (add_old T J n) [ inl k ↦ ∈_append_right J T k | inr j ↦ ∈_append_left J T j ])
    ]

    fro : (q : Part) → q ∈ (L ++ (J ++ T)) → q ∈ (L ++ add T J)
    fro q m = elim (∈_append_cases L (J ++ T) m) [
      | inl i ↦ ∈_append_left L (add T J) i
      | inr n ↦ ∈_append_right L (add T J) (elim (∈_append_cases J T n) [ inl j ↦ add_right T J j | inr k ↦ add_left T J k ])
    ]

module _ (L T : List Part) (scratch scratch₁ : List ℕ) (r : Result Instantiables Refusal) (g : Listing (held (add T (joins L T))) scratch scratch₁ (told_listed r)) where
  K : List Part
  K = add T (joins L T)

  pub step_over : (rows : List ℕ) (why : Refusal) → r ≡ Err why → Listing (held (grown L T)) rows rows (told_listed r)
  unfolding K
  step_over rows why u =
      let x = listing_over K scratch scratch₁ (told_listed r) g (number_of why.reason) why.place (ap told_listed u) in
      let z : held (add L K) ≡ refused 11 0 = held_less K (add L K) (add_rising T (joins L T)) (add_rising L K) (λ q m. add_right L K m) x.0 in
      rw x.1 (listing_refused (held (grown L T)) rows rows 11 0 (ap held (sym (grown_is L T)) ∙ z))

  module _ (more : Instantiables) (u : r ≡ Ok more) where
    pub step_done : (rows rows' : List ℕ) (t : Answer ℕ) → Listing (held (add L (parts_at more.count scratch₁))) rows rows' t → Listing (held (grown L T)) rows rows' t
    unfolding K
    step_done rows rows' t x =
        let p : parts_at more.count scratch₁ ≡ K = listing_parts K scratch scratch₁ (told_listed r) g more.count (ap told_listed u) in
        let q : add L (parts_at more.count scratch₁) ≡ grown L T = ap (add L) p ∙ grown_is L T in
        rw q at x

pub stands_inside : (rows : List ℕ) (count : ℕ) → Stands rows count → 13 * count ≤ length rows
stands_inside rows count s = omega (arith, s.small, s.room)

pub ruleset stepping = (stands_inside, added_stands, step_over, step_done)
