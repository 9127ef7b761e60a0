-- The loops that add something for each row of a source: the row itself, or its joins.
use Prim.Native.Nat.{ℕ, ◌+◌, ◌-◌, ◌*◌, ◌≤◌, ◌<◌, compare}
use mathlib.Core.Path.{◌≡◌, refl, sym, ap, ◌∙◌}
use mathlib.Core.Bool.{Bool, true, false}
use mathlib.Core.List.{List, [], ◌∷◌, ◌++◌, append-nil, map, flat_map}
use native.Mathlib.Omega.{arith}
use native.Mathlib.Nat.{sub-zero}
use lib.ListN.{length, drop}
use lib.Dec.{leb}
use borrow.Author.Tests.{leb-false}
use Rattle.std.specs.Prelude.{Result, Ok, Err}
use Rattle.refusal.specs.MeaningAnswer.{Answer, done, refused, or_else}
use Rattle.refusal.specs.Told.{number_of, told_by}
use Rattle.complex_entity.specs.MeaningRising.{◌∈◌, here, there, Rising}
use Rattle.complex_entity.specs.MeaningParts.{Part, join, narrow}
use Rattle.complex_entity.specs.MeaningLists.{add, joins, held}
use Rattle.complex_entity.specs.MirrorParts.{names_of, narrowed, Makes, merge, part_at}
use Rattle.complex_entity.specs.declared.PartialComplexEntity.{PartialComplexEntity}
use Rattle.complex_entity.proofs.Merging.{merge_is}
use Rattle.complex_entity.proofs.Sets.{not_in_nil}
use Rattle.refusal.specs.declared.Refusal.{Refusal}
use Rattle.instantiables.specs.declared.Instantiables.{Instantiables}
use Rattle.rows.specs.MirrorRows.{parts_at, Stands}
use Rattle.instantiables.specs.MirrorRows.{Sets, Listing}
use Rattle.instantiables.specs.Told.{told_listed}
use Rattle.rows.proofs.Flats.{names_of_law, ahead, none_left}
use Rattle.instantiables.proofs.Growing.{Growing, grow_start, grow_done, grow_next, grow_over, grow_wide}

-- what is added for a list is what is added for each of its parts
pub record Each (F : List Part → List Part) : Type 0 where
  pub none : F [] ≡ []
  pub more : (q : Part) (L : List Part) → F (q ∷ L) ≡ F (q ∷ []) ++ F L

pub each_itself : Each (λ L. L)
each_itself = record { none = refl; more = λ q L. refl }

pub each_join : (p : Part) → Each (λ L. joins (p ∷ []) L)
unfolding flat_map
each_join p = record { none = refl; more = λ q L. refl }

-- the joins with each of K
unfoldable pub joined_to : List Part → List Part → List Part
joined_to K L = joins L K

pub each_joins : (K : List Part) → Each (joined_to K)
unfolding joined_to flat_map
each_joins K = record { none = refl; more = λ q L. ap (λ (t : List Part). t ++ joins L K) (sym (append-nil (map (join q) K))) }

-- the rows from the one with number i on: the first of them, and the rest
pub ahead_at : (source : List ℕ) (i count : ℕ) → i < count → parts_at (count - i) (drop (13 * i) source) ≡ part_at (drop (13 * i) source) ∷ parts_at (count - (i + 1)) (drop (13 * (i + 1)) source)
ahead_at source i count h =
    let a : 13 * i + 13 ≡ 13 * (i + 1) = omega arith in
    let b : count - i - 1 ≡ count - (i + 1) = omega arith in
    ahead source (13 * i) (count - i) (omega arith) ∙ rw (a, b) refl

pub none_yet : (source : List ℕ) (m : ℕ) → parts_at (m - 0) (drop (13 * 0) source) ≡ parts_at m source
none_yet source m = rw sub-zero refl

-- the first i rows were added, and the others are still to be
pub record Feeding (F : List Part → List Part) (source rows₀ rows : List ℕ) (n i count : ℕ) (o : Answer (List Part)) : Type 0 where
  pub inside : 13 * count ≤ length source
  pub grow : Growing rows₀ rows n (F (parts_at (count - i) (drop (13 * i) source))) o

pub feed_start : (F : List Part → List Part) (source rows : List ℕ) (n m : ℕ) → Stands rows n → 13 * m ≤ length source
    → Feeding F source rows rows n 0 m (held (add (parts_at n rows) (F (parts_at m source))))
feed_start F source rows n m h k = record { inside = k; grow = rw (none_yet source m) (grow_start rows n (F (parts_at m source)) _ h refl) }

module _ (F : List Part → List Part) (source rows₀ rows : List ℕ) (n i count : ℕ) (o : Answer (List Part)) (f : Feeding F source rows₀ rows n i count o) where
  pub feed_stands : Stands rows n
  feed_stands = f.grow.front.stands

  pub feed_inside : i < count → 13 * i + 13 ≤ length source
  feed_inside h = omega (arith, f.inside)

  module _ (E : Each F) where
    pub feed_done : count ≤ i → Listing o rows₀ rows (done n)
    feed_done h =
        grow_done rows₀ rows n (F (parts_at (count - i) (drop (13 * i) source))) o f.grow (ap F (none_left (drop (13 * i) source) (count - i) (omega arith)) ∙ E.none)

    module _ (h : i < count) (q : Part) (w : q ≡ part_at (drop (13 * i) source)) where
      rest : List Part
      rest = F (parts_at (count - (i + 1)) (drop (13 * (i + 1)) source))

      turn : F (parts_at (count - i) (drop (13 * i) source)) ≡ F (q ∷ []) ++ rest
      unfolding rest
      turn = ap F (ahead_at source i count h) ∙ E.more (part_at (drop (13 * i) source)) _ ∙ rw w

      module _ (rows' : List ℕ) (r : Result Instantiables Refusal) (g : Listing (held (add (parts_at n rows) (F (q ∷ [])))) rows rows' (told_listed r)) where
        pub feed_next : (l : Instantiables) → r ≡ Ok l → Feeding F source rows₀ rows' l.count (i + 1) count o
        unfolding rest
        feed_next l u =
            record {
              inside = f.inside;
              grow = grow_next rows₀ rows n (F (parts_at (count - i) (drop (13 * i) source))) o f.grow rows' (F (q ∷ [])) (told_listed r) g rest turn l.count (ap told_listed u);
            }

        pub feed_over : (why : Refusal) → r ≡ Err why → Listing o rows₀ rows' (told_listed r)
        feed_over why u =
            grow_over rows₀ rows n (F (parts_at (count - i) (drop (13 * i) source))) o f.grow rows' (F (q ∷ [])) (told_listed r) g rest turn (number_of why.reason) why.place (ap told_listed u)

pub ruleset feeding = (names_of_law, each_itself, feed_start, feed_stands, feed_inside, feed_done, feed_next, feed_over)

-- ---- the parts ahead are sets of names
pub record Ahead (source : List ℕ) (i count : ℕ) : Type 0 where
  pub all : Sets (parts_at (count - i) (drop (13 * i) source))

pub ahead_start : (source : List ℕ) (m : ℕ) → Sets (parts_at m source) → Ahead source 0 m
ahead_start source m s = record { all = rw (none_yet source m) s }

module _ (source : List ℕ) (i count : ℕ) (s : Ahead source i count) (h : i < count) where
  pub ahead_next : Ahead source (i + 1) count
  ahead_next = record { all = λ q m. s.all q (rw (ahead_at source i count h) (there m)) }

  pub ahead_first : Rising compare (part_at (drop (13 * i) source))
  ahead_first = s.all (part_at (drop (13 * i) source)) (rw (ahead_at source i count h) (here refl))

  pub ahead_sets : Sets (part_at (drop (13 * i) source) ∷ [])
  ahead_sets q (here e) = rw e ahead_first
  ahead_sets q (there m) = absurd (not_in_nil m)

-- ---- the joins of each row with each of K: all are added by one call
pub record Crossing (K : List Part) (source rows₀ rows : List ℕ) (n i count : ℕ) (o : Answer (List Part)) : Type 0 where
  pub inside : 13 * count ≤ length source
  pub sets : Ahead source i count
  pub feed : Feeding (joined_to K) source rows₀ rows n i count o

pub cross_start : (K : List Part) (source rows : List ℕ) (n m : ℕ) → Stands rows n → 13 * m ≤ length source → Sets (parts_at m source)
    → Crossing K source rows rows n 0 m (held (add (parts_at n rows) (joins (parts_at m source) K)))
unfolding joined_to
cross_start K source rows n m h k t = record { inside = k; sets = ahead_start source m t; feed = feed_start (joined_to K) source rows n m h k }

module _ (K : List Part) (source rows₀ rows : List ℕ) (n i count : ℕ) (o : Answer (List Part)) (f : Crossing K source rows₀ rows n i count o) where
  pub cross_stands : Stands rows n
  cross_stands = f.feed.grow.front.stands

  pub cross_inside : i < count → 13 * i + 13 ≤ length source
  cross_inside h = omega (arith, f.inside)

  pub cross_done : count ≤ i → Listing o rows₀ rows (done n)
  cross_done h = feed_done (joined_to K) source rows₀ rows n i count o f.feed (each_joins K) h

  module _ (h : i < count) where
    pub cross_sets : Sets (part_at (drop (13 * i) source) ∷ [])
    cross_sets = ahead_sets source i count f.sets h

    module _ (rows' : List ℕ) (r : Result Instantiables Refusal) (g : Listing (held (add (parts_at n rows) (joins (part_at (drop (13 * i) source) ∷ []) K))) rows rows' (told_listed r)) where
      pub cross_next : (l : Instantiables) → r ≡ Ok l → Crossing K source rows₀ rows' l.count (i + 1) count o
      unfolding joined_to
      cross_next l u =
          record {
            inside = f.inside;
            sets = ahead_next source i count f.sets h;
            feed = feed_next (joined_to K) source rows₀ rows n i count o f.feed (each_joins K) h _ refl rows' r g l u;
          }

      pub cross_over : (why : Refusal) → r ≡ Err why → Listing o rows₀ rows' (told_listed r)
      unfolding joined_to
      cross_over why u = feed_over (joined_to K) source rows₀ rows n i count o f.feed (each_joins K) h _ refl rows' r g why u

pub ruleset crossing = (cross_start, cross_stands, cross_inside, cross_done, cross_sets, cross_next, cross_over)

-- ---- the joins of p with each row: each is made first, and may have too many names
pub record Joining (p : Part) (source rows₀ rows : List ℕ) (n i count : ℕ) (o : Answer (List Part)) : Type 0 where
  pub inside : 13 * count ≤ length source
  pub own : Rising compare p
  pub sets : Ahead source i count
  pub feed : Feeding (λ L. joins (p ∷ []) L) source rows₀ rows n i count o

pub join_start : (p : Part) (source rows : List ℕ) (n m : ℕ) → Stands rows n → 13 * m ≤ length source → Sets (p ∷ []) → Sets (parts_at m source)
    → Joining p source rows rows n 0 m (held (add (parts_at n rows) (joins (p ∷ []) (parts_at m source))))
join_start p source rows n m h k s t =
    record { inside = k; own = s p (here refl); sets = ahead_start source m t; feed = feed_start (λ L. joins (p ∷ []) L) source rows n m h k }

-- a part that was made, or was not
module _ (p q : Part) (m : Result PartialComplexEntity Refusal) (P : Rising compare p) (Q : Rising compare q) (e : Makes (narrowed (merge p q)) m) where
  told : told_by (λ x. names_of x) m ≡ or_else 11 (narrow (join p q)) (done (join p q))
  told = rw (merge_is P Q) at e.told

  made_is : (x : PartialComplexEntity) → m ≡ Ok x → names_of x ≡ join p q
  made_is x d = go (narrow (join p q)) (rw d at told)
    where
      go : (b : Bool) → ◌≡◌ {A = Answer Part} (done (names_of x)) (or_else 11 b (done (join p q))) → names_of x ≡ join p q
      go true u = cc
      go false u = let z : ◌≡◌ {A = ℕ} 0 1 = cc in absurd (omega arith)

  made_not : (why : Refusal) → m ≡ Err why → (12 < length (join p q)) × (told_by {B = ℕ} (λ (x : PartialComplexEntity). 0) m ≡ refused 11 0)
  made_not why d = go (narrow (join p q)) refl (rw d at told)
    where
      go : (b : Bool) → leb (length (join p q)) 12 ≡ b → ◌≡◌ {A = Answer Part} (refused (number_of why.reason) why.place) (or_else 11 b (done (join p q)))
          → (12 < length (join p q)) × (told_by {B = ℕ} (λ (x : PartialComplexEntity). 0) m ≡ refused 11 0)
      go true b u = let z : ◌≡◌ {A = ℕ} 0 1 = cc in absurd (omega arith)
      go false b u = (leb-false (length (join p q)) 12 b, rw d (cc))

module _ (p : Part) (source rows₀ rows : List ℕ) (n i count : ℕ) (o : Answer (List Part)) (f : Joining p source rows₀ rows n i count o) where
  pub join_stands : Stands rows n
  join_stands = f.feed.grow.front.stands

  pub join_inside : i < count → 13 * i + 13 ≤ length source
  join_inside h = omega (arith, f.inside)

  pub join_done : count ≤ i → Listing o rows₀ rows (done n)
  join_done h = feed_done _ source rows₀ rows n i count o f.feed (each_join p) h

  module _ (h : i < count) (a b : Part) (u : a ≡ p) (v : b ≡ part_at (drop (13 * i) source)) (m : Result PartialComplexEntity Refusal) (e' : Makes (narrowed (merge a b)) m) where
    e : Makes (narrowed (merge p (part_at (drop (13 * i) source)))) m
    e = rw (u, v) at e'

    set : Rising compare (part_at (drop (13 * i) source))
    set = ahead_first source i count f.sets h

    pub join_refused : (why : Refusal) → m ≡ Err why → Listing o rows₀ rows (refused (number_of why.reason) why.place)
    unfolding flat_map
    join_refused why d =
        let y = made_not p (part_at (drop (13 * i) source)) m f.own set e why d in
        let j : join p (part_at (drop (13 * i) source)) ∈ joins (p ∷ []) (parts_at (count - i) (drop (13 * i) source)) =
        rw (ahead_at source i count h) (here refl) in
        rw (rw d at y.1) (grow_wide rows₀ rows n _ o f.feed.grow (join p (part_at (drop (13 * i) source))) j y.0)

    module _ (x : PartialComplexEntity) (d : m ≡ Ok x) (rows' : List ℕ) (r : Result Instantiables Refusal) (g : Listing (held (add (parts_at n rows) (names_of x ∷ []))) rows rows' (told_listed r)) where
      as_joins : Listing (held (add (parts_at n rows) (joins (p ∷ []) (part_at (drop (13 * i) source) ∷ [])))) rows rows' (told_listed r)
      unfolding flat_map
      as_joins = rw (made_is p (part_at (drop (13 * i) source)) m f.own set e x d) at g

      pub join_next : (l : Instantiables) → r ≡ Ok l → Joining p source rows₀ rows' l.count (i + 1) count o
      join_next l u =
          record {
            inside = f.inside;
            own = f.own;
            sets = ahead_next source i count f.sets h;
            feed = feed_next _ source rows₀ rows n i count o f.feed (each_join p) h _ refl rows' r as_joins l u;
          }

      pub join_over : (why : Refusal) → r ≡ Err why → Listing o rows₀ rows' (told_listed r)
      join_over why u = feed_over _ source rows₀ rows n i count o f.feed (each_join p) h _ refl rows' r as_joins why u

pub ruleset joining = (join_start, join_stands, join_inside, join_done, join_refused, join_next, join_over)
