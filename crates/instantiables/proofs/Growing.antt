-- A list that grows by calls: `rest` is still to be added, and o is the answer in the end.
use Prim.Native.Nat.{ℕ, ◌≤◌, ◌<◌}
use mathlib.Core.Path.{◌≡◌, sym, ap, ◌∙◌}
use mathlib.Core.List.{List, [], ◌++◌}
use native.Mathlib.Omega.{arith}
use lib.ListN.{length}
use Rattle.refusal.specs.MeaningAnswer.{Answer, done, refused}
use Rattle.complex_entity.specs.MeaningRising.{◌∈◌, Rising}
use Rattle.complex_entity.specs.MeaningParts.{Part, order}
use Rattle.complex_entity.specs.MeaningLists.{add, held}
use Rattle.complex_entity.proofs.Sets.{subset_length}
use Rattle.complex_entity.proofs.Orders.{part_order}
use Rattle.complex_entity.proofs.Members.{add_left, add_right, add_rising, add_nil, add_steps}
use Rattle.complex_entity.proofs.Limits.{held_wide, held_grows}
use Rattle.rows.specs.MirrorRows.{parts_at, Stands}
use Rattle.instantiables.specs.MirrorRows.{Listing}
use Rattle.rows.proofs.Flats.{parts_length}
use Rattle.instantiables.proofs.Listings.{Front, front_start, front_next, front_parts, front_last, listing_over, listing_refused, listing_same}

pub record Growing (rows₀ rows : List ℕ) (n : ℕ) (rest : List Part) (o : Answer (List Part)) : Type 0 where
  pub front : Front rows₀ rows n
  pub whole : held (add (parts_at n rows) rest) ≡ o

pub grow_start : (rows : List ℕ) (n : ℕ) (rest : List Part) (o : Answer (List Part)) → Stands rows n → held (add (parts_at n rows) rest) ≡ o → Growing rows rows n rest o
grow_start rows n rest o h e = record { front = front_start rows n h; whole = e }

-- a list is no longer than the list with more added
pub add_longer : (L J : List Part) → Rising order L → length L ≤ length (add L J)
add_longer L J h = subset_length part_order h (add_rising L J) (λ q m. add_left L J m)

module _ (rows₀ rows : List ℕ) (n : ℕ) (rest : List Part) (o : Answer (List Part)) (f : Growing rows₀ rows n rest o) where
  -- nothing is to come
  pub grow_done : rest ≡ [] → Listing o rows₀ rows (done n)
  grow_done e =
      listing_same o rows₀ rows n (sym f.whole ∙ ap held (ap (add (parts_at n rows)) e ∙ add_nil f.front.stands.ordered)) f.front.stands f.front.past

  -- a part that is to come has too many names
  pub grow_wide : (q : Part) → q ∈ rest → 12 < length q → Listing o rows₀ rows (refused 11 0)
  grow_wide q m h = listing_refused o rows₀ rows 11 0 (sym f.whole ∙ held_wide (add (parts_at n rows) rest) (add_right (parts_at n rows) rest m) h)

  -- one call more: J was added
  module _ (rows' : List ℕ) (J : List Part) (r : Answer ℕ) (g : Listing (held (add (parts_at n rows) J)) rows rows' r) where
    sum : List Part
    sum = add (parts_at n rows) J

    pub grow_over : (rest' : List Part) → rest ≡ J ++ rest' → (a b : ℕ) → r ≡ refused a b → Listing o rows₀ rows' r
    unfolding sum
    grow_over rest' e a b u =
        let x = listing_over sum rows rows' r g a b u in
        let z : o ≡ refused 11 0 = sym f.whole ∙ ap (λ (t : List Part). held (add (parts_at n rows) t)) e ∙ held_grows (parts_at n rows) J rest' x.0 in
        rw x.1 (listing_refused o rows₀ rows' 11 0 z)

    longer : n ≤ length sum
    unfolding sum
    longer = omega (arith, add_longer (parts_at n rows) J f.front.stands.ordered, parts_length n rows)

    pub grow_next : (rest' : List Part) → rest ≡ J ++ rest' → (k : ℕ) → r ≡ done k → Growing rows₀ rows' k rest' o
    unfolding sum
    grow_next rest' e k u =
        record {
          front = front_next rows₀ rows rows' n f.front sum (add_rising (parts_at n rows) J) longer r g k u;
          whole =
              ap (λ (t : List Part). held (add t rest')) (front_parts rows₀ rows rows' n f.front sum (add_rising (parts_at n rows) J) longer r g k u)
              ∙ ap held (add_steps (parts_at n rows) J rest' ∙ ap (add (parts_at n rows)) (sym e)) ∙ f.whole;
        }

    -- the last call
    pub grow_last : rest ≡ J → Listing o rows₀ rows' r
    unfolding sum
    grow_last e =
        rw (sym f.whole ∙ ap (λ (t : List Part). held (add (parts_at n rows) t)) e)
        (front_last rows₀ rows rows' n f.front sum (add_rising (parts_at n rows) J) longer r g)
