-- Lists that stand one after another, walked by their counts: the loop of `oneof`.
use Prim.Native.Nat.{ℕ, ◌+◌, ◌-◌, ◌*◌, ◌≤◌, ◌<◌}
use mathlib.Core.Path.{◌≡◌, refl, ap, ◌∙◌}
use mathlib.Core.List.{List, [], ◌∷◌, ◌++◌, flatten}
use native.Mathlib.Omega.{arith}
use native.Mathlib.Numerals.{add-one}
use lib.ListN.{length, get_or, take, drop, length-drop, drop_of_length-le}
use lib.Seq.{drop-cons}
use Rattle.refusal.specs.MeaningAnswer.{Answer, done}
use Rattle.std.specs.Prelude.{Result, Ok, Err}
use Rattle.refusal.specs.Told.{number_of}
use Rattle.refusal.specs.declared.Refusal.{Refusal}
use Rattle.complex_entity.specs.MeaningParts.{Part}
use Rattle.complex_entity.specs.MeaningLists.{add, held, oneof_of}
use Rattle.instantiables.specs.declared.Instantiables.{Instantiables}
use Rattle.rows.specs.MirrorRows.{parts_at, Stands}
use Rattle.instantiables.specs.MirrorRows.{lists_at, sum, Listing}
use Rattle.instantiables.specs.Told.{told_listed}
use Rattle.instantiables.proofs.Listings.{tail_is, stands_empty}
use Rattle.instantiables.proofs.Growing.{Growing, grow_start, grow_done, grow_next, grow_over}

-- ---- the lists from the one with number i on stand in what is left
pub record Walking (counts lists : List ℕ) (i : ℕ) : Type 0 where
  pub here : i ≤ length counts
  pub inside : 13 * sum (drop i counts) ≤ length lists

abbrev pub rest : List ℕ → List ℕ → ℕ → List (List Part)
rest counts lists i = lists_at (drop i counts) lists

-- what is left behind n rows, as it is lent
abbrev pub behind : ℕ → List ℕ → List ℕ
behind n lists = take (length lists - 13 * n) (drop (13 * n) lists)

pub walk_start : (counts lists : List ℕ) → 13 * sum counts ≤ length lists → Walking counts lists 0
walk_start counts lists h = record { here = omega arith; inside = h }

module _ (counts lists : List ℕ) (i : ℕ) (f : Walking counts lists i) where
  pub walk_done : length counts ≤ i → rest counts lists i ≡ []
  unfolding lists_at
  walk_done h = ap (λ (ns : List ℕ). lists_at ns lists) (drop_of_length-le counts {i = i} h)

  module _ (h : i < length counts) (m : ℕ) (e : m ≡ get_or counts i 0) where
    ahead : drop i counts ≡ m ∷ drop (i + 1) counts
    ahead = rw e (drop-cons counts i 0 h ∙ rw (add-one i) refl)

    total : sum (drop i counts) ≡ m + sum (drop (i + 1) counts)
    unfolding sum
    total = ap sum ahead

    pub walk_first : rest counts lists i ≡ parts_at m lists ∷ rest counts (behind m lists) (i + 1)
    unfolding lists_at
    walk_first = ap (λ (ns : List ℕ). lists_at ns lists) ahead ∙ rw (tail_is lists (13 * m)) refl

    pub walk_next : Walking counts (behind m lists) (i + 1)
    walk_next =
        record {
          here = omega arith;
          inside = rw (tail_is lists (13 * m), length-drop (13 * m) lists) (omega (arith, f.inside, total));
        }

    pub walk_room : 13 * m ≤ length lists
    walk_room = omega (arith, f.inside, total)

-- ---- ONEOF: the lists that are left, added to the list, make the whole answer
pub record Uniting (counts lists rows₀ rows : List ℕ) (n i : ℕ) (o : Answer (List Part)) : Type 0 where
  pub walk : Walking counts lists i
  pub grow : Growing rows₀ rows n (flatten (rest counts lists i)) o

pub unite_start : (counts lists rows : List ℕ) (l : Instantiables) → l ≡ record { count = 0 } → 1664 ≤ length rows → 13 * sum counts ≤ length lists
    → Uniting counts lists rows rows l.count 0 (oneof_of (lists_at counts lists))
unfolding oneof_of parts_at
unite_start counts lists rows l e h k =
    rw e (record { walk = walk_start counts lists k; grow = grow_start rows 0 (flatten (lists_at counts lists)) _ (stands_empty rows h) refl })

module _ (counts lists rows₀ rows : List ℕ) (n i : ℕ) (o : Answer (List Part)) (f : Uniting counts lists rows₀ rows n i o) where
  pub unite_stands : Stands rows n
  unite_stands = f.grow.front.stands

  pub unite_done : length counts ≤ i → Listing o rows₀ rows (done n)
  unfolding flatten
  unite_done h = grow_done rows₀ rows n _ o f.grow (ap flatten (walk_done counts lists i f.walk h))

  module _ (h : i < length counts) (m : ℕ) (e : m ≡ get_or counts i 0) where
    turn : flatten (rest counts lists i) ≡ parts_at m lists ++ flatten (rest counts (behind m lists) (i + 1))
    unfolding flatten
    turn = ap flatten (walk_first counts lists i f.walk h m e)

    pub unite_room : 13 * m ≤ length lists
    unite_room = walk_room counts lists i f.walk h m e

    module _ (rows' : List ℕ) (r : Result Instantiables Refusal) (g : Listing (held (add (parts_at n rows) (parts_at m lists))) rows rows' (told_listed r)) where
      pub unite_next : (l : Instantiables) → r ≡ Ok l → Uniting counts (behind m lists) rows₀ rows' l.count (i + 1) o
      unite_next l u =
          record {
            walk = walk_next counts lists i f.walk h m e;
            grow = grow_next rows₀ rows n _ o f.grow rows' _ (told_listed r) g _ turn l.count (ap told_listed u);
          }

      pub unite_over : (why : Refusal) → r ≡ Err why → Listing o rows₀ rows' (told_listed r)
      unite_over why u = grow_over rows₀ rows n _ o f.grow rows' _ (told_listed r) g _ turn (number_of why.reason) why.place (ap told_listed u)

pub ruleset uniting = (unite_start, unite_stands, unite_done, unite_room, unite_next, unite_over)
