-- AND: each term more is joined to the list so far, and every prefix is held to the limits.
use Prim.Native.Nat.{ℕ, ◌+◌, ◌-◌, ◌*◌, ◌≤◌, ◌<◌}
use mathlib.Core.Path.{◌≡◌, refl, sym, ap, ◌∙◌}
use mathlib.Core.List.{List, [], ◌∷◌, ◌++◌}
use native.Mathlib.Omega.{arith}
use lib.ListN.{length, get_or, take, drop, length-append, length-drop}
use lib.Seq.{length-take-le}
use Rattle.refusal.specs.MeaningAnswer.{Answer, done, refused, ◌>>=◌}
use Rattle.std.specs.Prelude.{Result, Ok, Err}
use Rattle.refusal.specs.Told.{number_of, told_refusal}
use Rattle.refusal.specs.declared.Reason.TheVariants.{TooFewTerms}
use Rattle.refusal.specs.declared.Refusal.{Refusal}
use Rattle.complex_entity.specs.MeaningRising.{here, there}
use Rattle.complex_entity.specs.MeaningParts.{Part}
use Rattle.complex_entity.specs.MeaningLists.{joins, bitand, held, prefixes, and_of}
use Rattle.complex_entity.proofs.Sets.{tidy_old, tidy_rising}
use Rattle.complex_entity.proofs.Orders.{part_order}
use Rattle.complex_entity.proofs.Members.{joined, joins_old, join_rising}
use Rattle.complex_entity.proofs.Limits.{held_done}
use Rattle.instantiables.specs.declared.Instantiables.{Instantiables}
use Rattle.rows.specs.MirrorRows.{parts_at, Stands}
use Rattle.instantiables.specs.MirrorRows.{lists_at, sum, Sets, AllSets, Listing}
use Rattle.instantiables.specs.Told.{told_listed}
use Rattle.rows.proofs.Flats.{parts_length}
use Rattle.instantiables.proofs.Listings.{tail_is, stands_put, put_parts, put_stands, Got, listing_got, listing_over, listing_refused, listing_done}
use Rattle.instantiables.proofs.Factors.{copied, copied_room, copied_sets}
use Rattle.several.proofs.Walks.{Walking, rest, behind, walk_start, walk_done, walk_first, walk_next, walk_room}

pub bitand_sets : (L K : List Part) → Sets (bitand L K)
bitand_sets L K q m = elim (joins_old L K (tidy_old part_order (joins L K) m)) [ joined {p = a} {q = b} i j e ↦ rw e (join_rising a b) ]

-- ---- one term K more, by a call
module _ (L K : List Part) (Ks : List (List Part)) (o : Answer (List Part)) (w : prefixes L (K ∷ Ks) ≡ o) (rows rows' : List ℕ) (r : Result Instantiables Refusal) (g : Listing (held (bitand L K)) rows rows' (told_listed r)) where
  pub term_over : (why : Refusal) → r ≡ Err why → Listing o rows' rows' (told_listed r)
  unfolding prefixes
  term_over why u =
      let x = listing_over (bitand L K) rows rows' (told_listed r) g (number_of why.reason) why.place (ap told_listed u) in
      let z : o ≡ refused 11 0 = sym w ∙ ap (λ (a : Answer (List Part)). a >>= λ J. prefixes J Ks) x.0 in
      rw x.1 (listing_refused o rows' rows' 11 0 z)

  module _ (l : Instantiables) (u : r ≡ Ok l) where
    got : Got (bitand L K) rows rows' l.count
    got = listing_got (bitand L K) rows rows' (told_listed r) g l.count (ap told_listed u)

    parts : parts_at l.count rows' ≡ bitand L K
    parts = rw (← got.count) (put_parts (bitand L K) rows rows' got.slim got.put)

    pub term_stands : 1664 ≤ length rows → Stands rows' l.count
    term_stands h = rw (← got.count) (put_stands (bitand L K) rows rows' got.slim got.put got.small h (tidy_rising part_order (joins L K)))

    pub term_sets : Sets (parts_at l.count rows')
    term_sets = rw parts (bitand_sets L K)

    pub term_next : prefixes (parts_at l.count rows') Ks ≡ o
    unfolding prefixes
    term_next =
        rw parts (sym (ap (λ (a : Answer (List Part)). a >>= λ J. prefixes J Ks) (held_done (bitand L K) got.small got.slim)) ∙ w)

-- ---- the loop of `and_more`
pub record Prefixing (counts lists rows scratch : List ℕ) (n i : ℕ) (o : Answer (List Part)) : Type 0 where
  pub walk : Walking counts lists i
  pub spare : 1664 ≤ length scratch
  pub stands : Stands rows n
  pub sets : Sets (parts_at n rows)
  pub terms : AllSets (rest counts lists i)
  pub whole : prefixes (parts_at n rows) (rest counts lists i) ≡ o

pub prefix_start : (counts lists rows scratch : List ℕ) (n : ℕ) → Stands rows n → 1664 ≤ length scratch → 13 * sum counts ≤ length lists → Sets (parts_at n rows) → AllSets (lists_at counts lists)
    → Prefixing counts lists rows scratch n 0 (prefixes (parts_at n rows) (lists_at counts lists))
prefix_start counts lists rows scratch n h k w s t = record { walk = walk_start counts lists w; spare = k; stands = h; sets = s; terms = t; whole = refl }

module _ (counts lists rows scratch : List ℕ) (n i : ℕ) (o : Answer (List Part)) (f : Prefixing counts lists rows scratch n i o) where
  pub prefix_done : length counts ≤ i → Listing o rows rows (done n)
  unfolding prefixes
  prefix_done h =
      listing_done o (parts_at n rows) rows rows n
      (sym f.whole ∙ ap (prefixes (parts_at n rows)) (walk_done counts lists i f.walk h)) (parts_length n rows) (stands_put rows rows n f.stands refl)

  module _ (h : i < length counts) (k : ℕ) (ek : k ≡ get_or counts i 0) where
    pub prefix_room : 13 * k ≤ length lists
    prefix_room = walk_room counts lists i f.walk h k ek

    pub prefix_term : Sets (parts_at k lists)
    prefix_term = f.terms _ (rw (walk_first counts lists i f.walk h k ek) (here refl))

    -- the list so far was copied
    module _ (scratch' : List ℕ) (e : scratch' ≡ take (13 * n) rows ++ drop (13 * n) scratch) where
      pub prefix_copied : 13 * n ≤ length scratch'
      prefix_copied = copied_room rows scratch' scratch n f.stands e

      pub prefix_sets : Sets (parts_at n scratch')
      prefix_sets = copied_sets rows scratch' scratch n f.stands e f.sets

      kept : length scratch' ≡ length scratch
      kept =
          let a : length (take (13 * n) rows) ≡ 13 * n = length-take-le (13 * n) rows (omega (arith, f.stands.small, f.stands.room)) in
          omega (arith, ap length e, length-append (take (13 * n) rows) (drop (13 * n) scratch), a, length-drop (13 * n) scratch, f.spare, f.stands.small)

      module _ (rows' : List ℕ) (r : Result Instantiables Refusal)
          (g : Listing (held (bitand (parts_at n scratch') (parts_at k lists))) rows rows' (told_listed r)) where
        T : List Part
        T = parts_at k lists

        Ts : List (List Part)
        Ts = rest counts (behind k lists) (i + 1)

        turn : prefixes (parts_at n scratch') (T ∷ Ts) ≡ o
        unfolding T Ts
        turn = rw (copied rows scratch' scratch n f.stands e) (sym (ap (prefixes (parts_at n rows)) (walk_first counts lists i f.walk h k ek)) ∙ f.whole)

        pub prefix_over : (why : Refusal) → r ≡ Err why → Listing o rows' rows' (told_listed r)
        unfolding T
        prefix_over why u = term_over (parts_at n scratch') T Ts o turn rows rows' r g why u

        pub prefix_next : (l : Instantiables) → r ≡ Ok l → Prefixing counts (behind k lists) rows' scratch' l.count (i + 1) o
        unfolding T Ts
        prefix_next l u =
            record {
              walk = walk_next counts lists i f.walk h k ek;
              spare = omega (arith, kept, f.spare);
              stands = term_stands (parts_at n scratch') T Ts o turn rows rows' r g l u f.stands.room;
              sets = term_sets (parts_at n scratch') T Ts o turn rows rows' r g l u;
              terms = λ K m. f.terms K (rw (walk_first counts lists i f.walk h k ek) (there m));
              whole = term_next (parts_at n scratch') T Ts o turn rows rows' r g l u;
            }

pub ruleset prefixing = (prefix_start, prefix_done, prefix_room, prefix_term, prefix_copied, prefix_sets, prefix_next, prefix_over)

-- ---- the first two terms
pub and_few : (counts lists rows : List ℕ) (w : Refusal) → length counts < 2 → w ≡ record { reason = TooFewTerms; place = 0 }
    → Listing (and_of (lists_at counts lists)) rows rows (told_refusal w)
unfolding and_of lists_at
and_few [] lists rows r h e = rw e (record { says = refl; stands = tt })
and_few (a ∷ []) lists rows r h e = rw e (record { says = refl; stands = tt })
and_few (a ∷ b ∷ counts) lists rows r h e = absurd (omega arith)

sum_two : (counts : List ℕ) → 2 ≤ length counts → sum counts ≡ get_or counts 0 0 + (get_or counts 1 0 + sum (drop 2 counts))
unfolding sum
sum_two [] h = absurd (omega arith)
sum_two (a ∷ []) h = absurd (omega arith)
sum_two (a ∷ b ∷ counts) h = refl

lists_two : (counts lists : List ℕ) → 2 ≤ length counts
    → lists_at counts lists ≡ parts_at (get_or counts 0 0) lists ∷ parts_at (get_or counts 1 0) (drop (13 * get_or counts 0 0) lists) ∷ lists_at (drop 2 counts) (drop (13 * get_or counts 1 0) (drop (13 * get_or counts 0 0) lists))
unfolding lists_at
lists_two [] lists h = absurd (omega arith)
lists_two (a ∷ []) lists h = absurd (omega arith)
lists_two (a ∷ b ∷ counts) lists h = refl

-- a rows are the first list's, and b the second's
module _ (counts lists : List ℕ) (a b : ℕ) (ea : a ≡ get_or counts 0 0) (eb : b ≡ get_or counts 1 0) (h : 2 ≤ length counts) where
  module _ (k : 13 * sum counts ≤ length lists) where
    total : 13 * a + 13 * b + 13 * sum (drop 2 counts) ≤ length lists
    total = omega (arith, sum_two counts h)

    pub and_first : 13 * a ≤ length lists
    and_first = omega (arith, total)

    pub and_second : 13 * b ≤ length (behind a lists)
    and_second = rw (tail_is lists (13 * a), length-drop (13 * a) lists) (omega (arith, total))

    pub and_further : 13 * sum (take (length counts - 2) (drop 2 counts)) ≤ length (behind b (behind a lists))
    and_further =
        rw (tail_is counts 2, tail_is lists (13 * a), tail_is (drop (13 * a) lists) (13 * b), length-drop (13 * b) (drop (13 * a) lists), length-drop (13 * a) lists)
        (omega (arith, total))

  abbrev one : List Part
  one = parts_at a lists

  abbrev two : List Part
  two = parts_at b (behind a lists)

  abbrev others : List (List Part)
  others = lists_at (take (length counts - 2) (drop 2 counts)) (behind b (behind a lists))

  terms_are : lists_at counts lists ≡ one ∷ two ∷ others
  terms_are = rw (tail_is counts 2, tail_is lists (13 * a), tail_is (drop (13 * a) lists) (13 * b), ea, eb) (lists_two counts lists h)

  module _ (s : AllSets (lists_at counts lists)) where
    pub and_first_sets : Sets (parts_at a lists)
    and_first_sets = s one (rw terms_are (here refl))

    pub and_second_sets : Sets (parts_at b (behind a lists))
    and_second_sets = s two (rw terms_are (there (here refl)))

    pub and_further_sets : AllSets others
    and_further_sets = λ K m. s K (rw terms_are (there (there m)))

  start : prefixes one (two ∷ others) ≡ and_of (lists_at counts lists)
  unfolding and_of
  start = sym (ap and_of terms_are)

  module _ (rows rows' : List ℕ) (r : Result Instantiables Refusal) (g : Listing (held (bitand one two)) rows rows' (told_listed r)) where
    pub and_over : (why : Refusal) → r ≡ Err why → Listing (and_of (lists_at counts lists)) rows' rows' (told_listed r)
    and_over why u = term_over one two others _ start rows rows' r g why u

    module _ (l : Instantiables) (u : r ≡ Ok l) where
      pub and_stands : 1664 ≤ length rows → Stands rows' l.count
      and_stands k = term_stands one two others _ start rows rows' r g l u k

      pub and_sets : Sets (parts_at l.count rows')
      and_sets = term_sets one two others _ start rows rows' r g l u

      pub and_done : (rows'' : List ℕ) (t : Answer ℕ) → Listing (prefixes (parts_at l.count rows') others) rows'' rows'' t → Listing (and_of (lists_at counts lists)) rows'' rows'' t
      and_done rows'' t x = rw (← term_next one two others _ start rows rows' r g l u) x

pub ruleset anding = (and_few, and_first, and_second, and_further, and_first_sets, and_second_sets, and_further_sets, and_over, and_stands, and_sets, and_done)
