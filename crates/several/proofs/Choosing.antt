-- ANDOR: a factor more at a time makes what every nonempty choice of factors makes.
use Prim.Native.Nat.{ℕ, suc, ◌+◌, ◌*◌, ◌≤◌, ◌<◌}
use mathlib.Core.Path.{◌≡◌, refl, sym, ap, ◌∙◌}
use mathlib.Core.Logic.{inl, inr}
use mathlib.Core.List.{List, [], ◌∷◌, ◌++◌}
use native.Mathlib.Omega.{arith}
use native.Mathlib.Nat.{pos_of_ne-zero}
use lib.ListN.{length, get_or, drop}
use lib.Dec.{leb, leb→le, le→leb}
use Rattle.refusal.specs.MeaningAnswer.{Answer, done, refused}
use Rattle.std.specs.Prelude.{Result, Ok, Err}
use Rattle.refusal.specs.Told.{number_of, told_refusal}
use Rattle.refusal.specs.declared.Reason.TheVariants.{TooFewTerms, TooManyFactors}
use Rattle.refusal.specs.declared.Refusal.{Refusal}
use Rattle.complex_entity.specs.MeaningRising.{here, there, Rising}
use Rattle.complex_entity.specs.MeaningParts.{Part, order}
use Rattle.complex_entity.specs.MeaningLists.{joins, held, andor, andor_of}
use Rattle.complex_entity.specs.MirrorLists.{grown, andor_from}
use Rattle.complex_entity.proofs.Sets.{not_in_nil}
use Rattle.complex_entity.proofs.Members.{∈_append_cases, add_old, joined, joins_old, join_rising}
use Rattle.complex_entity.proofs.Limits.{or_else_yes, or_else_no, held_less}
use Rattle.complex_entity.proofs.Choices.{grown_rising, andor_from_rising, andor_from_more, andor_steps}
use Rattle.instantiables.specs.declared.Instantiables.{Instantiables}
use Rattle.rows.specs.MirrorRows.{parts_at, Stands}
use Rattle.instantiables.specs.MirrorRows.{lists_at, sum, Sets, AllSets, Listing}
use Rattle.instantiables.specs.Told.{told_listed}
use Rattle.rows.proofs.Flats.{parts_length}
use Rattle.instantiables.proofs.Listings.{stands_empty, Front, front_start, front_next, front_parts, listing_over, listing_refused, listing_same}
use Rattle.instantiables.proofs.Growing.{add_longer}
use Rattle.several.proofs.Walks.{Walking, rest, behind, walk_start, walk_done, walk_first, walk_next, walk_room}

-- ---- a factor more
grown_sets : (L T : List Part) → Sets L → Sets T → Sets (grown L T)
unfolding grown
grown_sets L T s t q m = elim (add_old L (joins L T ++ T) m) [
  | inl i ↦ s q i
  | inr n ↦ elim (∈_append_cases (joins L T) T n) [ inl j ↦ elim (joins_old L T j) [ joined {p = a} {q = b} x y e ↦ rw e (join_rising a b) ] | inr k ↦ t q k ]
]

grown_longer : (L T : List Part) → Rising order L → length L ≤ length (grown L T)
unfolding grown
grown_longer L T R = add_longer L (joins L T ++ T) R

-- ---- no factor, and too many
lists_length : (counts lists : List ℕ) → length (lists_at counts lists) ≡ length counts
unfolding lists_at
lists_length [] lists = refl
lists_length (n ∷ counts) lists = ap suc (lists_length counts (drop (13 * n) lists))

pub andor_none : (counts lists rows : List ℕ) (w : Refusal) → length counts ≡ 0 → w ≡ record { reason = TooFewTerms; place = 0 }
    → Listing (andor_of (lists_at counts lists)) rows rows (told_refusal w)
unfolding andor_of lists_at
andor_none [] lists rows r h e = rw e (record { says = refl; stands = tt })
andor_none (a ∷ counts) lists rows r h e = absurd (omega arith)

-- of some factors the answer is that of the ANDOR, unless they are over 12
andor_some : (Ls : List (List Part)) → 0 < length Ls → length Ls ≤ 12 → andor_of Ls ≡ held (andor Ls)
unfolding andor_of
andor_some [] h k = absurd (omega arith)
andor_some (L ∷ Ls) h k = or_else_yes 10 (held (andor (L ∷ Ls))) (leb (length (L ∷ Ls)) 12) (le→leb _ _ k)

andor_over : (Ls : List (List Part)) → 12 < length Ls → andor_of Ls ≡ refused 10 0
unfolding andor_of
andor_over [] h = absurd (omega arith)
andor_over (L ∷ Ls) h = or_else_no 10 (held (andor (L ∷ Ls))) (leb (length (L ∷ Ls)) 12) (λ t. omega (arith, leb→le (length (L ∷ Ls)) 12 t))

pub andor_many : (counts lists rows : List ℕ) (w : Refusal) → 12 < length counts → w ≡ record { reason = TooManyFactors; place = 0 }
    → Listing (andor_of (lists_at counts lists)) rows rows (told_refusal w)
andor_many counts lists rows r h e =
    rw e (listing_refused _ rows rows 10 0 (andor_over (lists_at counts lists) (rw (lists_length counts lists) h)))

-- ---- the loop
pub record Choosing (counts lists rows₀ rows scratch : List ℕ) (n i : ℕ) (o : Answer (List Part)) : Type 0 where
  pub walk : Walking counts lists i
  pub spare : 1664 ≤ length scratch
  pub front : Front rows₀ rows n
  pub sets : Sets (parts_at n rows)
  pub factors : AllSets (rest counts lists i)
  pub whole : held (andor_from (parts_at n rows) (rest counts lists i)) ≡ o

pub choose_start : (counts lists rows scratch : List ℕ) (l : Instantiables) → l ≡ record { count = 0 } → 1664 ≤ length rows → 1664 ≤ length scratch → 13 * sum counts ≤ length lists
    → AllSets (lists_at counts lists) → (length counts ≡ 0 → ⊥) → length counts ≤ 12
    → Choosing counts lists rows rows scratch l.count 0 (andor_of (lists_at counts lists))
unfolding parts_at
choose_start counts lists rows scratch l e h k w s a b =
    let n : length (lists_at counts lists) ≡ length counts = lists_length counts lists in
    rw e
    (record {
      walk = walk_start counts lists w;
      spare = k;
      front = front_start rows 0 (stands_empty rows h);
      sets = λ q m. absurd (not_in_nil m);
      factors = s;
      whole = ap held (andor_steps (lists_at counts lists)) ∙ sym (andor_some (lists_at counts lists) (rw n (pos_of_ne-zero a)) (omega arith));
    })

module _ (counts lists rows₀ rows scratch : List ℕ) (n i : ℕ) (o : Answer (List Part)) (f : Choosing counts lists rows₀ rows scratch n i o) where
  pub choose_stands : Stands rows n
  choose_stands = f.front.stands

  pub choose_sets : Sets (parts_at n rows)
  choose_sets = f.sets

  pub choose_done : length counts ≤ i → Listing o rows₀ rows (done n)
  unfolding andor_from
  choose_done h =
      listing_same o rows₀ rows n (sym f.whole ∙ ap (λ (t : List (List Part)). held (andor_from (parts_at n rows) t)) (walk_done counts lists i f.walk h))
      f.front.stands f.front.past

  module _ (h : i < length counts) (k : ℕ) (ek : k ≡ get_or counts i 0) where
    T : List Part
    T = parts_at k lists

    Ts : List (List Part)
    Ts = rest counts (behind k lists) (i + 1)

    first : rest counts lists i ≡ T ∷ Ts
    unfolding T Ts
    first = walk_first counts lists i f.walk h k ek

    turn : held (andor_from (grown (parts_at n rows) T) Ts) ≡ o
    unfolding andor_from
    turn = sym (ap (λ (t : List (List Part)). held (andor_from (parts_at n rows) t)) first) ∙ f.whole

    pub choose_room : 13 * k ≤ length lists
    choose_room = walk_room counts lists i f.walk h k ek

    pub choose_factor : Sets (parts_at k lists)
    unfolding T
    choose_factor = f.factors T (rw first (here refl))

    module _ (rows' : List ℕ) (r : Result Instantiables Refusal) (g : Listing (held (grown (parts_at n rows) (parts_at k lists))) rows rows' (told_listed r)) where
      G : List Part
      G = grown (parts_at n rows) T

      longer : n ≤ length G
      unfolding G
      longer = omega (arith, grown_longer (parts_at n rows) T f.front.stands.ordered, parts_length n rows)

      pub choose_over : (why : Refusal) → r ≡ Err why → Listing o rows₀ rows' (told_listed r)
      unfolding T G
      choose_over why u =
          let x = listing_over G rows rows' (told_listed r) g (number_of why.reason) why.place (ap told_listed u) in
          let R : Rising order G = grown_rising (parts_at n rows) T in
          let z : held (andor_from G Ts) ≡ refused 11 0 = held_less G (andor_from G Ts) R (andor_from_rising Ts R) (andor_from_more G Ts) x.0 in
          rw x.1 (listing_refused o rows₀ rows' 11 0 (sym turn ∙ z))

      pub choose_next : (scratch' : List ℕ) (l : Instantiables) → r ≡ Ok l → length scratch' ≡ length scratch
          → Choosing counts (behind k lists) rows₀ rows' scratch' l.count (i + 1) o
      unfolding T G Ts
      choose_next scratch' l u m =
          let R : Rising order G = grown_rising (parts_at n rows) T in
          let p : parts_at l.count rows' ≡ G = front_parts rows₀ rows rows' n f.front G R longer (told_listed r) g l.count (ap told_listed u) in
          record {
            walk = walk_next counts lists i f.walk h k ek;
            spare = omega (arith, f.spare);
            front = front_next rows₀ rows rows' n f.front G R longer (told_listed r) g l.count (ap told_listed u);
            sets = rw p (grown_sets (parts_at n rows) T f.sets choose_factor);
            factors = λ K m. f.factors K (rw first (there m));
            whole = ap (λ (t : List Part). held (andor_from t Ts)) p ∙ turn;
          }

pub ruleset choosing = (andor_none, andor_many, choose_start, choose_stands, choose_sets, choose_done, choose_room, choose_factor, choose_over, choose_next)
