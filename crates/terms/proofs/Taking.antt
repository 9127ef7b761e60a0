-- One term more is taken in, by the node's kind; and the end of a node. What stands in the lent memory then.
use mathlib.Core.Path.{◌≡◌, refl, sym, ap, ◌∙◌}
use mathlib.Core.List.{List, ◌++◌}
use Prim.Native.Nat.{ℕ, zero, suc, ◌-◌, ◌*◌, ◌≤◌, ◌<◌}
use native.Mathlib.Omega.{arith}
use lib.ListN.{length, take, drop, length-drop}
use lib.Seq.{take_all, take_at}
use borrow.Author.Tests.{le-leb, lt-leb}
use Rattle.refusal.specs.MeaningAnswer.{Answer, done, refused}
use Rattle.refusal.specs.declared.Refusal.{Refusal}
use Rattle.complex_entity.specs.MeaningParts.{Part}
use Rattle.complex_entity.specs.MeaningLists.{add, bitand, held}
use Rattle.complex_entity.specs.MeaningRows as rows
use Rattle.complex_entity.specs.MirrorLists.{grown}
use Rattle.complex_entity.proofs.Limits.{Narrow, Held, is_held, is_over, held_view}
use Rattle.std.specs.Prelude.{Result, Ok, Err}
use Rattle.refusal.specs.declared.Reason.TheVariants.{TooFewTerms, TooManyFactors}
use Rattle.refusal.specs.Told.{told_refusal}
use Rattle.expression.specs.declared.Kind.{Kind}
use Rattle.expression.specs.declared.Kind.TheVariants.{Reference, Andor, And, Oneof}
use Rattle.instantiables.specs.declared.Instantiables.{Instantiables}
use Rattle.rows.specs.MirrorRows.{parts_at, Stands, Put}
use Rattle.instantiables.specs.MirrorRows.{Sets, PutIf, Listing}
use Rattle.instantiables.specs.Told.{told_listed}
use Rattle.rows.proofs.Flats.{parts_length, parts_narrow, flat_length}
use Rattle.instantiables.proofs.Factors.{copied, copied_room}
use Rattle.terms.specs.MirrorValues.{Front, FrontIf, Valuing, list_at, Ready, taken_in, with_term, fewest, refusal_of, unless}

-- ---- the list so far
module _ (list : Result Instantiables Refusal) (own : Instantiables) (l : List ℕ) (e : list ≡ Ok own) where
  pub own_is : list_at list l ≡ done (parts_at own.count l)
  own_is = rw e

  module _ (f : Ready list l) where
    both : Stands l own.count × Sets (parts_at own.count l)
    unfolding Ready
    both = rw e at f

    pub own_stands : Stands l own.count
    own_stands = both.0

    pub own_sets : Sets (parts_at own.count l)
    own_sets = both.1

    pub own_small : own.count ≤ 128
    own_small = both.0.small

    pub own_fits : (old : List ℕ) → 1664 ≤ length old → 13 * own.count ≤ length old
    own_fits old h = omega (arith, own_small)

    pub own_room : 13 * own.count ≤ length l
    own_room = own_fits l both.0.room

-- ---- what an operator put into the slice stands at the front
pub put_front : (L : List Part) (before after : List ℕ) → Narrow L → Put L before after → Front L after
put_front L before after n p = ap (take (13 * length L)) p ∙ take_at (rows.flat L) (drop (13 * length L) before) (13 * length L) (flat_length L n)

listing_valuing : (L : List Part) (before after : List ℕ) (r : Answer ℕ) → Listing (held L) before after r → Valuing (held L) after r
listing_valuing L before after r f = record { says = f.says; stands = go (held_view L) f.stands }
  where
    go : {o : Answer (List Part)} → Held L o → PutIf o before after → FrontIf o after
    go (is_held h n) p = put_front L before after n p
    go (is_over h) p = tt

-- what is neither AND nor ANDOR adds
added : (kind : Kind) (n : ℕ) → (kind ≡ Andor → ⊥) → (kind ≡ And → ⊥) → (K L : List Part) → taken_in kind n K L ≡ held (add K L)
unfolding taken_in
added Reference n a b K L = refl
added Andor n a b K L = absurd (a refl)
added And n a b K L = absurd (b refl)
added Oneof n a b K L = refl

-- ---- the term's list, above the node's own, and copied out
pub above : (l : List ℕ) (m : ℕ) → Stands (drop 1664 l) m → 3328 ≤ length l
above l m h = omega (arith, h.room, length-drop 1664 l)

whole : (l : List ℕ) → take (length l - 1664) (drop 1664 l) ≡ drop 1664 l
whole l = take_all (length l - 1664) (drop 1664 l) (omega (arith, length-drop 1664 l))

pub above_fits : (l : List ℕ) (m : ℕ) → Stands (drop 1664 l) m → 13 * m ≤ length l
above_fits l m h = omega (arith, h.small, above l m h)

pub above_room : (l : List ℕ) (m : ℕ) → Stands (drop 1664 l) m → 13 * m ≤ length (take (length l - 1664) (drop 1664 l))
above_room l m h = rw (whole l) (omega (arith, h.small, h.room))

module _ (l factor factor' : List ℕ) (m : ℕ) (h : Stands (drop 1664 l) m) (e : factor' ≡ take (13 * m) (take (length l - 1664) (drop 1664 l)) ++ drop (13 * m) factor) where
  out : factor' ≡ take (13 * m) (drop 1664 l) ++ drop (13 * m) factor
  out = e ∙ ap (λ (x : List ℕ). take (13 * m) x ++ drop (13 * m) factor) (whole l)

  term_parts : parts_at m factor' ≡ parts_at m (drop 1664 l)
  term_parts = copied (drop 1664 l) factor' factor m h out

  pub term_room : 13 * m ≤ length factor'
  term_room = copied_room (drop 1664 l) factor' factor m h out

  pub term_sets : Sets (parts_at m (drop 1664 l)) → Sets (parts_at m factor')
  term_sets s = rw term_parts s

  module _ (kind : Kind) (n : ℕ) (list : Result Instantiables Refusal) (own : Instantiables) (k : list ≡ Ok own) where
    with_is : (x : Answer (List Part)) → taken_in kind n (parts_at own.count l) (parts_at m (drop 1664 l)) ≡ x → with_term kind n (list_at list l) (parts_at m (drop 1664 l)) ≡ x
    unfolding with_term
    with_is x t = rw (own_is list own l k) t

    module _ (l' : List ℕ) (r : Result Instantiables Refusal) where
      pub taken_andor : kind ≡ Andor → Listing (held (grown (parts_at own.count l) (parts_at m factor'))) l l' (told_listed r)
          → Valuing (with_term kind n (list_at list l) (parts_at m (drop 1664 l))) l' (told_listed r)
      unfolding taken_in
      taken_andor a g =
          rw (with_is (held (grown (parts_at own.count l) (parts_at m (drop 1664 l)))) (rw a))
          (listing_valuing _ l l' (told_listed r) (rw term_parts at g))

      pub taken_oneof : (kind ≡ Andor → ⊥) → (kind ≡ And → ⊥) → Listing (held (add (parts_at own.count l) (parts_at m factor'))) l l' (told_listed r)
          → Valuing (with_term kind n (list_at list l) (parts_at m (drop 1664 l))) l' (told_listed r)
      unfolding taken_in
      taken_oneof a b g =
          rw (with_is (held (add (parts_at own.count l) (parts_at m (drop 1664 l)))) (added kind n a b (parts_at own.count l) (parts_at m (drop 1664 l))))
          (listing_valuing _ l l' (told_listed r) (rw term_parts at g))

      -- the list so far was copied out as well
      module _ (old old' : List ℕ) (f : Ready list l) (d : old' ≡ take (13 * own.count) l ++ drop (13 * own.count) old) where
        old_parts : parts_at own.count old' ≡ parts_at own.count l
        old_parts = copied l old' old own.count (own_stands list own l k f) d

        pub taken_and : kind ≡ And → (n ≡ 0 → ⊥) → Listing (held (bitand (parts_at own.count old') (parts_at m factor'))) l l' (told_listed r)
            → Valuing (with_term kind n (list_at list l) (parts_at m (drop 1664 l))) l' (told_listed r)
        unfolding taken_in
        taken_and a z g =
            rw (with_is (held (bitand (parts_at own.count l) (parts_at m (drop 1664 l)))) (rw a (later n z)))
            (listing_valuing _ l l' (told_listed r) (rw (term_parts, old_parts) at g))
          where
            later : (n : ℕ) → (n ≡ 0 → ⊥) → taken_in And n (parts_at own.count l) (parts_at m (drop 1664 l)) ≡ held (bitand (parts_at own.count l) (parts_at m (drop 1664 l)))
            later zero z = absurd (z refl)
            later (suc n) z = refl

    -- the first term of an AND
    pub taken_first : (l' : List ℕ) → kind ≡ And → n ≡ 0 → l' ≡ take (13 * m) factor' ++ drop (13 * m) l → Valuing (with_term kind n (list_at list l) (parts_at m (drop 1664 l))) l' (done m)
    unfolding taken_in
    taken_first l' a z d =
        let L = parts_at m (drop 1664 l) in
        let c : length L ≡ m = parts_length m (drop 1664 l) in
        let k : length (rows.flat L) ≡ 13 * m = flat_length L (parts_narrow m (drop 1664 l)) ∙ rw c in
        let x : take (13 * m) factor' ≡ rows.flat L = ap (take (13 * m)) (out ∙ ap (λ (y : List ℕ). y ++ drop (13 * m) factor) h.clean) ∙ take_at (rows.flat L) (drop (13 * m) factor) (13 * m) k in
        rw (with_is (done L) (rw (a, z)))
        (record { says = ap (λ (j : ℕ). done j) (sym c); stands = rw c (ap (take (13 * m)) (d ∙ ap (λ (y : List ℕ). y ++ drop (13 * m) l) x) ∙ take_at (rows.flat L) (drop (13 * m) l) (13 * m) k) })

-- a limit was passed before
pub taken_not : (kind : Kind) (n : ℕ) (list : Result Instantiables Refusal) (l : List ℕ) (L : List Part) (why : Refusal) → list ≡ Err why → (r : Result Instantiables Refusal) → r ≡ Err why → Valuing (with_term kind n (list_at list l) L) l (told_listed r)
unfolding with_term
taken_not kind n list l L why e r i = rw (e, i) (record { says = refl; stands = tt })

pub ruleset taking = (own_stands, own_sets, own_fits, own_room, above_fits, above_room, term_room, term_sets, taken_andor, taken_oneof, taken_and, taken_first)

-- ---- the end of a node
module _ (kind : Kind) (n : ℕ) (x : Answer ℕ) where
  pub too_few : n < fewest kind → (why : Refusal) → why ≡ record { reason = TooFewTerms; place = 0 } → told_refusal why ≡ unless (refusal_of kind n) x
  unfolding refusal_of
  too_few h why e = rw e (go kind n h)
    where
      go : (kind : Kind) (n : ℕ) → n < fewest kind → refused 9 0 ≡ unless (refusal_of kind n) x
      go Reference n h = absurd (omega arith)
      go Andor zero h = refl
      go Andor (suc n) h = absurd (omega arith)
      go And zero h = refl
      go And (suc zero) h = refl
      go And (suc (suc n)) h = absurd (omega arith)
      go Oneof n h = absurd (omega arith)

  pub too_many : kind ≡ Andor → 12 < n → (why : Refusal) → why ≡ record { reason = TooManyFactors; place = 0 } → told_refusal why ≡ unless (refusal_of kind n) x
  unfolding refusal_of
  too_many a h why e = rw (e, a) (go n h)
    where
      go : (n : ℕ) → 12 < n → refused 10 0 ≡ unless (refusal_of Andor n) x
      go zero h = absurd (omega arith)
      go (suc n) h = rw (lt-leb (suc n) 12 h)

  pub enough : fewest kind ≤ n → (kind ≡ Andor → n ≤ 12) → x ≡ unless (refusal_of kind n) x
  unfolding refusal_of
  enough h f = go kind n h f
    where
      go : (kind : Kind) (n : ℕ) → fewest kind ≤ n → (kind ≡ Andor → n ≤ 12) → x ≡ unless (refusal_of kind n) x
      go Reference n h f = refl
      go Oneof n h f = refl
      go Andor zero h f = absurd (omega arith)
      go Andor (suc n) h f = rw (le-leb (suc n) 12 (f refl))
      go And zero h f = absurd (omega arith)
      go And (suc zero) h f = absurd (omega arith)
      go And (suc (suc n)) h f = refl
