-- Taking in the terms' lists one by one gives the list at the node, with its refusals; and every list that is valued is a good one.
use mathlib.Core.Path.{◌≡◌, refl, sym, ap, ◌∙◌}
use mathlib.Core.Logic.{inl, inr}
use mathlib.Core.List.{List, [], ◌∷◌, ◌++◌, flatten}
use mathlib.Core.Bool.{Bool, true, false, cond}
use mathlib.Core.Option.{Option, none, some}
use Prim.Native.Nat.{ℕ, zero, suc, ◌+◌, ◌≤◌, compare}
use native.Mathlib.Omega.{arith}
use lib.ListN.{length}
use lib.Dec.{leb}
use Rattle.refusal.specs.MeaningAnswer.{Answer, done, refused, or_else, ◌>>=◌}
use Rattle.complex_entity.specs.MeaningRising.{◌∈◌, here, there, Rising, empty, next}
use Rattle.complex_entity.specs.MeaningParts.{Part, order, single}
use Rattle.complex_entity.specs.MeaningLists.{add, joins, bitand, held, prefixes, most_factors, oneof_of, and_of, andor_of}
use Rattle.complex_entity.specs.MirrorLists.{grown, andor_from}
use Rattle.complex_entity.proofs.Sets.{not_in_nil, tidy_old, tidy_rising}
use Rattle.complex_entity.proofs.Orders.{part_order}
use Rattle.complex_entity.proofs.Members.{∈_append_cases, add_old, add_rising, add_nil, add_steps, join_rising, joined, joins_old}
use Rattle.complex_entity.proofs.Limits.{Narrow, Held, is_held, is_over, held_view, held_done, held_grows, held_less}
use Rattle.complex_entity.proofs.Choices.{grown_rising, andor_from_rising, andor_from_more, andor_steps}
use Rattle.instantiables.specs.MirrorRows.{Sets}
use Rattle.expression.specs.MeaningExpression.{Expr, reference, andor, «and», oneof, Terms, end, ◌then◌, eval, values}
use Rattle.expression.specs.declared.Kind.{Kind}
use Rattle.expression.specs.declared.Kind.TheVariants.{Reference, Andor, And, Oneof}
use Rattle.terms.specs.MirrorValues.{at_node, taken_in, refusal_of, unless}

-- ---- the lists of n terms are taken in: those of the others follow
unfoldable pub folded : Kind → ℕ → Answer (List Part) → List (List Part) → Answer (List Part)
folded kind n o [] = unless (refusal_of kind n) o
folded kind n o (L ∷ Ls) = folded kind (suc n) (o >>= λ K. taken_in kind n K L) Ls

-- ---- a limit that was passed
folded_over : (kind : Kind) (n : ℕ) (Ls : List (List Part)) → folded kind n (refused 11 0) Ls ≡ unless (refusal_of kind (n + length Ls)) (refused 11 0)
unfolding folded
folded_over kind n [] = let e : n + 0 ≡ n = omega arith in rw e
folded_over kind n (L ∷ Ls) = let e : suc n + length Ls ≡ n + length (L ∷ Ls) = omega arith in folded_over kind (suc n) Ls ∙ rw e

-- ---- each kind: what comes out of the list so far and the lists that follow
pub record Way (kind : Kind) (from : ℕ) (Fit : List Part → Type 0) (rest : List Part → List (List Part) → Answer (List Part)) : Type 0 where
  pub ended : (K : List Part) → Fit K → rest K [] ≡ done K
  pub onward : (n : ℕ) (K L : List Part) (Ls : List (List Part)) → from ≤ n → Fit K → (J : List Part) → taken_in kind n K L ≡ done J → Fit J × (rest K (L ∷ Ls) ≡ rest J Ls)
  pub over : (n : ℕ) (K L : List Part) (Ls : List (List Part)) → from ≤ n → Fit K → (a b : ℕ) → taken_in kind n K L ≡ refused a b → (a ≡ 11) × (b ≡ 0) × (rest K (L ∷ Ls) ≡ refused 11 0)

module _ {kind : Kind} {from : ℕ} {Fit : List Part → Type 0} {rest : List Part → List (List Part) → Answer (List Part)} (w : Way kind from Fit rest) where
  folded_way : (n : ℕ) (K : List Part) (Ls : List (List Part)) → from ≤ n → Fit K → folded kind n (done K) Ls ≡ unless (refusal_of kind (n + length Ls)) (rest K Ls)
  unfolding folded
  folded_way n K [] h f = let e : n + 0 ≡ n = omega arith in rw (e, w.ended K f)
  folded_way n K (L ∷ Ls) h f = go (taken_in kind n K L) refl (λ J g. folded_way (suc n) J Ls (omega arith) g)
    where
      go : (x : Answer (List Part)) → taken_in kind n K L ≡ x → ((J : List Part) → Fit J → folded kind (suc n) (done J) Ls ≡ unless (refusal_of kind (suc n + length Ls)) (rest J Ls)) → folded kind (suc n) x Ls ≡ unless (refusal_of kind (n + length (L ∷ Ls))) (rest K (L ∷ Ls))
      go (done J) t back =
          let e : suc n + length Ls ≡ n + length (L ∷ Ls) = omega arith in
          let o = w.onward n K L Ls h f J t in
          back J o.0 ∙ rw (e, o.1)
      go (refused a b) t back =
          let e : suc n + length Ls ≡ n + length (L ∷ Ls) = omega arith in
          let o = w.over n K L Ls h f a b t in
          let z : folded kind (suc n) (refused a b) Ls ≡ unless (refusal_of kind (suc n + length Ls)) (refused 11 0) = rw (o.0, o.1) (folded_over kind (suc n) Ls) in
          z ∙ rw (e, o.2)

-- the list so far is sorted, and within the limits
record Fits (K : List Part) : Type 0 where
  pub rising : Rising order K
  pub held_is : held K ≡ done K

held_fits : (M : List Part) → Rising order M → (J : List Part) → held M ≡ done J → Fits J × (J ≡ M)
held_fits M R J e = go (held_view M) refl e
  where
    go : {o : Answer (List Part)} → Held M o → held M ≡ o → o ≡ done J → Fits J × (J ≡ M)
    go (is_held h s) d e = let j : J ≡ M = cc in (record { rising = rw j R; held_is = rw j d }, j)
    go (is_over h) d e = let z : ◌≡◌ {A = ℕ} 0 1 = cc in absurd (omega arith)

held_refused : (M : List Part) (a b : ℕ) → held M ≡ refused a b → (a ≡ 11) × (b ≡ 0)
held_refused M a b e = go (held_view M) e
  where
    go : {o : Answer (List Part)} → Held M o → o ≡ refused a b → (a ≡ 11) × (b ≡ 0)
    go (is_held h s) e = let z : ◌≡◌ {A = ℕ} 0 1 = cc in absurd (omega arith)
    go (is_over h) e = (cc, cc)

oneof_way : Way Oneof 0 Fits (λ K Ls. held (add K (flatten Ls)))
unfolding taken_in flatten
oneof_way =
    record {
      ended = λ K f. ap held (add_nil f.rising) ∙ f.held_is;
      onward = λ n K L Ls h f J e. let j = held_fits (add K L) (add_rising K L) J e in (j.0, ap held (sym (add_steps K L (flatten Ls)) ∙ ap (λ (M : List Part). add M (flatten Ls)) (sym j.1)));
      over = λ n K L Ls h f a b e. let r = held_refused (add K L) a b e in (r.0, r.1, held_grows K L (flatten Ls) (rw (r.0, r.1) at e));
    }

andor_way : Way Andor 0 Fits (λ K Ls. held (andor_from K Ls))
unfolding taken_in andor_from
andor_way =
    record {
      ended = λ K f. f.held_is;
      onward = λ n K L Ls h f J e. let j = held_fits (grown K L) (grown_rising K L) J e in (j.0, ap (λ (M : List Part). held (andor_from M Ls)) (sym j.1));
      over = λ n K L Ls h f a b e.
          let r = held_refused (grown K L) a b e in
          (r.0, r.1, held_less (grown K L) (andor_from (grown K L) Ls) (grown_rising K L) (andor_from_rising Ls (grown_rising K L)) (andor_from_more (grown K L) Ls) (rw (r.0, r.1) at e));
    }

-- from the second term on
and_step : (n : ℕ) (K L : List Part) → 1 ≤ n → taken_in And n K L ≡ held (bitand K L)
unfolding taken_in
and_step zero K L h = absurd (omega arith)
and_step (suc n) K L h = refl

and_way : Way And 1 (λ K. Unit {0}) prefixes
unfolding prefixes
and_way =
    record {
      ended = λ K f. refl;
      onward = λ n K L Ls h f J e. (tt, rw (sym (and_step n K L h) ∙ e));
      over = λ n K L Ls h f a b e.
          let d : held (bitand K L) ≡ refused a b = sym (and_step n K L h) ∙ e in
          let r = held_refused (bitand K L) a b d in
          (r.0, r.1, rw (d, r.0, r.1));
    }

empty_fits : Fits []
empty_fits = record { rising = empty; held_is = held_done [] (omega arith) (λ q m. absurd (not_in_nil m)) }

-- a reference has no terms; it would go as a ONEOF does
folded_reference : (n : ℕ) (o : Answer (List Part)) (Ls : List (List Part)) → folded Reference n o Ls ≡ folded Oneof n o Ls
unfolding folded taken_in refusal_of
folded_reference n o [] = refl
folded_reference n o (L ∷ Ls) = folded_reference (suc n) (o >>= λ K. held (add K L)) Ls

pub folded_is : (kind : Kind) (Ls : List (List Part)) → folded kind 0 (done []) Ls ≡ at_node kind Ls
unfolding folded at_node taken_in refusal_of andor_of and_of oneof_of
folded_is Andor [] = refl
folded_is Andor (L ∷ Ls) =
    let z : 0 + length (L ∷ Ls) ≡ suc (length Ls) = omega arith in
    folded_way andor_way 0 [] (L ∷ Ls) (omega arith) empty_fits
    ∙ ap (λ (k : ℕ). unless (refusal_of Andor k) (held (andor_from [] (L ∷ Ls)))) z
    ∙ limited (held (andor_from [] (L ∷ Ls))) (leb (length (L ∷ Ls)) most_factors) ∙ rw (andor_steps (L ∷ Ls))
  where
    limited : (r : Answer (List Part)) (b : Bool) → unless (cond b none (some 10)) r ≡ or_else 10 b r
    limited r true = refl
    limited r false = refl
folded_is And [] = refl
folded_is And (L ∷ []) = refl
folded_is And (L ∷ K ∷ Ks) =
    let z : 1 + length (K ∷ Ks) ≡ suc (suc (length Ks)) = omega arith in
    folded_way and_way 1 L (K ∷ Ks) (omega arith) tt ∙ ap (λ (k : ℕ). unless (refusal_of And k) (prefixes L (K ∷ Ks))) z
folded_is Oneof Ls = folded_way oneof_way 0 [] Ls (omega arith) empty_fits
folded_is Reference Ls = folded_reference 0 (done []) Ls ∙ folded_way oneof_way 0 [] Ls (omega arith) empty_fits

-- ---- a list that is valued: sorted, of sets, within the limits
pub record Good (L : List Part) : Type 0 where
  pub small : length L ≤ 128
  pub slim : Narrow L
  pub rising : Rising order L
  pub sets : Sets L

abbrev pub Fine : Answer (List Part) → Type 0
Fine (done L) = Good L
Fine (refused n place) = Unit {0}

pub good_empty : Good []
good_empty = record { small = omega arith; slim = λ q m. absurd (not_in_nil m); rising = empty; sets = λ q m. absurd (not_in_nil m) }

good_single : (n : ℕ) → Good (single n ∷ [])
good_single n =
    record {
      small = omega arith;
      slim = λ q m. one m (λ (p : Part). length p ≤ 12) (omega arith);
      rising = next (λ q m. absurd (not_in_nil m)) empty;
      sets = λ q m. one m (λ (p : Part). Rising compare p) (next (λ a i. absurd (not_in_nil i)) empty);
    }
  where
    one : {q : Part} → q ∈ (single n ∷ []) → (P : Part → Type 0) → P (single n) → P q
    one (here e) P p = rw e p
    one (there m) P p = absurd (not_in_nil m)

fine_held : (M : List Part) → Rising order M → Sets M → Fine (held M)
fine_held M R S = go (held_view M)
  where
    go : {o : Answer (List Part)} → Held M o → Fine o
    go (is_held h s) = record { small = h; slim = s; rising = R; sets = S }
    go (is_over h) = tt

joins_sets : (K L : List Part) → Sets (joins K L)
joins_sets K L q m = elim (joins_old K L m) [ joined {p = p} {q = r} i j e ↦ rw e (join_rising p r) ]

add_sets : (K L : List Part) → Sets K → Sets L → Sets (add K L)
add_sets K L S T q m = elim (add_old K L m) [ inl i ↦ S q i | inr j ↦ T q j ]

append_sets : (K L : List Part) → Sets K → Sets L → Sets (K ++ L)
append_sets K L S T q m = elim (∈_append_cases K L m) [ inl i ↦ S q i | inr j ↦ T q j ]

fine_taken : (kind : Kind) (n : ℕ) (K L : List Part) → Good K → Good L → Fine (taken_in kind n K L)
unfolding taken_in grown
fine_taken Andor n K L g h = fine_held (grown K L) (grown_rising K L) (add_sets K (joins K L ++ L) g.sets (append_sets (joins K L) L (joins_sets K L) h.sets))
fine_taken And zero K L g h = h
fine_taken And (suc n) K L g h = fine_held (bitand K L) (tidy_rising part_order (joins K L)) (λ q m. joins_sets K L q (tidy_old part_order (joins K L) m))
fine_taken Reference n K L g h = fine_held (add K L) (add_rising K L) (add_sets K L g.sets h.sets)
fine_taken Oneof n K L g h = fine_held (add K L) (add_rising K L) (add_sets K L g.sets h.sets)

pub fine_next : (kind : Kind) (n : ℕ) (o : Answer (List Part)) (L : List Part) → Fine o → Good L → Fine (o >>= λ K. taken_in kind n K L)
fine_next kind n (done K) L f g = fine_taken kind n K L f g
fine_next kind n (refused a b) L f g = tt

AllGood : List (List Part) → Type 0
AllGood Ls = (L : List Part) → L ∈ Ls → Good L

fine_unless : (x : Option ℕ) (o : Answer (List Part)) → Fine o → Fine (unless x o)
fine_unless none o f = f
fine_unless (some n) o f = tt

fine_folded : (kind : Kind) (n : ℕ) (o : Answer (List Part)) (Ls : List (List Part)) → Fine o → AllGood Ls → Fine (folded kind n o Ls)
unfolding folded AllGood
fine_folded kind n o [] f g = fine_unless (refusal_of kind n) o f
fine_folded kind n o (L ∷ Ls) f g = fine_folded kind (suc n) (o >>= λ K. taken_in kind n K L) Ls (fine_next kind n o L f (g L (here refl))) (λ M m. g M (there m))

abbrev AllFine : Answer (List (List Part)) → Type 0
AllFine (done Ls) = AllGood Ls
AllFine (refused n place) = Unit {0}

fine_node : (kind : Kind) (v : Answer (List (List Part))) → AllFine v → Fine (v >>= at_node kind)
fine_node kind (done Ls) f = rw (← folded_is kind Ls) (fine_folded kind 0 (done []) Ls good_empty f)
fine_node kind (refused a b) f = tt

more_fine : (x : Answer (List Part)) (v : Answer (List (List Part))) → Fine x → AllFine v → AllFine (x >>= λ L. v >>= λ Ls. done (L ∷ Ls))
unfolding AllGood
more_fine (done L) (done Ls) f g = both
  where
    both : (M : List Part) → M ∈ (L ∷ Ls) → Good M
    both M (here e) = rw e f
    both M (there m) = g M m
more_fine (done L) (refused a b) f g = tt
more_fine (refused a b) v f g = tt

mutual
  unfolding eval values at_node AllGood

  pub fine_eval : (e : Expr ℕ) → Fine (eval e)
  fine_eval (reference n) = good_single n
  fine_eval (andor t) = fine_node Andor (values t) (fine_values t)
  fine_eval («and» t) = fine_node And (values t) (fine_values t)
  fine_eval (oneof t) = fine_node Oneof (values t) (fine_values t)

  fine_values : (t : Terms ℕ) → AllFine (values t)
  fine_values end = λ L m. absurd (not_in_nil m)
  fine_values (e then t) = more_fine (eval e) (values t) (fine_eval e) (fine_values t)
