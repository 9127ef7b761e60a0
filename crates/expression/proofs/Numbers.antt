-- The place of a set that halving finds is its number, and the row at 13 times a number is its set.
use mathlib.Core.Path.{◌≡◌, refl, sym, ap, ◌∙◌}
use mathlib.Core.List.{List, [], ◌∷◌}
use mathlib.Core.Bool.{cond}
use mathlib.Core.Option.{Option, none, some}
use Rattle.std.specs.Prelude.{Result, Ok, Err}
use Prim.Native.Nat.{ℕ, zero, suc, ◌+◌, ◌*◌, ◌≤◌, ◌<◌, Ordering}
use native.Mathlib.Omega.{arith}
use native.Mathlib.Nat.{not-suc-le-zero, le_of_suc-le-suc}
use lib.ListN.{drop, get_elem?}
use lib.Seq.{drop-drop}
use lib.Dec.{compare_is_eq}
use Rattle.refusal.specs.declared.Refusal.{Refusal}
use Rattle.refusal.specs.declared.Reason.TheVariants.{NoNumber}
use Rattle.std.specs.Result.{result_or}
use Rattle.refusal.specs.Told.{told, told_refusal}
use Rattle.complex_entity.specs.MeaningRising.{here, there, View, less, same, more, Below, Rising, next}
use Rattle.complex_entity.specs.MeaningParts.{Part, order, moved}
use Rattle.complex_entity.specs.MirrorParts.{by, part_of, part_at, Makes}
use Rattle.complex_entity.specs.declared.PartialComplexEntity.{PartialComplexEntity}
use Rattle.complex_entity.proofs.Answers.{makes_part, makes_none}
use Rattle.complex_entity.proofs.Orders.{part_order}
use Rattle.rows.specs.MirrorRows.{parts_at, Stands}
use Rattle.rows.specs.MirrorLists.{further, place_of}
use Rattle.expression.specs.MeaningNumbers.{place_in, or17, number_of, set_at}

-- ---- row to number
abbrev found : Result ℕ ℕ → Option ℕ
found (Ok i) = some i
found (Err i) = none

found_further : (s : Result ℕ ℕ) → found (further 1 s) ≡ moved (found s)
found_further (Ok i) = let e : 1 + i ≡ suc i = omega arith in ap some e
found_further (Err i) = refl

-- a part that is less than all of a list has no place in it
not_above : (p : Part) (L : List Part) → Below order p L → place_in L p ≡ none
unfolding place_in
not_above p [] B = refl
not_above p (q ∷ L) B = go (order p q) (B q (here refl)) (not_above p L (λ r m. B r (there m)))
  where
    go : (o : Ordering) → o ≡ Ordering.lt → place_in L p ≡ none → cond (compare_is_eq o) (some 0) (moved (place_in L p)) ≡ none
    go Ordering.lt e h = rw h
    go Ordering.eq e h = let z : ◌≡◌ {A = ℕ} 0 1 = cc in absurd (omega arith)
    go Ordering.gt e h = rw h

found_place : (L : List Part) (p : Part) → Rising order L → found (place_of L p) ≡ place_in L p
unfolding place_of place_in
found_place [] p R = refl
found_place (q ∷ L) p (next B R) = go (part_order.view p q) (found_place L p R)
  where
    go : {o : Ordering} → View order p q o → found (place_of L p) ≡ place_in L p → found (by o (Err 0) (Ok 0) (further 1 (place_of L p))) ≡ cond (compare_is_eq o) (some 0) (moved (place_in L p))
    go (less h) e = sym (ap moved (not_above p L (λ r m. part_order.trans p q r h (B r m))))
    go (same d) e = refl
    go (more h) e = found_further (place_of L p) ∙ ap moved e

-- the place that is found is the number, and where none is there is none
module _ (l : List ℕ) (count : ℕ) (p : Part) (s : Result ℕ ℕ) (h : Stands l count) (e : s ≡ place_of (parts_at count l) p) (r : Result ℕ Refusal) (i : r ≡ Err (record { reason = NoNumber; place = 0 })) where
  number_is : told (result_or s r) ≡ or17 (found s)
  number_is = go s
    where
      go : (s : Result ℕ ℕ) → told (result_or s r) ≡ or17 (found s)
      go (Ok n) = refl
      go (Err n) = ap told i

  pub numbered : (q : Result ℕ Refusal) → q ≡ result_or s r → told q ≡ number_of (parts_at count l) p
  unfolding number_of
  numbered q d = ap told d ∙ number_is ∙ ap or17 (ap found e ∙ found_place (parts_at count l) p h.ordered)

-- ---- number to row
at_row : (n i : ℕ) (l : List ℕ) → i < n → get_elem? (parts_at n l) i ≡ some (part_at (drop (13 * i) l))
unfolding parts_at
at_row zero i l h = absurd (not-suc-le-zero h)
at_row (suc n) zero l h = refl
at_row (suc n) (suc i) l h =
    let e : 13 * suc i ≡ 13 + 13 * i = omega arith in
    rw (e, ← drop-drop (13 * i) 13 l) (at_row n i (drop 13 l) (le_of_suc-le-suc h))

no_row : (n i : ℕ) (l : List ℕ) → n ≤ i → get_elem? (parts_at n l) i ≡ none
unfolding parts_at
no_row zero i l h = refl
no_row (suc n) zero l h = absurd (not-suc-le-zero h)
no_row (suc n) (suc i) l h = no_row n i (drop 13 l) (le_of_suc-le-suc h)

module _ (l : List ℕ) (count number : ℕ) where
  pub set_here : number < count → (p : PartialComplexEntity) → p ≡ part_of (part_at (drop (13 * number) l)) → Makes (set_at (parts_at count l) number) (Ok p)
  unfolding set_at
  set_here h p e = makes_part (set_at (parts_at count l) number) (part_at (drop (13 * number) l)) p e (ap or17 (at_row count number l h))

  pub set_none : count ≤ number → (why : Refusal) → why ≡ record { reason = NoNumber; place = 0 } → Makes (set_at (parts_at count l) number) (Err why)
  unfolding set_at
  set_none h why e = makes_none (set_at (parts_at count l) number) why (ap told_refusal e ∙ sym (ap or17 (no_row count number l h)))

pub ruleset placing = (set_here, set_none)
