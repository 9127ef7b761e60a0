-- The questions put together: what was read, what it is worth, what is handed out.
use Prim.Native.Nat.{ℕ, ◌*◌, ◌≤◌, ◌<◌, Ordering}
use mathlib.Core.Path.{◌≡◌, refl, sym, ap, ◌∙◌}
use mathlib.Core.List.{List, [], ◌∷◌}
use lib.ListN.{length, drop}
use borrow.Author.Tests.{le-leb, lt-leb}
use Rattle.std.specs.Prelude.{Result, Ok, Err}
use Rattle.std.proofs.Common as std
use Rattle.std.proofs.lemmas.Result.{err_from_is_err_and}
use Rattle.std.specs.Result.{MatchResult, IsErrAnd, result_and}
use Rattle.refusal.specs.MeaningAnswer.{Answer, done, refused}
use Rattle.refusal.specs.Told.{number_of}
use Rattle.refusal.specs.declared.Reason.TheVariants.{Malformed}
use Rattle.refusal.specs.declared.Refusal.{Refusal}
use Rattle.complex_entity.specs.MeaningParts.{Part, order, new_of}
use Rattle.complex_entity.specs.MirrorParts.{names_of, part_of, part_at, Makes}
use Rattle.complex_entity.specs.Told.{told_order}
use Rattle.complex_entity.specs.declared.PartialComplexEntity.{PartialComplexEntity}
use Rattle.complex_entity.proofs.Names.{names_of_part}
use Rattle.instantiables.specs.MirrorRows.{lists_at, sum, AllSets}
use Rattle.instantiables.specs.declared.Instantiables.{Instantiables}
use Rattle.instantiables.specs.Told.{told_listed}
use Rattle.operands.specs.MeaningOperands.{Operand, read_part, read, both}
use Rattle.operands.specs.MeaningResults.{fitting}
use Rattle.operands.specs.MirrorOperands.{judged, counts_of, parts_in, Operable}
use Rattle.operands.specs.MirrorResults.{Valued, Handed}
use Rattle.operands.specs.Promises.{Answers}
use Rattle.operands.proofs.Cuts.{clash}
use Rattle.operands.proofs.Taking.{taken_says, taken_room, taken_sets, wrong_says, operand_says, operand_operable, operand_wrong, part_room, part_read, part_refused}
use Rattle.operands.proofs.Handing.{refused_answers, hand_answers}
use Rattle.operators.specs.MeaningOperators.{Operator, Several, value_of, value_of_all}
use Rattle.algebra.specs.MeaningQuestions.{in_order, ask_new, ask_single, ask_compare, ask_two, ask_several}
use Rattle.algebra.specs.MirrorOrder.{judged_both}
use Rattle.algebra.specs.Told.{told_compared}

-- what was read of an operand
abbrev pub Read : Type 0
Read = Result (Unit {0}) ℕ

-- ---- 15, left operand first
-- the code takes the first error, and makes a refusal of it, which Q says
pub order_is : (Q : ℕ → Refusal → Type 0) → ((k : ℕ) (w : Refusal) → Q k w → w ≡ record { reason = Malformed; place = k })
    → (r s t : Read) (v : Result (Unit {0}) Refusal) → t ≡ result_and r s → MatchResult t (λ x. v ≡ Ok x) (λ k. IsErrAnd v (Q k)) → v ≡ judged_both r s
unfolding judged_both
order_is Q tells r s t v e h = go r s (rw e at h)
  where
    err : (k : ℕ) → IsErrAnd v (Q k) → v ≡ Err (record { reason = Malformed; place = k })
    err k q = let p = err_from_is_err_and v q in p.1 ∙ ap (λ (w : Refusal). Err w) (tells k p.0 p.2)

    go : (r s : Read) → MatchResult (result_and r s) (λ x. v ≡ Ok x) (λ k. IsErrAnd v (Q k)) → v ≡ judged_both r s
    go (Err k) s q = err k q
    go (Ok a) (Err k) q = err k q
    go (Ok a) (Ok b) q = q

module _ (v : Result (Unit {0}) Refusal) (r s : Read) (o : v ≡ judged_both r s) where
  -- no 15: both are good
  module _ (u : Unit {0}) (e : v ≡ Ok u) where
    pub order_whole : r ≡ Ok tt
    unfolding judged_both
    order_whole = go r s (sym e ∙ o)
      where
        go : (r s : Read) → Ok u ≡ judged_both r s → r ≡ Ok tt
        go (Ok a) s d = refl
        go (Err k) s d = clash (cc)

    pub order_whole_right : s ≡ Ok tt
    unfolding judged_both
    order_whole_right = go r s (sym e ∙ o)
      where
        go : (r s : Read) → Ok u ≡ judged_both r s → s ≡ Ok tt
        go r (Ok b) d = refl
        go (Ok a) (Err k) d = clash (cc)
        go (Err j) (Err k) d = clash (cc)

  -- a 15 is what `both` refuses, where a and b are the operands read
  pub order_both : {A B : Type 0} (a : Answer A) (b : Answer B) (x : A) (why : Refusal) → (r ≡ Ok tt → a ≡ done x) → ((k : ℕ) → r ≡ Err k → a ≡ refused 15 k)
      → ((k : ℕ) → s ≡ Err k → b ≡ refused 15 k) → v ≡ Err why → both a b ≡ refused (number_of why.reason) why.place
  unfolding judged_both both
  order_both a b x why y f g e = go r s y f g (sym e ∙ o)
    where
      go : (r s : Read) → (r ≡ Ok tt → a ≡ done x) → ((k : ℕ) → r ≡ Err k → a ≡ refused 15 k) → ((k : ℕ) → s ≡ Err k → b ≡ refused 15 k)
          → Err why ≡ judged_both r s → both a b ≡ refused (number_of why.reason) why.place
      go (Err k) s y f g d = let w : why ≡ record { reason = Malformed; place = k } = cc in rw (f k refl, w) refl
      go (Ok a) (Err k) y f g d = let w : why ≡ record { reason = Malformed; place = k } = cc in rw (y refl, g k refl, w) refl
      go (Ok a) (Ok b) y f g d = clash (cc)

-- ---- new
module _ (indices out : List ℕ) (made : Result PartialComplexEntity Refusal) (m : Makes (new_of indices) made) where
  pub new_refused : (why : Refusal) → made ≡ Err why → Answers (ask_new indices (length out)) out (Err why) out
  unfolding ask_new in_order
  new_refused why e = rw (← m.told, e) (refused_answers (refused (number_of why.reason) why.place) out why refl)

  pub new_made : (part : PartialComplexEntity) → made ≡ Ok part → (r : Result Instantiables Refusal) (out' : List ℕ) → Answers (fitting (length out) (names_of part ∷ [])) out r out'
      → Answers (ask_new indices (length out)) out r out'
  unfolding ask_new in_order
  new_made part e r out' h = rw (← m.told, e) h

-- ---- single
module _ (index : ℕ) (out : List ℕ) where
  pub single_over : (w : Refusal) → w ≡ record { reason = Malformed; place = 0 } → 255 < index → Answers (ask_single index (length out)) out (Err w) out
  unfolding ask_single in_order
  single_over w e h = rw (lt-leb index 255 h, e) (refused_answers (refused 15 0) out (record { reason = Malformed; place = 0 }) refl)

  pub single_made : (part : PartialComplexEntity) (r : Result Instantiables Refusal) (out' : List ℕ) → index ≤ 255 → part ≡ part_of (index ∷ [])
      → Answers (fitting (length out) (names_of part ∷ [])) out r out' → Answers (ask_single index (length out)) out r out'
  unfolding ask_single in_order
  single_made part r out' h e a =
      let n : names_of part ≡ index ∷ [] = ap names_of e ∙ names_of_part (index ∷ []) in
      rw (le-leb index 255 h) (rw n at a)

pub ruleset asking_part = (new_refused, new_made, single_over, single_made)

-- ---- compare
module _ (left right : List ℕ) (r s : Read) (w : r ≡ judged (1 ∷ []) left) (x : s ≡ judged (1 ∷ []) right) (v : Result (Unit {0}) Refusal) (o : v ≡ judged_both r s) where
  pub compare_refused : (why : Refusal) → v ≡ Err why → told_compared (Err why) ≡ ask_compare left right
  unfolding ask_compare
  compare_refused why e =
      rw (order_both v r s o (read_part left) (read_part right) (part_at left ∷ []) why (part_read left r w) (part_refused left r w) (part_refused right s x) e) refl

  pub compare_is : (a b : PartialComplexEntity) (c : std.Ordering) (u : Unit {0}) → v ≡ Ok u → a ≡ part_of (part_at (drop 0 left)) → b ≡ part_of (part_at (drop 0 right))
      → told_order c ≡ order (names_of a) (names_of b) → told_compared (Ok c) ≡ ask_compare left right
  unfolding ask_compare both
  compare_is a b c u e p q h =
      let m : names_of a ≡ part_at left = ap names_of p ∙ names_of_part (part_at left) in
      let n : names_of b ≡ part_at right = ap names_of q ∙ names_of_part (part_at right) in
      rw (part_read left r w (order_whole v r s o u e), part_read right s x (order_whole_right v r s o u e)) (ap (λ (z : Ordering). done z) (rw (m, n) at h))

pub ruleset comparing = (order_whole, order_whole_right, part_room, compare_refused, compare_is)

-- ---- two operands
module _ (i : Operand) (l : List ℕ) (r s : Read) (v : Result (Unit {0}) Refusal) (u : Unit {0}) where
  pub left_operable : r ≡ judged (counts_of i l) l → v ≡ judged_both r s → v ≡ Ok u → Operable l
  left_operable w o e = operand_operable i l r w (order_whole v r s o u e)

  pub right_operable : s ≡ judged (counts_of i l) l → v ≡ judged_both r s → v ≡ Ok u → Operable l
  right_operable x o e = operand_operable i l s x (order_whole_right v r s o u e)

module _ (op : Operator) (i j : Operand) (left right out : List ℕ) (r s : Read) (w : r ≡ judged (counts_of i left) left)
    (x : s ≡ judged (counts_of j right) right) (v : Result (Unit {0}) Refusal) (o : v ≡ judged_both r s) where
  pub two_refused : (why : Refusal) → v ≡ Err why → Answers (ask_two op i j left right (length out)) out (Err why) out
  unfolding ask_two in_order
  two_refused why e =
      refused_answers _ out why
      (rw (order_both v r s o (read i left) (read j right) (parts_in left) why
      (operand_says i left r w) (λ k. operand_wrong i left r k w) (λ k. operand_wrong j right s k x) e) refl)

  pub two_answers : (work : List ℕ) (listed res : Result Instantiables Refusal) (out' : List ℕ) (u : Unit {0}) → v ≡ Ok u → Valued (value_of op (parts_in left) (parts_in right)) work (told_listed listed)
      → Handed (told_listed listed) work out (told_listed res) out' → Answers (ask_two op i j left right (length out)) out res out'
  unfolding ask_two in_order both
  two_answers work listed res out' u e t h =
      rw (operand_says i left r w (order_whole v r s o u e), operand_says j right s x (order_whole_right v r s o u e))
      (hand_answers (value_of op (parts_in left) (parts_in right)) work out listed res out' t h)

pub ruleset asking_two = (left_operable, right_operable, two_refused, two_answers)

-- ---- several lists: there is no right operand
module _ (op : Several) (counts rows out : List ℕ) (r : Read) (w : r ≡ judged counts rows) (v : Result (Unit {0}) Refusal) (o : v ≡ judged_both r (Ok tt)) where
  pub several_refused : (why : Refusal) → v ≡ Err why → Answers (ask_several op counts rows (length out)) out (Err why) out
  unfolding ask_several in_order judged_both
  several_refused why e = go r w (sym e ∙ o)
    where
      go : (r : Read) → r ≡ judged counts rows → Err why ≡ judged_both r (Ok tt) → Answers (ask_several op counts rows (length out)) out (Err why) out
      go (Err k) w d = let y : why ≡ record { reason = Malformed; place = k } = cc in refused_answers _ out why (rw (wrong_says counts rows k (sym w), y) refl)
      go (Ok b) w d = clash (cc)

  pub several_answers : (work : List ℕ) (listed res : Result Instantiables Refusal) (out' : List ℕ) (u : Unit {0}) → v ≡ Ok u → Valued (value_of_all op (lists_at counts rows)) work (told_listed listed)
      → Handed (told_listed listed) work out (told_listed res) out' → Answers (ask_several op counts rows (length out)) out res out'
  unfolding ask_several in_order
  several_answers work listed res out' u e t h =
      rw (taken_says counts rows (sym w ∙ order_whole v r (Ok tt) o u e)) (hand_answers (value_of_all op (lists_at counts rows)) work out listed res out' t h)

module _ (counts rows : List ℕ) (r : Read) (w : r ≡ judged counts rows) (e : r ≡ Ok tt) where
  pub several_room : 13 * sum counts ≤ length rows
  several_room = taken_room counts rows (sym w ∙ e)

  pub several_sets : AllSets (lists_at counts rows)
  several_sets = taken_sets counts rows (sym w ∙ e)

pub ruleset asking_several = (order_whole, several_refused, several_answers, several_room, several_sets)
