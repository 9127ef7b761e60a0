-- The loop that reads lists one after another, and the rows of a list operand counted.
use Prim.Native.Nat.{ℕ, ◌+◌, ◌-◌, ◌*◌, ◌/◌, ◌≤◌, ◌<◌}
use mathlib.Core.Path.{◌≡◌, refl, sym, ap, ◌∙◌}
use mathlib.Core.List.{List, [], ◌∷◌, ◌++◌}
use mathlib.Core.Option.{some}
use native.Mathlib.Omega.{arith}
use native.Mathlib.Nat.{zero-add}
use native.Mathlib.Numerals.{add-one}
use lib.ListN.{length, get_or, take, drop, length-drop, drop_of_length-le}
use lib.Seq.{drop-cons, drop-drop}
use Rattle.instantiables.proofs.Listings.{tail_is}
use Rattle.std.specs.Prelude.{Result, Ok, Err}
use Rattle.operands.specs.MeaningOperands.{rows_in, numbers_from, wanted, first_wrong, a_list}
use Rattle.operands.specs.MirrorOperands.{good_from, read_of, judged, counts_of}
use Rattle.operands.proofs.Cuts.{rows_nil, rows_cons, rows_count, run, run_stops, run_on, run_there, run_most, run_same}

-- k rows are good, and what is left decides
pub record Judging (counts rows : List ℕ) (k c : ℕ) (r : Result (Unit {0}) ℕ) : Type 0 where
  pub inside : 13 * k ≤ length rows
  pub rest : read_of (first_wrong k (wanted (drop c counts)) (rows_in (drop (13 * k) rows))) ≡ r

pub judge_start : (counts rows : List ℕ) → Judging counts rows 0 0 (judged counts rows)
unfolding judged
judge_start counts rows = record { inside = omega arith; rest = refl }

module _ (counts rows : List ℕ) (k c : ℕ) (r : Result (Unit {0}) ℕ) (f : Judging counts rows k c r) where
  pub judge_inside : 13 * k ≤ length rows
  judge_inside = f.inside

  module _ (h : length counts ≤ c) where
    no_more : wanted (drop c counts) ≡ []
    unfolding wanted
    no_more = rw (drop_of_length-le counts {i = c} h) refl

    pub judge_surplus : 13 * k < length rows → Err k ≡ r
    unfolding first_wrong
    judge_surplus g = sym (rw (no_more, rows_cons (drop (13 * k) rows) (omega (arith, length-drop (13 * k) rows))) refl) ∙ f.rest

    pub judge_done : length rows ≤ 13 * k → Ok tt ≡ r
    unfolding first_wrong
    judge_done g = sym (rw (no_more, rows_nil (drop (13 * k) rows) (omega (arith, length-drop (13 * k) rows))) refl) ∙ f.rest

  module _ (h : c < length counts) (n : ℕ) (e : n ≡ get_or counts c 0) (good : ℕ) (w : good ≡ good_from 0 n (take (length rows - 13 * k) (drop (13 * k) rows))) where
    first : wanted (drop c counts) ≡ numbers_from 0 n ++ wanted (drop (c + 1) counts)
    unfolding wanted
    first = rw (drop-cons counts c 0 h, add-one c, e) refl

    is : good ≡ good_from 0 n (drop (13 * k) rows)
    is = w ∙ rw (tail_is rows (13 * k)) refl

    pub judge_wrong : good < n → Err (k + good) ≡ r
    judge_wrong g =
        let u : first_wrong k (numbers_from 0 n ++ wanted (drop (c + 1) counts)) (rows_in (drop (13 * k) rows)) ≡ some (k + good_from 0 n (drop (13 * k) rows)) =
        run_stops (run 0 n (drop (13 * k) rows)) (omega (arith, is)) k (wanted (drop (c + 1) counts)) in
        sym (rw (first, u, ← is) refl) ∙ f.rest

    pub judge_next : n ≤ good → Judging counts rows (k + n) (c + 1) r
    judge_next g =
        let u : first_wrong k (numbers_from 0 n ++ wanted (drop (c + 1) counts)) (rows_in (drop (13 * k) rows)) ≡ first_wrong (k + n) (wanted (drop (c + 1) counts)) (rows_in (drop (13 * n) (drop (13 * k) rows))) =
        run_on (run 0 n (drop (13 * k) rows)) (omega (arith, is)) k (wanted (drop (c + 1) counts)) in
        let v : 13 * (k + n) ≡ 13 * k + 13 * n = omega arith in
        record {
          inside = omega (arith, f.inside, run_there (run 0 n (drop (13 * k) rows)) (omega (arith, is)), length-drop (13 * k) rows);
          rest = rw v (sym (rw (first, u, drop-drop (13 * n) (13 * k) rows) refl) ∙ f.rest);
        }

pub ruleset judging = (judge_start, judge_inside, judge_surplus, judge_done, judge_wrong, judge_next)

-- ---- one operand
module _ (rows : List ℕ) (r : Result (Unit {0}) ℕ) where
  pub list_short : r ≡ judged ((length rows + 12) / 13 ∷ []) rows → r ≡ judged (counts_of a_list rows) rows
  list_short e =
      let n = rows_count (length rows) rows (omega arith) in
      let s : (length rows + 12) / 13 ≡ length (rows_in rows) = omega (arith, n.0, n.1) in
      e ∙ ap (λ (k : ℕ). judged (k ∷ []) rows) s

  -- more than 128 rows are wanted
  too_many : (n : ℕ) → 128 < n → judged (n ∷ []) rows ≡ Err (good_from 0 n rows)
  unfolding judged wanted
  too_many n h =
      rw (run_stops (run 0 n rows) (omega (arith, run_most (run 0 n rows) (omega arith))) 0 []) (ap (λ (k : ℕ). Err k) (zero-add (good_from 0 n rows)))

  pub list_long : 1664 < length rows → r ≡ judged (129 ∷ []) rows → r ≡ judged (counts_of a_list rows) rows
  list_long h e =
      let n = rows_count (length rows) rows (omega arith) in
      let s : 128 < length (rows_in rows) = omega (arith, n.1) in
      e ∙ too_many 129 (omega arith)
      ∙ ap (λ (k : ℕ). Err k) (run_same (run 0 129 rows) (run 0 (length (rows_in rows)) rows) (omega arith) (omega arith) (omega arith))
      ∙ sym (too_many (length (rows_in rows)) s)

pub ruleset one_operand = (list_short, list_long)
