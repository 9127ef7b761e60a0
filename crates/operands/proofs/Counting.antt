-- The whole rows of some numbers, as a chain of iterators has them, and how many of the first are good.
use Prim.Native.Nat.{ℕ, zero, suc, ◌+◌, ◌-◌, ◌/◌, ◌≤◌, ◌<◌, min}
use mathlib.Core.Path.{◌≡◌, refl, ap, ◌∙◌}
use mathlib.Core.List.{List, [], ◌∷◌, ◌++◌}
use mathlib.Core.Bool.{Bool, true, false, cond, ◌&&◌}
use native.Mathlib.Omega.{arith}
use native.Mathlib.Decide.{dec_lt}
use lib.ListN.{length, take, drop, length-append, length-drop}
use lib.Seq.{take_at, drop_at}
use lib.Dec.{ltb}
use borrow.Author.Tests.{lt-ltb, le-ltb}
use Rattle.std.specs.Prelude.{Some, None}
use Rattle.std.specs.List.{prefix_len}
use Rattle.std.specs.Slice.Iter.{chunks_exact_rest, chunks_exact_size, chunks_exact_steps}
use Rattle.std.proofs.lemmas.Iterator.{YieldsList}
use Rattle.std.proofs.lemmas.Iterator.Splits.{YieldsList-from_shown_while}
use denote.Ref.{Bor}
use Rattle.complex_entity.specs.MeaningLists.{most_parts}
use Rattle.operands.specs.MeaningOperands.{is_row}
use Rattle.operands.specs.MirrorOperands.{good_from}
use Rattle.operands.proofs.Cuts.{row_there, run, run_most}

unfoldable pub rows_of : ℕ → List ℕ → List (List ℕ)
rows_of zero l = []
rows_of (suc n) l = take 13 l ∷ rows_of n (drop 13 l)

-- the numbers that are left behind the last whole row are none of them
abbrev pub whole_rows : List ℕ → List (List ℕ)
whole_rows l = rows_of (length l / 13) l

pub no_row : (l : List ℕ) → length l < 13 → whole_rows l ≡ []
unfolding rows_of
no_row l h = let e : length l / 13 ≡ 0 = omega arith in rw e refl

pub row_on : (l x rest : List ℕ) → l ≡ x ++ rest → length x ≡ 13 → whole_rows l ≡ x ∷ whole_rows rest
unfolding rows_of
row_on l x rest e h =
    let n : length l ≡ 13 + length rest = ap length e ∙ length-append x rest ∙ omega arith in
    let d : length l / 13 ≡ suc (length rest / 13) = omega arith in
    rw (d, e, take_at x rest 13 h, drop_at x rest 13 h) refl

first_row : (l : List ℕ) → 13 ≤ length l → whole_rows l ≡ take 13 l ∷ whole_rows (drop 13 l)
unfolding rows_of
first_row l h =
    let d : length l / 13 ≡ suc (length (drop 13 l) / 13) = omega (arith, length-drop 13 l) in
    rw d refl

none_taken : (n : ℕ) → take {A = List ℕ} n [] ≡ []
none_taken zero = refl
none_taken (suc n) = refl

-- the good ones in front, where at most 128 are looked at
good_in_front : (n i : ℕ) (l : List ℕ) → prefix_len is_row (take (min n (128 - i)) (whole_rows l)) ≡ good_from i n l
unfolding good_from
good_in_front zero i l = let m : min 0 (128 - i) ≡ 0 = omega arith in rw m refl
good_in_front (suc n) i l = go (dec_lt i 128) (dec_lt (length l) 13) (good_in_front n (suc i) (drop 13 l))
  where
    go : Dec (i < 128) → Dec (length l < 13) → prefix_len is_row (take (min n (128 - suc i)) (whole_rows (drop 13 l))) ≡ good_from (suc i) n (drop 13 l)
        → prefix_len is_row (take (min (suc n) (128 - i)) (whole_rows l)) ≡ cond (ltb i most_parts && is_row (take 13 l)) (suc (good_from (suc i) n (drop 13 l))) 0
    go (no g) d h = let m : min (suc n) (128 - i) ≡ 0 = omega arith in rw (m, le-ltb i 128 (omega arith)) refl
    go (yes g) (yes d) h = rw (no_row l d, none_taken (min (suc n) (128 - i)), lt-ltb i 128 g) (cut (is_row (take 13 l)) refl)
      where
        cut : (b : Bool) → is_row (take 13 l) ≡ b → 0 ≡ cond b (suc (good_from (suc i) n (drop 13 l))) 0
        cut true e = let z : 13 ≤ length l = row_there l e in absurd (omega arith)
        cut false e = refl
    go (yes g) (no d) h =
        let m : min (suc n) (128 - i) ≡ suc (min n (128 - suc i)) = omega arith in
        rw (m, first_row l (omega arith), lt-ltb i 128 g) (looked (is_row (take 13 l)))
      where
        looked : (b : Bool) → cond b (1 + prefix_len is_row (take (min n (128 - suc i)) (whole_rows (drop 13 l)))) 0 ≡ cond b (suc (good_from (suc i) n (drop 13 l))) 0
        looked true = omega (arith, h)
        looked false = refl

pub good_rows_are : (n r : ℕ) (l : List ℕ) → r ≡ prefix_len is_row (take (min n 128) (whole_rows l)) → (r ≡ good_from 0 n l) × (r ≤ 128)
good_rows_are n r l e =
    let s : r ≡ good_from 0 n l = e ∙ good_in_front n 0 l in
    (s, omega (arith, run_most (run 0 n l) (omega arith)))

-- what `chunks_exact` yields
pub yields_rows : (l : List ℕ) (s : _) → chunks_exact_rest {T = ℕ} s ≡ l → chunks_exact_size {T = ℕ} s ≡ 13 → YieldsList (chunks_exact_steps {A = ℕ}) (λ x. x.now) s (whole_rows l)
yields_rows l s e h =
    rw (← e)
    (YieldsList-from_shown_while (chunks_exact_steps {A = ℕ}) (λ x. x.now) (λ (t : _). whole_rows (chunks_exact_rest {T = ℕ} t)) (λ (t : _). chunks_exact_size {T = ℕ} t ≡ 13)
    none some s h)
  where
    none : (s t : _) → chunks_exact_size {T = ℕ} s ≡ 13 → chunks_exact_steps {A = ℕ} s None t → length (whole_rows (chunks_exact_rest {T = ℕ} s)) ≡ 0
    none s t h f = ap length (no_row (chunks_exact_rest {T = ℕ} s) (rw h at f.1.0))

    some : (s : _) (x : Bor (List ℕ)) (t : _) → chunks_exact_size {T = ℕ} s ≡ 13 → chunks_exact_steps {A = ℕ} s (Some x) t
        → (chunks_exact_size {T = ℕ} t ≡ 13) × (whole_rows (chunks_exact_rest {T = ℕ} s) ≡ x.now ∷ whole_rows (chunks_exact_rest {T = ℕ} t))
    some s x t h f = (f.0 ∙ h, row_on (chunks_exact_rest {T = ℕ} s) x.now (chunks_exact_rest {T = ℕ} t) f.1.0 (f.1.1 ∙ h))
