-- Operands with nothing wrong: which lists they are. And those with a wrong row: where the first one is.
use Prim.Native.Nat.{ℕ, zero, suc, ◌+◌, ◌*◌, ◌/◌, ◌≤◌, ◌<◌}
use mathlib.Core.Path.{◌≡◌, refl, sym, ap, ◌∙◌}
use mathlib.Core.List.{List, [], ◌∷◌, ◌++◌, map, flat_map, flatten, append-nil}
use mathlib.Core.Bool.{Bool, true, false, ◌&&◌, and-eq-true_iff}
use mathlib.Core.Option.{Option, none, some}
use native.Mathlib.Omega.{arith}
use native.Mathlib.Nat.{not-suc-le-zero, zero-add}
use lib.ListN.{length, take, drop, length-drop, take-append-drop}
use lib.Seq.{drop-drop, take-add, take_at}
use lib.Dec.{leb, ltb}
use borrow.Author.Tests.{leb-true, leb-false, lt-ltb}
use Rattle.refusal.specs.MeaningAnswer.{Answer, done, refused, mapped}
use Rattle.complex_entity.specs.MeaningRising.{◌∈◌, here, there}
use Rattle.complex_entity.specs.MeaningParts.{Part}
use Rattle.complex_entity.specs.MeaningLists.{most_parts}
use Rattle.complex_entity.specs.MeaningRows.{row_of, flat}
use Rattle.complex_entity.specs.MirrorParts.{part_at}
use Rattle.complex_entity.proofs.Sets.{not_in_nil}
use Rattle.complex_entity.proofs.Rows.{row_long}
use Rattle.rows.specs.MirrorRows.{parts_at}
use Rattle.instantiables.specs.MirrorRows.{lists_at, sum, AllSets}
use Rattle.rows.proofs.Flats.{parts_length, flat_append}
use Rattle.std.specs.Prelude.{Result, Ok, Err}
use Rattle.operands.specs.MeaningOperands.{is_row, names_in, rows_in, numbers_from, wanted, first_wrong, dealt, read_lists, read_list, read_part, Operand, a_list, a_part, read}
use Rattle.operands.specs.MirrorOperands.{good_from, read_of, judged, counts_of, Operable}
use Rattle.operands.specs.Claims.{Good, AllGood, FirstBad}
use Rattle.operands.proofs.Cuts.{clash, rows_nil, rows_cons, rows_count, Run, ends, stops, goes, run, run_stops, run_on, run_there, run_few, run_most}
use Rattle.operands.proofs.RowParts.{row_good, row_is_of, good_row, part_names}

-- ---- rows as parts
taken : (n : ℕ) (l : List ℕ) → 13 * n ≤ length l → take n (map names_in (rows_in l)) ≡ parts_at n l
unfolding parts_at
taken zero l h = refl
taken (suc n) l h = rw (rows_cons l (omega arith), part_names l, taken n (drop 13 l) (omega (arith, length-drop 13 l))) refl

left_over : (n : ℕ) (l : List ℕ) → 13 * n ≤ length l → drop n (map names_in (rows_in l)) ≡ map names_in (rows_in (drop (13 * n) l))
left_over zero l h = refl
left_over (suc n) l h =
    let t : 13 * suc n ≡ 13 + 13 * n = omega arith in
    rw (rows_cons l (omega arith), t, ← drop-drop (13 * n) 13 l) (left_over n (drop 13 l) (omega (arith, length-drop 13 l)))

dealt_is : (ns l : List ℕ) → 13 * sum ns ≤ length l → dealt ns (map names_in (rows_in l)) ≡ lists_at ns l
unfolding dealt lists_at sum
dealt_is [] l h = refl
dealt_is (n ∷ ns) l h =
    rw (taken n l (omega arith), left_over n l (omega arith), dealt_is ns (drop (13 * n) l) (omega (arith, length-drop (13 * n) l))) refl

-- ---- the good rows in front
run_front : {i n : ℕ} {l : List ℕ} {g : ℕ} → Run i n l g → (take (13 * g) l ≡ flat (parts_at g l)) × AllGood (parts_at g l)
unfolding parts_at flat flat_map
run_front ends = (refl, λ p m. absurd (not_in_nil m))
run_front (stops e) = (refl, λ p m. absurd (not_in_nil m))
run_front {i} {n} {l} (goes {g = g} e r) =
    let b : is_row (take 13 l) ≡ true = ((and-eq-true_iff (ltb i most_parts) (is_row (take 13 l))).0 e).1 in
    let w : take 13 l ≡ row_of (part_at l) = row_is_of (take 13 l) b ∙ ap row_of (part_names l) in
    let t : 13 * suc g ≡ 13 + 13 * g = omega arith in
    let f = run_front r in
    (rw t (take-add 13 (13 * g) l ∙ rw (w, f.0) refl), λ p m. go p m (rw (part_names l) at (row_good (take 13 l) b)) f.1)
  where
    go : (p : Part) → p ∈ (part_at l ∷ parts_at g (drop 13 l)) → Good (part_at l) → AllGood (parts_at g (drop 13 l)) → Good p
    go p (here d) u v = rw d u
    go p (there m) u v = v p m

run_upto : {i n : ℕ} {l : List ℕ} {g : ℕ} → Run i n l g → g ≤ n
run_upto ends = omega arith
run_upto (stops e) = omega arith
run_upto (goes e r) = omega (arith, run_upto r)

-- the row after them is not good
run_bad : {i n : ℕ} {l : List ℕ} {g : ℕ} → Run i n l g → g < n → (ltb (i + g) most_parts && is_row (take 13 (drop (13 * g) l))) ≡ false
run_bad ends h = absurd (not-suc-le-zero h)
run_bad {i} (stops e) h = let z : i + 0 ≡ i = omega arith in rw z e
run_bad {i} {n} {l} (goes {g = g} e r) h =
    let s : i + suc g ≡ suc i + g = omega arith in
    let t : 13 * suc g ≡ 13 + 13 * g = omega arith in
    rw (s, t, ← drop-drop (13 * g) 13 l) (run_bad r (omega arith))

-- ---- nothing is wrong
pub record Taken (ns l : List ℕ) : Type 0 where
  pub whole : 13 * sum ns ≡ length l
  pub rows : l ≡ flat (flatten (lists_at ns l))
  pub good : (L : List Part) → L ∈ lists_at ns l → AllGood L × (length L ≤ 128)

none_wrong : (ns : List ℕ) (k : ℕ) (l : List ℕ) → first_wrong k (wanted ns) (rows_in l) ≡ none → Taken ns l
unfolding wanted first_wrong lists_at sum flat flat_map flatten
none_wrong [] k [] e = record { whole = refl; rows = refl; good = λ L m. absurd (not_in_nil m) }
none_wrong [] k (x ∷ l) e = clash (cc (rw (rows_cons (x ∷ l) (omega arith)) at e))
none_wrong (n ∷ ns) k l e = go (leb n (good_from 0 n l)) refl (λ f. none_wrong ns (k + n) (drop (13 * n) l) f)
  where
    go : (b : Bool) → leb n (good_from 0 n l) ≡ b → (first_wrong (k + n) (wanted ns) (rows_in (drop (13 * n) l)) ≡ none → Taken ns (drop (13 * n) l)) → Taken (n ∷ ns) l
    go false b f = clash (cc (run_stops (run 0 n l) (leb-false n (good_from 0 n l) b) k (wanted ns)))
    go true b f = joined (leb-true n (good_from 0 n l) b) (f (sym (run_on (run 0 n l) (leb-true n (good_from 0 n l) b) k (wanted ns)) ∙ e))
      where
        joined : n ≤ good_from 0 n l → Taken ns (drop (13 * n) l) → Taken (n ∷ ns) l
        joined h t =
            let g : good_from 0 n l ≡ n = omega (arith, run_upto (run 0 n l)) in
            let f = rw g at (run_front (run 0 n l)) in
            record {
              whole = omega (arith, t.whole, length-drop (13 * n) l, run_there (run 0 n l) h);
              rows =
                  sym (take-append-drop (13 * n) l) ∙ ap (λ (x : List ℕ). x ++ drop (13 * n) l) f.0
                  ∙ ap (λ (x : List ℕ). flat (parts_at n l) ++ x) t.rows
                  ∙ sym (flat_append (parts_at n l) (flatten (lists_at ns (drop (13 * n) l))));
              good = λ L m. which L m f.1 (omega (arith, parts_length n l, run_few (run 0 n l) h (omega arith))) t.good;
            }
          where
            which : (L : List Part) → L ∈ (parts_at n l ∷ lists_at ns (drop (13 * n) l)) → AllGood (parts_at n l) → length (parts_at n l) ≤ 128
                → ((K : List Part) → K ∈ lists_at ns (drop (13 * n) l) → AllGood K × (length K ≤ 128)) → AllGood L × (length L ≤ 128)
            which L (here d) u v w = rw d (u, v)
            which L (there m) u v w = w L m

-- ---- what is read then
whole_is : (o : Option ℕ) → read_of o ≡ Ok tt → o ≡ none
whole_is none e = refl
whole_is (some k) e = clash (cc)

module _ (ns l : List ℕ) (e : judged ns l ≡ Ok tt) where
  nothing : first_wrong 0 (wanted ns) (rows_in l) ≡ none
  unfolding judged
  nothing = whole_is (first_wrong 0 (wanted ns) (rows_in l)) e

  pub taken_whole : Taken ns l
  taken_whole = none_wrong ns 0 l nothing

  pub taken_says : read_lists ns l ≡ done (lists_at ns l)
  unfolding read_lists
  taken_says = rw (nothing, dealt_is ns l (omega (arith, taken_whole.whole))) refl

  pub taken_sets : AllSets (lists_at ns l)
  taken_sets L m p i = ((taken_whole.good L m).0 p i).rising

  pub taken_room : 13 * sum ns ≤ length l
  taken_room = omega (arith, taken_whole.whole)

-- one list of n rows
pub record Lone (n : ℕ) (l : List ℕ) : Type 0 where
  pub whole : 13 * n ≡ length l
  pub rows : l ≡ flat (parts_at n l)
  pub good : AllGood (parts_at n l)
  pub few : n ≤ 128

module _ (n : ℕ) (l : List ℕ) where
  pub lone : Taken (n ∷ []) l → Lone n l
  unfolding lists_at sum flatten
  lone t =
      let g = t.good (parts_at n l) (here refl) in
      record {
        whole = omega (arith, t.whole);
        rows = t.rows ∙ ap flat (append-nil (parts_at n l));
        good = g.0;
        few = omega (arith, g.1, parts_length n l);
      }

  lone_says : judged (n ∷ []) l ≡ Ok tt → mapped flatten (read_lists (n ∷ []) l) ≡ done (parts_at n l)
  unfolding lists_at flatten
  lone_says e = rw (taken_says (n ∷ []) l e) (ap (λ (L : List Part). done L) (append-nil (parts_at n l)))

-- a good operand
operable : (n : ℕ) (l : List ℕ) → judged (n ∷ []) l ≡ Ok tt → (n ≡ length l / 13) × Operable l
operable n l e =
    let t = lone n l (taken_whole (n ∷ []) l e) in
    let d : n ≡ length l / 13 = omega (arith, t.whole) in
    (d, record { whole = omega (arith, t.whole); few = omega (arith, t.few); sets = rw (← d) (λ p m. (t.good p m).rising) })

module _ (i : Operand) (l : List ℕ) (r : Result (Unit {0}) ℕ) (w : r ≡ judged (counts_of i l) l) (e : r ≡ Ok tt) where
  pub operand_operable : Operable l
  operand_operable = go i (sym w ∙ e)
    where
      go : (i : Operand) → judged (counts_of i l) l ≡ Ok tt → Operable l
      go a_list u = (operable (length (rows_in l)) l u).1
      go a_part u = (operable 1 l u).1

  pub operand_says : read i l ≡ done (parts_at (length l / 13) l)
  unfolding read read_list read_part
  operand_says = go i (sym w ∙ e)
    where
      go : (i : Operand) → judged (counts_of i l) l ≡ Ok tt → read i l ≡ done (parts_at (length l / 13) l)
      go a_list u = lone_says (length (rows_in l)) l u ∙ ap (λ (n : ℕ). done (parts_at n l)) (operable (length (rows_in l)) l u).0
      go a_part u = lone_says 1 l u ∙ ap (λ (n : ℕ). done (parts_at n l)) (operable 1 l u).0

-- ---- something is wrong
wrong_is : (o : Option ℕ) (k : ℕ) → read_of o ≡ Err k → o ≡ some k
wrong_is none k e = clash (cc)
wrong_is (some j) k e = ap (λ (i : ℕ). some i) (cc)

module _ (ns l : List ℕ) (k : ℕ) (e : judged ns l ≡ Err k) where
  pub wrong_says : read_lists ns l ≡ refused 15 k
  unfolding judged read_lists
  wrong_says = rw (wrong_is (first_wrong 0 (wanted ns) (rows_in l)) k e) refl

pub operand_wrong : (i : Operand) (l : List ℕ) (r : Result (Unit {0}) ℕ) (k : ℕ) → r ≡ judged (counts_of i l) l → r ≡ Err k → read i l ≡ refused 15 k
unfolding read read_list read_part
operand_wrong i l r k w e = go i (sym w ∙ e)
  where
    go : (i : Operand) → judged (counts_of i l) l ≡ Err k → read i l ≡ refused 15 k
    go a_list u = rw (wrong_says (length (rows_in l) ∷ []) l k u) refl
    go a_part u = rw (wrong_says (1 ∷ []) l k u) refl

-- one part
pub part_says : (l : List ℕ) → judged (1 ∷ []) l ≡ Ok tt → read_part l ≡ done (part_at l ∷ [])
unfolding read_part parts_at
part_says l w = lone_says 1 l w

pub part_wrong : (l : List ℕ) (k : ℕ) → judged (1 ∷ []) l ≡ Err k → read_part l ≡ refused 15 k
unfolding read_part
part_wrong l k w = rw (wrong_says (1 ∷ []) l k w) refl

-- what is read of a part operand
module _ (l : List ℕ) (r : Result (Unit {0}) ℕ) (w : r ≡ judged (1 ∷ []) l) where
  pub part_room : r ≡ Ok tt → 0 + 13 ≤ length l
  part_room e = omega (arith, (lone 1 l (taken_whole (1 ∷ []) l (sym w ∙ e))).whole)

  pub part_read : r ≡ Ok tt → read_part l ≡ done (part_at l ∷ [])
  part_read e = part_says l (sym w ∙ e)

  pub part_refused : (k : ℕ) → r ≡ Err k → read_part l ≡ refused 15 k
  part_refused k e = part_wrong l k (sym w ∙ e)

-- ---- a list is its rows, or has a first bad one
pub data Seen (l : List ℕ) : Answer (List Part) → Type 0 where
  whole : (L : List Part) → l ≡ flat L → AllGood L → length L ≤ 128 → Seen l (done L)
  wrong : (k : ℕ) → FirstBad l k → Seen l (refused 15 k)

first_bad : (l : List ℕ) (g : ℕ) → Run 0 (length (rows_in l)) l g → g < length (rows_in l) → FirstBad l g
first_bad l g r h =
    let f = run_front r in
    record {
      before = (parts_at g l, parts_length g l, f.0, f.1);
      within = omega (arith, (rows_count (length l) l (omega arith)).0);
      bad = λ k p rest u e. go k p rest u e (rw (zero-add g, lt-ltb g 128 k) at (run_bad r h));
      most = omega (arith, run_most r (omega arith));
    }
  where
    go : g < most_parts → (p : Part) (rest : List ℕ) → Good p → drop (13 * g) l ≡ row_of p ++ rest → is_row (take 13 (drop (13 * g) l)) ≡ false → ⊥
    go k p rest u e b =
        let t : take 13 (drop (13 * g) l) ≡ row_of p = rw e (take_at (row_of p) rest 13 (row_long p u.few)) in
        clash (cc (good_row p u, t))

wrong_place : (l : List ℕ) (k : ℕ) → judged (length (rows_in l) ∷ []) l ≡ Err k → FirstBad l k
unfolding judged wanted first_wrong
wrong_place l k e = go (leb n g) refl (wrong_is (first_wrong 0 (numbers_from 0 n ++ []) (rows_in l)) k e)
  where
    n : ℕ
    n = length (rows_in l)

    g : ℕ
    g = good_from 0 n l

    go : (b : Bool) → leb n g ≡ b → first_wrong 0 (numbers_from 0 n ++ []) (rows_in l) ≡ some k → FirstBad l k
    go false b f =
        let h : g < n = leb-false n g b in
        let d : k ≡ g = cc (run_stops (run 0 n l) h 0 [], zero-add g) in
        rw d (first_bad l g (run 0 n l) h)
    go true b f =
        let o : first_wrong 0 (numbers_from 0 n ++ []) (rows_in l) ≡ none =
        run_on (run 0 n l) (leb-true n g b) 0 []
        ∙ rw (rows_nil (drop (13 * n) l) (omega (arith, length-drop (13 * n) l, (rows_count (length l) l (omega arith)).1))) refl in
        clash (cc)

pub list_seen : (l : List ℕ) → Seen l (read_list l)
unfolding read_list
list_seen l = go (judged (length (rows_in l) ∷ []) l) refl
  where
    go : (r : Result (Unit {0}) ℕ) → judged (length (rows_in l) ∷ []) l ≡ r → Seen l (mapped flatten (read_lists (length (rows_in l) ∷ []) l))
    go (Ok u) e =
        let t = lone (length (rows_in l)) l (taken_whole (length (rows_in l) ∷ []) l e) in
        rw (lone_says (length (rows_in l)) l e)
        (whole (parts_at (length (rows_in l)) l) t.rows t.good (omega (arith, t.few, parts_length (length (rows_in l)) l)))
    go (Err k) e = rw (wrong_says (length (rows_in l) ∷ []) l k e) (wrong k (wrong_place l k e))
