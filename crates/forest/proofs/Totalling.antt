-- What fits row by row and count by count is what fits as a whole: `fits` and `Fits`.
use mathlib.Core.Path.{◌≡◌, refl, sym, ap, subst, ◌∙◌}
use mathlib.Core.List.{List, [], ◌∷◌, ◌++◌, append_assoc, append-nil}
use mathlib.Core.Logic.{◌↔◌}
use mathlib.Core.Bool.{Bool, true, false, cond}
use Prim.Native.Nat.{ℕ, suc, ◌+◌, ◌-◌, ◌<◌, ◌≤◌}
use native.Mathlib.Omega.{arith}
use borrow.Author.Tests.{eqb-true, eq-eqb, lt-ltb, ltb-true, leb-true, leb-false}
use lib.Dec.{eqb, ltb, leb}
use lib.ListN.{length, drop, length-append}
use Rattle.std.specs.Prelude.{Option, Some, None}
use Rattle.grammar.specs.MeaningReading.{Reading}
use Rattle.sheet.specs.MeaningName.{is_name}
use Rattle.grammar.specs.MeaningGrammar.{one_of, expressions, slots_of, Fills, Kind, kind_of, holds_simple, most_bytes, most_depth, Limit, most, counts}
use Rattle.grammar.specs.MeaningGrammar.Kind.{name, simple, empty, fields}
use Rattle.grammar.specs.MeaningGrammar.Limit.{schemas, declarations, constraints, terms}
use Rattle.sheet.specs.Claims.{AllBytes}
use Rattle.grammar.specs.MirrorTable.{row_count, cell_at, row_of}
use Rattle.sheet.specs.MirrorCheck.{count_up, no_counts}
use Rattle.sheet.specs.declared.Counts.{Counts}
use Rattle.grammar.proofs.Choosing.{either, clash}
use Rattle.sheet.proofs.Deciding.{NoFault, no_fault, faultless}
use Rattle.grammar.proofs.Tabulated.{Fit, sheet_fit, no_row, end_row, no_end, next_fit, new_fit, class_of, level_of, answer_of_law}
use Rattle.sheet.proofs.Valuing.{fault_kind, value_is, holds_fields_law, holds_none}
use Rattle.sheet.proofs.Counting.{of, AllTallied, all_tallied}
use Rattle.forest.specs.MeaningForest.{Forest, field, encode, tags_in, Sound, Right, total, larger, height, Fits}
use Rattle.forest.specs.MeaningForest.Forest.{nil, leaf, node}
use Rattle.forest.proofs.Laying.{bytes_left, bytes_right}
use Rattle.forest.proofs.Fitting.{fits, fits_leaf, fits_node, leaf_fits, node_fits, nil_fits, fits_nil}

-- ---- the value of one field

fault_none : (k : Kind) (v : List ℕ) → fault_kind k v ≡ 0 → (k ≡ fields → ⊥) → Sound k v
fault_none name v q n = go (is_name v) refl q
  where
    go : (b : Bool) → is_name v ≡ b → ◌≡◌ {A = ℕ} (cond b 0 4) 0 → is_name v ≡ true
    go true e r = e
    go false e r = clash (let z : ◌≡◌ {A = ℕ} 4 0 = r in omega arith)
fault_none simple v q n = go (holds_simple v) refl q
  where
    go : (b : Bool) → holds_simple v ≡ b → ◌≡◌ {A = ℕ} (cond b 0 3) 0 → holds_simple v ≡ true
    go true e r = e
    go false e r = clash (let z : ◌≡◌ {A = ℕ} 3 0 = r in omega arith)
fault_none empty v q n = go (eqb (length v) 0) refl q
  where
    go : (b : Bool) → eqb (length v) 0 ≡ b → ◌≡◌ {A = ℕ} (cond b 0 3) 0 → length v ≡ 0
    go true e r = eqb-true (length v) 0 e
    go false e r = clash (let z : ◌≡◌ {A = ℕ} 3 0 = r in omega arith)
fault_none fields v q n = absurd (n refl)

none_fault : (k : Kind) (v : List ℕ) → Sound k v → (fault_kind k v ≡ 0) × (k ≡ fields → ⊥)
none_fault name v x = (rw x refl, λ q. clash (cc))
none_fault simple v x = (rw x refl, λ q. clash (cc))
none_fault empty v x = (rw (eq-eqb (length v) 0 x) refl, λ q. clash (cc))
none_fault fields v x = absurd x

-- ---- a field that fits, by its row

module _ (p st t : ℕ) (b : t < 256) (h : ltb (row_of p st t) row_count ≡ true) where
  is_nested : kind_of t ≡ fields → eqb (cell_at (row_of p st t) 7) 0 ≡ true
  is_nested k = go (eqb (cell_at (row_of p st t) 7) 0) refl
    where
      go : (x : Bool) → eqb (cell_at (row_of p st t) 7) 0 ≡ x → eqb (cell_at (row_of p st t) 7) 0 ≡ true
      go true e = e
      go false e = absurd (holds_none p st t b h e k)

  is_plain : (kind_of t ≡ fields → ⊥) → eqb (cell_at (row_of p st t) 7) 0 ≡ false
  is_plain n = go (eqb (cell_at (row_of p st t) 7) 0) refl
    where
      go : (x : Bool) → eqb (cell_at (row_of p st t) 7) 0 ≡ x → eqb (cell_at (row_of p st t) 7) 0 ≡ false
      go true e = absurd (n (holds_fields_law p st t b h e))
      go false e = e

  -- the slots that are left, one tag longer
  longer : (es : List ℕ) → Fit p es st → (ts : List ℕ) → Fills (drop (cell_at (row_of p st t) 4) (slots_of p)) ts ↔ Fills (drop st (slots_of p)) (t ∷ ts)
  longer es F ts =
      let G = next_fit p st t b h es F in (
        λ r. (F.says (t ∷ ts)).0 (subst (Fills (slots_of p)) (append_assoc es (t ∷ []) ts) ((G.says ts).1 r)),
        λ r. (G.says ts).0 (subst (Fills (slots_of p)) (sym (append_assoc es (t ∷ []) ts)) ((F.says (t ∷ ts)).1 r)),
      )

  tallies : (c : Counts) → AllTallied p t c (count_up (cell_at (row_of p st t) 8) c)
  tallies c = all_tallied p t c (cell_at (row_of p st t) 8) (class_of p st t b h)

larger_le : (a b d : ℕ) → a ≤ d → b ≤ d → larger a b ≤ d
larger_le a b d h k = either (λ (x : ℕ). x ≤ d) (leb a b) b a (λ _. k) (λ _. h)

le_larger : (a b d : ℕ) → larger a b ≤ d → (a ≤ d) × (b ≤ d)
le_larger a b d h = go (leb a b) refl h
  where
    go : (x : Bool) → leb a b ≡ x → cond x b a ≤ d → (a ≤ d) × (b ≤ d)
    go true e k = (omega (arith, leb-true a b e), k)
    go false e k = (k, omega (arith, leb-false a b e))

-- ---- what fits, as the whole forest has it

record Whole (rd : Reading) (p st d : ℕ) (c c' : Counts) (f : Forest) : Type 0 where
  filled : Fills (drop st (slots_of p)) (tags_in f)
  right : Right rd p f
  counted : (l : Limit) → of l c' ≡ of l c + total l p f
  kept : (l : Limit) → of l c ≤ most l → of l c' ≤ most l
  shallow : height f ≤ d

one_more : (p t : ℕ) (c c1 : Counts) (l : Limit) → of l c1 ≡ of l c + cond (counts l p t) 1 0 → (counts l p t ≡ true → of l c < most l) → of l c ≤ most l → of l c1 ≤ most l
one_more p t c c1 l q r h = go (counts l p t) refl q
  where
    go : (b : Bool) → counts l p t ≡ b → of l c1 ≡ of l c + cond b 1 0 → of l c1 ≤ most l
    go true e k = omega (arith, r e)
    go false e k = omega arith

to_whole : (f : Forest) (rd : Reading) (p st d : ℕ) (es : List ℕ) (c c' : Counts) → Fit p es st → AllBytes (encode f) → length (encode f) ≤ most_bytes → fits rd p st d c f ≡ Some c' → Whole rd p st d c c' f
unfolding encode field
to_whole nil rd p st d es c c' F b n q =
    let z = nil_fits rd p st d c c' q in
    record {
      filled = (F.says []).0 (subst (Fills (slots_of p)) (sym (append-nil es)) (end_row p es st F z.0));
      right = tt;
      counted = λ l. omega (arith, ap (of l) z.1);
      kept = λ l h. omega (arith, ap (of l) z.1);
      shallow = omega arith;
    }
to_whole (leaf t v f) rd p st d es c c' F b n q =
    let x = leaf_fits rd p st d t c c' v f q in
    let N = no_fault rd v (row_of p st t) d x.fault in
    let h : ltb (row_of p st t) row_count ≡ true = lt-ltb (row_of p st t) row_count N.row in
    let k = subst (AllTallied p t c) x.count (tallies p st t (b 0) h c) in
    let la = length-append v (encode f) in
    let vl : length v ≤ most_bytes = omega arith in
    let i = to_whole f rd p (cell_at (row_of p st t) 4) d (es ++ (t ∷ [])) x.with_it c' (next_fit p st t (b 0) h es F) (bytes_right (field t v) (encode f) b) (omega arith) x.rest in
    record {
      filled = (longer p st t (b 0) h es F (tags_in f)).0 i.filled;
      right = (sym (answer_of_law p st t (b 0) h rd) ∙ N.answer, fault_none (kind_of t) v (sym (value_is p st t (b 0) h v vl) ∙ N.value) (holds_none p st t (b 0) h x.plain), i.right);
      counted = λ l. omega (arith, i.counted l, (k l).0);
      kept = λ l g. i.kept l (one_more p t c x.with_it l (k l).0 (k l).1 g);
      shallow = larger_le (cond (one_of expressions t) 1 0) (height f) d (omega (arith, N.room, level_of p st t (b 0) h)) i.shallow;
    }
to_whole (node t g f) rd p st d es c c' F b n q =
    let x = node_fits rd p st d t c c' g f q in
    let N = no_fault rd (encode g) (row_of p st t) d x.fault in
    let h : ltb (row_of p st t) row_count ≡ true = lt-ltb (row_of p st t) row_count N.row in
    let k = subst (AllTallied p t c) x.count (tallies p st t (b 0) h c) in
    let la = length-append (encode g) (encode f) in
    let bf = bytes_left (field t (encode g)) (encode f) b in
    let kd = holds_fields_law p st t (b 0) h x.nested in
    let j = to_whole g rd t 0 (d - cell_at (row_of p st t) 9) [] x.with_it x.inside (new_fit p st t (b 0) h kd) (λ i. bf (suc (suc (suc i)))) (omega arith) x.inner in
    let i = to_whole f rd p (cell_at (row_of p st t) 4) d (es ++ (t ∷ [])) x.inside c' (next_fit p st t (b 0) h es F) (bytes_right (field t (encode g)) (encode f) b) (omega arith) x.rest in
    record {
      filled = (longer p st t (b 0) h es F (tags_in f)).0 i.filled;
      right = (sym (answer_of_law p st t (b 0) h rd) ∙ N.answer, kd, j.filled, j.right, i.right);
      counted = λ l. omega (arith, i.counted l, j.counted l, (k l).0);
      kept = λ l e. i.kept l (j.kept l (one_more p t c x.with_it l (k l).0 (k l).1 e));
      shallow = larger_le (cond (one_of expressions t) 1 0 + height g) (height f) d (omega (arith, N.room, level_of p st t (b 0) h, j.shallow)) i.shallow;
    }

-- ---- and back

has_row : (p : ℕ) (es : List ℕ) (st t : ℕ) (ts : List ℕ) → Fit p es st → Fills (drop st (slots_of p)) (t ∷ ts) → ltb (row_of p st t) row_count ≡ true
has_row p es st t ts F r = go (ltb (row_of p st t) row_count) refl
  where
    go : (b : Bool) → ltb (row_of p st t) row_count ≡ b → ltb (row_of p st t) row_count ≡ true
    go true e = e
    go false e = absurd (no_row p es st t F e ts ((F.says (t ∷ ts)).1 r))

has_end : (p : ℕ) (es : List ℕ) (st : ℕ) → Fit p es st → Fills (drop st (slots_of p)) [] → ltb (row_of p st 256) row_count ≡ true
has_end p es st F r = go (ltb (row_of p st 256) row_count) refl
  where
    go : (b : Bool) → ltb (row_of p st 256) row_count ≡ b → ltb (row_of p st 256) row_count ≡ true
    go true e = e
    go false e = absurd (no_end p es st F e (subst (Fills (slots_of p)) (append-nil es) ((F.says []).1 r)))

has_count : (p t : ℕ) (c : Counts) (x : Option Counts) → AllTallied p t c x → ((l : Limit) → of l c + cond (counts l p t) 1 0 ≤ most l) → (c1 : Counts) × (x ≡ Some c1) × ((l : Limit) → of l c1 ≡ of l c + cond (counts l p t) 1 0)
has_count p t c (Some c1) q h = (c1, refl, λ l. (q l).0)
has_count p t c None (l, q) h = absurd (let z : of l c + 1 ≤ most l = rw q.0 at (h l) in let y : ⊥ = omega (arith, q.1) in y)

from_whole : (f : Forest) (rd : Reading) (p st d : ℕ) (es : List ℕ) (c : Counts) → Fit p es st → AllBytes (encode f) → length (encode f) ≤ most_bytes
    → Fills (drop st (slots_of p)) (tags_in f) → Right rd p f → ((l : Limit) → of l c + total l p f ≤ most l) → height f ≤ d
    → (c' : Counts) × (fits rd p st d c f ≡ Some c') × ((l : Limit) → of l c' ≡ of l c + total l p f)
unfolding encode field
from_whole nil rd p st d es c F b n r x h k = (c, fits_nil rd p st d c (has_end p es st F r), λ l. omega arith)
from_whole (leaf t v f) rd p st d es c F b n r x h k =
    let row = has_row p es st t (tags_in f) F r in
    let kk = le_larger (cond (one_of expressions t) 1 0) (height f) d k in
    let m = has_count p t c (count_up (cell_at (row_of p st t) 8) c) (tallies p st t (b 0) row c) (λ l. omega (arith, h l)) in
    let la = length-append v (encode f) in
    let vl : length v ≤ most_bytes = omega arith in
    let s = none_fault (kind_of t) v x.1 in
    let N : NoFault rd v (row_of p st t) d = record { row = ltb-true (row_of p st t) row_count row; answer = answer_of_law p st t (b 0) row rd ∙ x.0; value = value_is p st t (b 0) row v vl ∙ s.0; room = omega (arith, level_of p st t (b 0) row, kk.0) } in
    let i = from_whole f rd p (cell_at (row_of p st t) 4) d (es ++ (t ∷ [])) m.0 (next_fit p st t (b 0) row es F) (bytes_right (field t v) (encode f) b) (omega arith)
    ((longer p st t (b 0) row es F (tags_in f)).1 r) x.2 (λ l. omega (arith, h l, m.2 l)) kk.1 in (
      i.0,
      fits_leaf rd p st d t c i.0 v f (record { fault = faultless rd v (row_of p st t) d N; plain = is_plain p st t (b 0) row s.1; with_it = m.0; count = m.1; rest = i.1 }),
      λ l. omega (arith, i.2 l, m.2 l),
    )
from_whole (node t g f) rd p st d es c F b n r x h k =
    let row = has_row p es st t (tags_in f) F r in
    let kk = le_larger (cond (one_of expressions t) 1 0 + height g) (height f) d k in
    let m = has_count p t c (count_up (cell_at (row_of p st t) 8) c) (tallies p st t (b 0) row c) (λ l. omega (arith, h l)) in
    let la = length-append (encode g) (encode f) in
    let bf = bytes_left (field t (encode g)) (encode f) b in
    let gl : length (encode g) ≤ most_bytes = omega arith in
    let N : NoFault rd (encode g) (row_of p st t) d = record {
      row = ltb-true (row_of p st t) row_count row;
      answer = answer_of_law p st t (b 0) row rd ∙ x.0;
      value = value_is p st t (b 0) row (encode g) gl ∙ ap (λ (k : Kind). fault_kind k (encode g)) x.1;
      room = omega (arith, level_of p st t (b 0) row, kk.0);
    } in
    let hd : height g ≤ d - cell_at (row_of p st t) 9 = omega (arith, level_of p st t (b 0) row, kk.0) in
    let j = from_whole g rd t 0 (d - cell_at (row_of p st t) 9) [] m.0 (new_fit p st t (b 0) row x.1) (λ i. bf (suc (suc (suc i)))) gl x.2 x.3 (λ l. omega (arith, h l, m.2 l)) hd in
    let i = from_whole f rd p (cell_at (row_of p st t) 4) d (es ++ (t ∷ [])) j.0 (next_fit p st t (b 0) row es F) (bytes_right (field t (encode g)) (encode f) b) (omega arith)
    ((longer p st t (b 0) row es F (tags_in f)).1 r) x.4 (λ l. omega (arith, h l, m.2 l, j.2 l)) kk.1 in (
      i.0,
      fits_node rd p st d t c i.0 g f (record { fault = faultless rd (encode g) (row_of p st t) d N; nested = is_nested p st t (b 0) row x.1; with_it = m.0; count = m.1; inside = j.0; inner = j.1; rest = i.1 }),
      λ l. omega (arith, i.2 l, j.2 l, m.2 l),
    )

-- ---- the theorem

zeros : (l : Limit) → of l no_counts ≡ 0
unfolding no_counts
zeros schemas = refl
zeros declarations = refl
zeros constraints = refl
zeros terms = refl

pub fits_whole : (rd : Reading) (f : Forest) → AllBytes (encode f) → length (encode f) ≤ most_bytes → (c : Counts) → fits rd 0 0 most_depth no_counts f ≡ Some c → Fits rd f
fits_whole rd f b n c q =
    let w = to_whole f rd 0 0 most_depth [] no_counts c sheet_fit b n q in
    record { filled = w.filled; right = w.right; limits = λ l. (let z = w.kept l (let y : of l no_counts ≤ most l = omega (arith, zeros l) in y) in omega (arith, w.counted l, zeros l)); shallow = w.shallow; short = n }

pub whole_fits : (rd : Reading) (f : Forest) → AllBytes (encode f) → Fits rd f → (c : Counts) × (fits rd 0 0 most_depth no_counts f ≡ Some c)
whole_fits rd f b F =
    let w = from_whole f rd 0 0 most_depth [] no_counts sheet_fit b F.short F.filled F.right (λ l. omega (arith, zeros l, F.limits l)) F.shallow in
    (w.0, w.1)
