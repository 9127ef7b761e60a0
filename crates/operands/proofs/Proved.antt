-- The claims of specs/Claims.antt hold.
use Prim.Native.Nat.{ℕ, zero, suc, ◌+◌, ◌*◌, ◌≤◌, ◌<◌}
use mathlib.Core.Path.{◌≡◌, refl, sym, ap, ◌∙◌}
use mathlib.Core.List.{List, [], ◌∷◌, ◌++◌, append-nil, append_assoc, flat_map, flatten}
use native.Mathlib.Omega.{arith}
use native.Mathlib.Decide.{dec_lt}
use native.Mathlib.Nat.{not-suc-le-zero}
use lib.ListN.{length, take, drop, length-drop, take-append-drop}
use lib.Seq.{drop-drop, drop_at, take_all}
use Rattle.refusal.specs.MeaningAnswer.{Answer, done, refused}
use Rattle.complex_entity.specs.MeaningRising.{here, there}
use Rattle.complex_entity.specs.MeaningParts.{Part}
use Rattle.complex_entity.specs.MeaningRows.{row_of, flat}
use Rattle.complex_entity.specs.MirrorParts.{part_at}
use Rattle.complex_entity.proofs.Rows.{row_long}
use Rattle.rows.specs.MirrorRows.{parts_at}
use Rattle.rows.proofs.Flats.{parts_flat, flat_length}
use Rattle.operands.specs.MeaningOperands.{numbers_from, wanted, first_wrong, dealt, rows_in, read_lists, read_part}
use Rattle.operands.specs.MirrorOperands.{judged}
use Rattle.std.specs.Prelude.{Result, Ok, Err}
use Rattle.operands.specs.Claims.{ListsRead, ListsRefused, PartsRead, Good, AllGood, FirstBad}
use Rattle.operands.proofs.Cuts.{clash, rows_nil, rows_cons}
use Rattle.operands.proofs.RowParts.{good_row, names_back_law}
use Rattle.operands.proofs.Taking.{Seen, whole, wrong, list_seen, lone, taken_whole, part_says, part_wrong}

good_long : (L : List Part) → AllGood L → length (flat L) ≡ 13 * length L
good_long L g = flat_length L (λ p m. (g p m).few)

-- a row among the first of a list's
row_among : (J : List Part) (rest : List ℕ) (k : ℕ) → AllGood J → k < length J → (p : Part) × (more : List ℕ) × Good p × (drop (13 * k) (flat J ++ rest) ≡ row_of p ++ more)
unfolding flat flat_map
row_among [] rest k g h = absurd (not-suc-le-zero h)
row_among (p ∷ J) rest zero g h = (p, flat J ++ rest, g p (here refl), append_assoc (row_of p) (flat J) rest)
row_among (p ∷ J) rest (suc k) g h =
    let t : 13 * suc k ≡ 13 + 13 * k = omega arith in
    let d : drop 13 ((row_of p ++ flat J) ++ rest) ≡ flat J ++ rest = rw (append_assoc (row_of p) (flat J) rest) (drop_at (row_of p) (flat J ++ rest) 13 (row_long p (g p (here refl)).few)) in
    rw (t, ← drop-drop (13 * k) 13 ((row_of p ++ flat J) ++ rest), d) (row_among J rest k (λ q m. g q (there m)) (omega arith))

-- no bad row is among good ones
none_bad : (l : List ℕ) (k : ℕ) (J : List Part) → FirstBad l k → AllGood J → take (13 * length J) l ≡ flat J → k < length J → k < 128 → ⊥
none_bad l k J f g e h u =
    let s : l ≡ flat J ++ drop (13 * length J) l = sym (take-append-drop (13 * length J) l) ∙ ap (λ (x : List ℕ). x ++ drop (13 * length J) l) e in
    let r = row_among J (drop (13 * length J) l) k g h in
    f.bad u r.0 r.1 r.2 (ap (drop (13 * k)) s ∙ r.3)

-- so the first is one, and a list of good rows has none
one_first : (l : List ℕ) (j k : ℕ) → FirstBad l j → FirstBad l k → j < k → ⊥
one_first l j k f g h =
    let b = g.before in
    none_bad l j b.0 f b.3 (rw b.1 b.2) (omega (arith, b.1)) (omega (arith, g.most))

good_none : (l : List ℕ) (k : ℕ) (L : List Part) → FirstBad l k → l ≡ flat L → AllGood L → length L ≤ 128 → ⊥
good_none l k L f e g h =
    let n : length l ≡ 13 * length L = ap length e ∙ good_long L g in
    none_bad l k L f g (take_all (13 * length L) l (omega arith) ∙ e) (omega (arith, f.within)) (omega (arith, f.within))

same_list : (l : List ℕ) (K L : List Part) → l ≡ flat K → l ≡ flat L → AllGood K → AllGood L → K ≡ L
same_list l K L e f g h =
    let a : length l ≡ 13 * length K = ap length e ∙ good_long K g in
    let b : length l ≡ 13 * length L = ap length f ∙ good_long L h in
    let n : length K ≡ length L = omega arith in
    sym (back K g) ∙ ap (λ (x : List ℕ). parts_at (length K) x) (sym e ∙ f) ∙ rw n (back L h)
  where
    back : (L : List Part) → AllGood L → parts_at (length L) (flat L) ≡ L
    back L g = rw (← append-nil (flat L)) (parts_flat L [] (λ p m. (g p m).few))

pub lists_read : ListsRead
lists_read l L = (λ e. out (list_seen l) e, λ h. back (list_seen l) h)
  where
    out : {o : Answer (List Part)} → Seen l o → o ≡ done L → (l ≡ flat L) × AllGood L × (length L ≤ 128)
    out (whole K e g h) d = let k : L ≡ K = cc in rw k (e, g, h)
    out (wrong k f) d = clash (cc)

    back : {o : Answer (List Part)} → Seen l o → (l ≡ flat L) × AllGood L × (length L ≤ 128) → o ≡ done L
    back (whole K e g h) u = ap (λ (x : List Part). done x) (same_list l K L e u.0 g u.1)
    back (wrong k f) u = absurd (good_none l k L f u.0 u.1 u.2)

pub lists_refused : ListsRefused
lists_refused l n k = (λ e. out (list_seen l) e, λ h. back (list_seen l) h)
  where
    out : {o : Answer (List Part)} → Seen l o → o ≡ refused n k → (n ≡ 15) × FirstBad l k
    out (whole K e g h) d = clash (cc)
    out (wrong j f) d = let a : n ≡ 15 = cc in let b : k ≡ j = cc in (a, rw b f)

    back : {o : Answer (List Part)} → Seen l o → (n ≡ 15) × FirstBad l k → o ≡ refused n k
    back (whole K e g h) u = absurd (good_none l k K u.1 e g h)
    back (wrong j f) u = let a : n ≡ 15 = u.0 in let b : j ≡ k = same j f u.1 in rw (a, b) refl
      where
        same : (j : ℕ) → FirstBad l j → FirstBad l k → j ≡ k
        same j f g = elim (dec_lt j k) [
          | yes h ↦ absurd (one_first l j k f g h)
          | no h ↦ elim (dec_lt k j) [ yes i ↦ absurd (one_first l k j g f i) | no i ↦ omega arith ]
        ]

-- the row of a good part is read as that part
part_back : (p : Part) → Good p → read_part (row_of p) ≡ done (p ∷ [])
unfolding read_part read_lists wanted numbers_from first_wrong dealt flatten
part_back p g =
    let n : length (row_of p) ≡ 13 = row_long p g.few in
    let r : rows_in (row_of p) ≡ row_of p ∷ [] =
    rows_cons (row_of p) (omega arith) ∙ rw (take_all 13 (row_of p) (omega arith), rows_nil (drop 13 (row_of p)) (omega (arith, length-drop 13 (row_of p)))) refl in
    rw (r, good_row p g, names_back_law p) refl

pub parts_read : PartsRead
unfolding parts_at flat flat_map
parts_read l L = (λ e. out (judged (1 ∷ []) l) refl e, λ h. rw (h.2, h.1) (part_back h.0 h.3))
  where
    out : (r : Result (Unit {0}) ℕ) → judged (1 ∷ []) l ≡ r → read_part l ≡ done L → (p : Part) × (L ≡ p ∷ []) × (l ≡ row_of p) × Good p
    out (Ok u) w e =
        let t = lone 1 l (taken_whole (1 ∷ []) l w) in
        (part_at l, cc (part_says l w), t.rows ∙ append-nil (row_of (part_at l)), t.good (part_at l) (here refl))
    out (Err k) w e = clash (cc (part_wrong l k w))
