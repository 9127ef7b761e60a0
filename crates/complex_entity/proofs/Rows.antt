-- A part as a row of 13 numbers: what is read back is what was written, and how a row is read and written.
use Prim.Native.Nat.{ℕ, suc, ◌+◌, ◌-◌, ◌≤◌}
use mathlib.Core.Path.{◌≡◌, refl, sym, ap, ◌∙◌}
use mathlib.Core.List.{List, [], ◌∷◌, ◌++◌, append_assoc, append-nil}
use native.Mathlib.Omega.{arith}
use lib.ListN.{length, take, drop, set, replicate, length-take, length-drop, drop_of_length-le}
use lib.Seq.{take-take, take_at, paste, length-take-le}
use borrow.Rule.Slice.PartMut.{put_mid}
use Rattle.std.proofs.lemmas.List.{drop-replicate}
use Rattle.std.proofs.lemmas.Slice.{put_mid-paste}
use Rattle.complex_entity.specs.declared.PartialComplexEntity.{PartialComplexEntity}
use Rattle.complex_entity.specs.MeaningParts.{Part}
use Rattle.complex_entity.specs.MeaningRows.{row_of}
use Rattle.complex_entity.specs.MirrorParts.{names_of, part_of, part_at}
use Rattle.complex_entity.proofs.Names.{names_few, part_is, part_long}

pub part_at_few : (l : List ℕ) → length (part_at l) ≤ 12
part_at_few l = rw (length-take, length-take) (omega arith)

module _ (p : Part) (few : length p ≤ 12) where
  pub row_long : length (row_of p) ≡ 13
  unfolding row_of
  row_long = ap suc (part_long p few)

  pub part_at_row : (rest : List ℕ) → part_at (row_of p ++ rest) ≡ p
  unfolding row_of
  part_at_row rest =
      take-take (length p) 12 ((p ++ replicate (12 - length p) 0) ++ rest) few
      ∙ rw append_assoc (take_at p (replicate (12 - length p) 0 ++ rest) (length p) refl)

-- the names of a row go to the front of an array of zeros
pub row_read : (names new q : Part) → new ≡ names → names ≡ q → length q ≤ 12
    → ◌≡◌ {A = PartialComplexEntity} (record { n = length names; names = new ++ drop (length names) (replicate 12 0) }) (part_of q)
row_read names new q f e h =
    let z : ℕ = 0 in
    part_is (length names) (new ++ drop (length names) (replicate 12 0)) q (ap length (sym e)) (rw (f, e, drop-replicate (length q) 12 z) refl)

-- a count and twelve numbers go to a row, of which nothing is left
row_filled : (row new : List ℕ) (n : ℕ) → length row ≡ 13 → length new ≡ 12 → put_mid 1 (length (set row 0 n) - 1) (set row 0 n) new ≡ n ∷ new
row_filled [] new n e f = absurd (omega (arith, e))
row_filled (x ∷ xs) new n e f =
    let k : length (n ∷ xs) - 1 ≡ 12 = omega (arith, e) in
    ap (λ (l : List ℕ). n ∷ (new ++ l)) (ap (λ (j : ℕ). drop j xs) k ∙ drop_of_length-le xs {i = 12} (omega (arith, e))) ∙ ap (λ (l : List ℕ). n ∷ l) (append-nil new)

-- a part with zeros after its names: its numbers are the row's
pub row_written : (p : PartialComplexEntity) (rows new : List ℕ) (at : ℕ) → at + 13 ≤ length rows → length p.names ≡ 12 → p ≡ part_of (names_of p) → new ≡ p.names
    → put_mid at (at + 13 - at) rows (put_mid 1 (length (set (take (at + 13 - at) (drop at rows)) 0 p.n) - 1) (set (take (at + 13 - at) (drop at rows)) 0 p.n) new)
    ≡ paste rows at (row_of (names_of p)) 13
unfolding row_of
row_written p rows new at h l e f =
    let m : at + 13 - at ≡ 13 = omega arith in
    let k : length (take (at + 13 - at) (drop at rows)) ≡ 13 = rw m (length-take-le 13 (drop at rows) (omega (arith, length-drop at rows))) in
    let few : length (names_of p) ≤ 12 = names_few p l in
    put_mid-paste at (at + 13 - at) rows _ (row_of (names_of p)) 13
    (row_filled (take (at + 13 - at) (drop at rows)) new p.n k (ap length f ∙ l)
    ∙ ap (λ (x : List ℕ). p.n ∷ x) f
    ∙ ap (λ (q : PartialComplexEntity). q.n ∷ q.names) e)
    (omega arith) (omega (arith, row_long (names_of p) few))
