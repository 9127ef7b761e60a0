-- Parts as rows that stand one after the other, written and read.
use Prim.Native.Nat.{ℕ, zero, suc, ◌+◌, ◌-◌, ◌*◌, ◌≤◌, ◌<◌}
use mathlib.Core.Path.{◌≡◌, refl, sym, ap, ◌∙◌}
use mathlib.Core.List.{List, [], ◌∷◌, ◌++◌, append_assoc, flat_map}
use native.Mathlib.Omega.{arith}
use native.Mathlib.Nat.{not-suc-le-zero}
use lib.ListN.{length, get_or, take, drop, length-append, take-append-drop}
use lib.Seq.{take_at, drop_at, drop-drop, length-take-le}
use Rattle.complex_entity.specs.MeaningRising.{here, there}
use Rattle.complex_entity.specs.MeaningParts.{Part}
use Rattle.complex_entity.specs.MeaningRows.{row_of, flat}
use Rattle.complex_entity.specs.MirrorParts.{names_of, part_of, part_at}
use Rattle.complex_entity.specs.declared.PartialComplexEntity.{PartialComplexEntity}
use Rattle.complex_entity.proofs.Members.{∈_append_left}
use Rattle.complex_entity.proofs.Limits.{Narrow}
use Rattle.complex_entity.proofs.Names.{names_of_part}
use Rattle.complex_entity.proofs.Rows.{part_at_few, row_long, part_at_row}
use Rattle.rows.specs.MirrorRows.{parts_at}

-- ---- what is read
pub parts_narrow : (n : ℕ) (l : List ℕ) → Narrow (parts_at n l)
unfolding parts_at
parts_narrow zero l q x' = elim x' [ ]
parts_narrow (suc n) l q (here e) = rw e (part_at_few l)
parts_narrow (suc n) l q (there m) = parts_narrow n (drop 13 l) q m

pub parts_length : (n : ℕ) (l : List ℕ) → length (parts_at n l) ≡ n
unfolding parts_at
parts_length zero l = refl
parts_length (suc n) l = ap suc (parts_length n (drop 13 l))

pub parts_at_law : (n i : ℕ) (l : List ℕ) (d : Part) → i < n → get_or (parts_at n l) i d ≡ part_at (drop (13 * i) l)
unfolding parts_at
parts_at_law zero i l d h = absurd (not-suc-le-zero h)
parts_at_law (suc n) zero l d h = refl
parts_at_law (suc n) (suc i) l d h =
    let e : 13 * suc i ≡ 13 + 13 * i = omega arith in
    rw (e, ← drop-drop (13 * i) 13 l) (parts_at_law n i (drop 13 l) d (omega arith))

-- the rows from a place on: the first of them, and the rest
pub ahead : (l : List ℕ) (at left : ℕ) → 0 < left → parts_at left (drop at l) ≡ part_at (drop at l) ∷ parts_at (left - 1) (drop (at + 13) l)
unfolding parts_at
ahead l at left h =
    let e : left ≡ suc (left - 1) = omega arith in
    ap (λ (k : ℕ). parts_at k (drop at l)) e ∙ rw (drop-drop 13 at l)

pub none_left : (l : List ℕ) (left : ℕ) → left ≤ 0 → parts_at left l ≡ []
unfolding parts_at
none_left l left h = let e : left ≡ 0 = omega arith in ap (λ (k : ℕ). parts_at k l) e

-- a part by value that was read
pub names_of_law : (p : Part) (x : PartialComplexEntity) → x ≡ part_of p → names_of x ≡ p
names_of_law p x e = ap names_of e ∙ names_of_part p

-- ---- what is written
pub flat_cons : (p : Part) (L : List Part) → flat (p ∷ L) ≡ row_of p ++ flat L
unfolding flat flat_map
flat_cons p L = refl

pub flat_append : (K L : List Part) → flat (K ++ L) ≡ flat K ++ flat L
unfolding flat flat_map
flat_append [] L = refl
flat_append (p ∷ K) L = ap (λ (x : List ℕ). row_of p ++ x) (flat_append K L) ∙ sym (append_assoc (row_of p) (flat K) (flat L))

pub flat_length : (L : List Part) → Narrow L → length (flat L) ≡ 13 * length L
unfolding flat flat_map
flat_length [] h = refl
flat_length (p ∷ L) h =
    let a : length (row_of p) ≡ 13 = row_long p (h p (here refl)) in
    let b : length (flat L) ≡ 13 * length L = flat_length L (λ q m. h q (there m)) in
    length-append (row_of p) (flat L) ∙ omega (arith, a, b)

pub parts_flat : (L : List Part) (x : List ℕ) → Narrow L → parts_at (length L) (flat L ++ x) ≡ L
unfolding parts_at flat flat_map
parts_flat [] x h = refl
parts_flat (p ∷ L) x h =
    let a : length p ≤ 12 = h p (here refl) in
    rw (append_assoc (row_of p) (flat L) x, part_at_row p a (flat L ++ x), drop_at (row_of p) (flat L ++ x) 13 (row_long p a), parts_flat L x (λ q m. h q (there m)))

-- ---- rows before and after a place
module _ (L : List Part) (i : ℕ) (n : Narrow L) where
  pub take_narrow : Narrow (take i L)
  take_narrow q m = n q (rw (take-append-drop i L) at (∈_append_left (take i L) (drop i L) m))

  module _ (h : i ≤ length L) where
    both : flat L ≡ flat (take i L) ++ flat (drop i L)
    both = ap flat (sym (take-append-drop i L)) ∙ flat_append (take i L) (drop i L)

    front : length (flat (take i L)) ≡ 13 * i
    front = flat_length (take i L) take_narrow ∙ rw (length-take-le i L h)

    pub flat_take : take (13 * i) (flat L) ≡ flat (take i L)
    flat_take = rw both (take_at (flat (take i L)) (flat (drop i L)) (13 * i) front)

    pub flat_drop : drop (13 * i) (flat L) ≡ flat (drop i L)
    flat_drop = rw both (drop_at (flat (take i L)) (flat (drop i L)) (13 * i) front)
