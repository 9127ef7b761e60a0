-- The names of a part: how many they are, and how a walk reads them.
use Prim.Native.Nat.{ℕ, suc, ◌+◌, ◌-◌, ◌≤◌, ◌<◌}
use mathlib.Core.Path.{◌≡◌, sym, ap, ◌∙◌}
use mathlib.Core.List.{List, [], ◌∷◌, ◌++◌}
use native.Mathlib.Omega.{arith}
use native.Mathlib.Numerals.{add-one}
use lib.ListN.{length, get_or, drop, replicate, length-append, length-take, length-replicate, drop_of_length-le}
use lib.Seq.{drop-cons, take-append_seam}
use Rattle.complex_entity.specs.declared.PartialComplexEntity.{PartialComplexEntity}
use Rattle.complex_entity.specs.MirrorParts.{names_of, part_of}

-- what is left of a list from i: what stands there and the rest, or nothing
pub rest_cons : (l : List ℕ) (i : ℕ) → i < length l → drop i l ≡ get_or l i 0 ∷ drop (i + 1) l
rest_cons l i h = rw (add-one i) (drop-cons l i 0 h)

pub rest_some : (l : List ℕ) (i x : ℕ) → i < length l → x ≡ get_or l i x → drop i l ≡ x ∷ drop (i + 1) l
rest_some l i x h e = rw (add-one i) (drop-cons l i x h ∙ ap (λ (y : ℕ). y ∷ drop (suc i) l) (sym e))

pub rest_none : (l : List ℕ) (i : ℕ) → length l ≤ i → drop i l ≡ []
rest_none l i h = drop_of_length-le l {i = i} h

pub part_long : (l : List ℕ) → length l ≤ 12 → length (part_of l).names ≡ 12
part_long l h = simp (length-append, length-replicate) (omega arith)

pub names_of_part : (l : List ℕ) → names_of (part_of l) ≡ l
names_of_part l = take-append_seam l (replicate (12 - length l) 0)

pub part_is : (k : ℕ) (out l : List ℕ) → length l ≡ k → out ≡ l ++ replicate (12 - length l) 0
    → ◌≡◌ {A = PartialComplexEntity} (record { n = k; names = out }) (part_of l)
part_is k out l e f = λ i. record { n = sym e i; names = f i }

module _ (p : PartialComplexEntity) (long : length p.names ≡ 12) where
  pub names_few : length (names_of p) ≤ 12
  names_few = rw length-take (omega arith)
