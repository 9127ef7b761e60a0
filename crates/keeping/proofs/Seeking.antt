-- A question that is asked of each row, by its number.
use Prim.Native.Nat.{ℕ, zero, suc, ◌+◌, ◌*◌}
use mathlib.Core.Path.{◌≡◌, refl, ap, ◌∙◌}
use mathlib.Core.List.{List}
use mathlib.Core.Bool.{Bool, true, false, ◌||◌}
use native.Mathlib.Omega.{arith}
use lib.ListN.{drop}
use lib.Seq.{drop-drop}
use lib.Dec.{eqb, T}
use Rattle.std.specs.List.{list_any, range_with_len}
use Rattle.std.specs.Cmp.Lexicographic.{pointwise}
use Rattle.std.proofs.lemmas.Slice.Eq.{slice_eq-Decides}
use Rattle.std.proofs.lemmas.Bool.{false≢true}
use Rattle.std.proofs.lemmas.Bool.Decides.{Decides-eqb}
use Rattle.std.specs.Bool.{Decides}
use Rattle.complex_entity.proofs.Keeping.{equal_in, equal_out}
use Rattle.complex_entity.specs.MeaningParts.{Part, contains}
use Rattle.complex_entity.specs.MeaningLists.{any, equal}
use Rattle.complex_entity.specs.MirrorParts.{names_of, part_of, part_at}
use Rattle.complex_entity.specs.declared.PartialComplexEntity.{PartialComplexEntity}
use Rattle.rows.specs.MirrorRows.{parts_at}
use Rattle.rows.proofs.Flats.{names_of_law}

pub seek_rows : (f : Part → Bool) (l : List ℕ) (a n : ℕ) → list_any (λ i. f (part_at (drop (13 * i) l))) (range_with_len a n) ≡ any f (parts_at n (drop (13 * a) l))
unfolding parts_at
seek_rows f l a zero = refl
seek_rows f l a (suc n) =
    let e : 13 * (a + 1) ≡ 13 * a + 13 = omega arith in
    ap (λ (b : Bool). f (part_at (drop (13 * a) l)) || b) (seek_rows f l (a + 1) n ∙ rw (e, ← drop-drop 13 (13 * a) l) refl)

-- ---- the two questions, as the code asks them
pub contained : (p q : Part) (x : PartialComplexEntity) (b : Bool) → x ≡ part_of q → b ≡ contains p (names_of x) → b ≡ contains p q
contained p q x b e h = h ∙ ap (contains p) (names_of_law q x e)

-- the names are the same where their lists are
pub same : (p q a d : Part) (b : Bool) → a ≡ p → d ≡ q → b ≡ pointwise eqb a d → b ≡ equal p q
same p q a d b u v e =
    let s : Decides b (p ≡ q) = slice_eq-Decides Decides-eqb p q b (e ∙ rw (u, v) refl) in
    go b (equal p q) (λ t. equal_in p q (s.0 t)) (λ t. s.1 (equal_out p q t))
  where
    go : (b x : Bool) → (b ≡ true → T x) → (T x → b ≡ true) → b ≡ x
    go true true f g = refl
    go true false f g = absurd (f refl)
    go false true f g = absurd (false≢true (g tt))
    go false false f g = refl
