-- Where a tree by places says all the bytes, each of its fields stands whole at its place.
use mathlib.Core.Path.{◌≡◌, refl, sym, ap, ap₂, ◌∙◌, subst}
use mathlib.Core.List.{List, [], ◌∷◌, ◌++◌}
use Prim.Native.Nat.{ℕ, zero, suc, ◌+◌, ◌-◌, ◌≤◌}
use native.Mathlib.Nat.{le_refl}
use native.Mathlib.Omega.{arith}
use borrow.Author.Tests.{leb-true}
use lib.Dec.{ltb, leb}
use lib.ListN.{length, take, drop}
use lib.Seq.{take-length}
use Rattle.sheet.specs.MeaningSheet.{tag_of, size_of, end_of, value_of}
use Rattle.sheet.specs.MirrorField.{field_at}
use Rattle.std.specs.Prelude.{Option, Some, None}
use Rattle.sheet.specs.declared.Field.{Field}
use Rattle.grammar.proofs.Choosing.{either, clash}
use Rattle.forest.specs.MeaningForest.{field, encode}
use Rattle.forest.specs.MeaningPlaces.{nests}
use Rattle.forest.proofs.Laying.{part, read}
use Rattle.schemas.specs.MeaningTree.{Tree, grow, tree_by, tree_at, tree_of}
use Rattle.schemas.specs.MeaningBare.{bare}
use Rattle.schemas.specs.MeaningTree.Tree.{nil, leaf, node}
use Rattle.schemas.specs.MeaningStanding.{Whole}

prefix : (b c xs : List ℕ) (m : ℕ) → b ++ c ≡ take m xs → take (length b) xs ≡ b
prefix [] c [] m q = refl
prefix [] c (z ∷ xs) m q = refl
prefix (x ∷ b) c [] zero q = clash (cc)
prefix (x ∷ b) c [] (suc m) q = clash (cc)
prefix (x ∷ b) c (z ∷ xs) zero q = clash (cc)
prefix (x ∷ b) c (z ∷ xs) (suc m) q =
    let h : z ≡ x = cc in
    let t : b ++ c ≡ take m xs = cc in
    ap₂ (λ (y : ℕ) (ys : List ℕ). y ∷ ys) h (prefix b c xs m t)

abbrev Ends : List ℕ → ℕ → Option Field → Type 0
Ends s at None = Unit {0}
Ends s at (Some f) = f.stop ≡ end_of s at

ends : (s : List ℕ) (at e : ℕ) → Ends s at (field_at s at e)
unfolding field_at
ends s at e = either (Ends s at) (ltb (e - at) 3) None _ (λ _. tt) (λ h. either (Ends s at) (ltb (e - (at + 3)) (size_of s at)) None _ (λ _. tt) (λ k. refl))

abbrev Says : List ℕ → ℕ → ℕ → Tree → Type 0
Says s at e t = encode (bare t) ≡ part s at e → Whole s t

whole : (n : ℕ) (s : List ℕ) (at e : ℕ) → e ≤ length s → Says s at e (tree_by n s at e)
unfolding tree_by grow encode
whole zero s at e l = λ h. tt
whole (suc n) s at e l =
    either (Says s at e) (leb (end_of s at) e) _ nil
    (λ k. either (Says s at e) (nests (tag_of s at)) (node (tag_of s at) at (tree_by n s (at + 3) (end_of s at)) (tree_by n s (end_of s at) e)) (leaf (tag_of s at) at (value_of s at) (tree_by n s (end_of s at) e))
    (λ _ h.
    let i = leb-true (end_of s at) e k in
    let g = encode (bare (tree_by n s (at + 3) (end_of s at))) in
    let f = encode (bare (tree_by n s (end_of s at) e)) in
    let r = read s at e (tag_of s at) g f l h in
    let q : at + 3 + length g ≡ end_of s at = subst (Ends s at) r.there (ends s at e) in
    let x : g ≡ part s (at + 3) (end_of s at) = sym r.body ∙ ap (part s (at + 3)) q in
    let y : f ≡ part s (end_of s at) e = r.left ∙ ap (λ (z : ℕ). part s z e) q in
    (prefix (field (tag_of s at) g) f (drop at s) (e - at) h, whole n s (at + 3) (end_of s at) (omega arith) x, whole n s (end_of s at) e l y))
    (λ _ h.
    let f = encode (bare (tree_by n s (end_of s at) e)) in
    let r = read s at e (tag_of s at) (value_of s at) f l h in
    let q : at + 3 + length (value_of s at) ≡ end_of s at = subst (Ends s at) r.there (ends s at e) in
    let y : f ≡ part s (end_of s at) e = r.left ∙ ap (λ (z : ℕ). part s z e) q in
    (prefix (field (tag_of s at) (value_of s at)) f (drop at s) (e - at) h, whole n s (end_of s at) e l y)))
    (λ _ h. tt)

pub tree_whole : (s : List ℕ) → encode (bare (tree_of s)) ≡ s → Whole s (tree_of s)
unfolding tree_of tree_at
tree_whole s h = let k : length s - 0 ≡ length s = omega arith in whole (suc (length s - 0)) s 0 (length s) (le_refl (length s)) (h ∙ sym (rw k (take-length s)))
