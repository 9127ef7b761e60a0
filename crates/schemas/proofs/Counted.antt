-- A forest whose places are counted off by its lengths. Where bytes say a forest, it is their tree, and its fields stand at these places.
use mathlib.Core.Path.{◌≡◌, refl, sym, ap, ◌∙◌, subst}
use mathlib.Core.List.{List}
use mathlib.Core.Bool.{true}
use Prim.Native.Nat.{ℕ, ◌+◌, ◌-◌, ◌≤◌}
use native.Mathlib.Omega.{arith}
use borrow.Author.Tests.{lt-ltb}
use lib.Dec.{ltb}
use lib.ListN.{length, take, drop}
use Rattle.grammar.specs.MeaningReading.{Reading}
use Rattle.grammar.specs.MeaningGrammar.{kind_of}
use Rattle.std.specs.Prelude.{None}
use Rattle.sheet.specs.MeaningSheet.{tag_of, end_of}
use Rattle.sheet.specs.MirrorField.{field_at}
use Rattle.forest.specs.MeaningForest.{Forest, encode, Right}
use Rattle.forest.specs.MeaningForest.Forest.{nil as no_fields, leaf as plain, node as nested}
use Rattle.forest.specs.MeaningPlaces.{nests}
use Rattle.forest.proofs.Laying.{part, length_part, Read, read, Laid as FieldLaid, laid as field_laid_at}
use Rattle.forest.proofs.Proved.{sound_plain}
use Rattle.schemas.specs.MeaningTree.{Tree, tree_at}
use Rattle.schemas.specs.MeaningTree.Tree.{nil, leaf, node}
use Rattle.schemas.proofs.Trees.{Grows, grows}

-- the fields from a place on
abbrev pub place : ℕ → Forest → Tree
place at no_fields = nil
place at (plain t v f) = leaf t at v (place (at + 3 + length v) f)
place at (nested t g f) = node t at (place (at + 3) g) (place (at + 3 + length (encode g)) f)

-- they stand there, and fill the bytes up to e
abbrev pub Laid : List ℕ → Forest → ℕ → ℕ → Type 0
Laid s no_fields at e = at ≡ e
Laid s (plain t v f) at e = (tag_of s at ≡ t) × (end_of s at ≡ at + 3 + length v) × (take (length v) (drop (at + 3) s) ≡ v) × Laid s f (at + 3 + length v) e
Laid s (nested t g f) at e = (tag_of s at ≡ t) × (end_of s at ≡ at + 3 + length (encode g)) × Laid s g (at + 3) (at + 3 + length (encode g)) × Laid s f (at + 3 + length (encode g)) e

module _ (s : List ℕ) where
  no_bytes : (at e : ℕ) → e ≤ length s → at ≤ e → encode no_fields ≡ part s at e → at ≡ e
  unfolding encode
  no_bytes at e l k h = omega (arith, ap length h, length_part s at e l)

  headed : (at e t : ℕ) (v rest : List ℕ) → Read s at e t v rest → (tag_of s at ≡ t) × (end_of s at ≡ at + 3 + length v)
  headed at e t v rest r = let h = subst (FieldLaid s at e) r.there (field_laid_at s at e) in (h.0, h.2)

  value : (at e t : ℕ) (v rest : List ℕ) → Read s at e t v rest → take (length v) (drop (at + 3) s) ≡ v
  value at e t v rest r = let k : at + 3 + length v - (at + 3) ≡ length v = omega arith in rw k at r.body

  pub laid : (f : Forest) (at e : ℕ) → e ≤ length s → at ≤ e → encode f ≡ part s at e → Laid s f at e
  unfolding encode
  laid no_fields at e l k h = no_bytes at e l k h
  laid (plain t v f) at e l k h =
      let r = read s at e t v (encode f) l h in
      let x = headed at e t v (encode f) r in
      (x.0, x.1, value at e t v (encode f) r, laid f (at + 3 + length v) e l r.within r.left)
  laid (nested t g f) at e l k h =
      let r = read s at e t (encode g) (encode f) l h in
      let x = headed at e t (encode g) (encode f) r in
      let w = r.within in
      (x.0, x.1, laid g (at + 3) (at + 3 + length (encode g)) (omega arith) (omega arith) (sym r.body), laid f (at + 3 + length (encode g)) e l w r.left)

  pub counted : (rd : Reading) (p : ℕ) (f : Forest) (at e : ℕ) → Right rd p f → e ≤ length s → at ≤ e → encode f ≡ part s at e → tree_at s at e ≡ place at f
  unfolding encode field_at
  counted rd p no_fields at e R l k h =
      let q = no_bytes at e l k h in
      let z : ltb (e - at) 3 ≡ true = lt-ltb (e - at) 3 (omega arith) in
      let y : field_at s at e ≡ None = rw z in
      subst (Grows s at e) y (grows s at e)
  counted rd p (plain t v f) at e R l k h =
      let r = read s at e t v (encode f) l h in
      let g = subst (Grows s at e) r.there (grows s at e) in
      g ∙ rw (sound_plain (kind_of t) v R.1, r.body, counted rd p f (at + 3 + length v) e R.2 l r.within r.left)
  counted rd p (nested t g f) at e R l k h =
      let r = read s at e t (encode g) (encode f) l h in
      let w = r.within in
      let y = subst (Grows s at e) r.there (grows s at e) in
      let z : nests t ≡ true = rw R.1 refl in
      let i = counted rd t g (at + 3) (at + 3 + length (encode g)) R.3 (omega arith) (omega arith) (sym r.body) in
      y ∙ rw (z, i, counted rd p f (at + 3 + length (encode g)) e R.4 l w r.left)
