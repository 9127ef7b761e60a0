-- A value has fewer fields than bytes, so that numbers stay small.
use mathlib.Core.Path.{◌≡◌, refl, ap}
use mathlib.Core.List.{List, ◌∷◌}
use mathlib.Core.Bool.{Bool, true, false, cond}
use Prim.Native.Nat.{ℕ, zero, suc, ◌+◌, ◌-◌, ◌<◌, ◌≤◌}
use native.Mathlib.Nat.{not-suc-le-zero, le_refl}
use native.Mathlib.Omega.{arith}
use lib.Dec.{eqb}
use lib.ListN.{length}
use Rattle.std.specs.Prelude.{Option, Some, None}
use Rattle.sheet.specs.MirrorField.{field_at}
use Rattle.sheet.specs.declared.Field.{Field}
use Rattle.forest.specs.MeaningPlaces.{nests}
use Rattle.forest.proofs.Laying.{part}
use Rattle.schemas.specs.MeaningTree.{Tree, tree_at}
use Rattle.schemas.specs.MeaningSchemas.{each}
use Rattle.schemas.proofs.Trees.{onto}
use Rattle.lookup.specs.MirrorLookup.{itself}
use Rattle.lookup.proofs.Fields.{none_left, tree_field, field_on, field_in, field_start, field_order}

-- a field adds one at most
one_more : (u : ℕ) (b : Bool) (t p : ℕ) (v : List ℕ) (g f : Tree) → length (each u itself (onto b t p v g f)) ≤ suc (length (each u itself f))
unfolding each
one_more u false t p v g f = omega arith
one_more u true t p v g f = go (eqb t u)
  where
    go : (x : Bool) → length (cond x (itself p g ∷ each u itself f) (each u itself f)) ≤ suc (length (each u itself f))
    go true = le_refl (suc (length (each u itself f)))
    go false = omega arith

-- those with either of two tags
abbrev Few : List ℕ → ℕ → ℕ → ℕ → ℕ → Type 0
Few s at e t u = length (each t itself (tree_at s at e)) + length (each u itself (tree_at s at e)) ≤ e - at

step : (s : List ℕ) (at e t u : ℕ) (h : Option Field) → h ≡ field_at s at e → ((b : ℕ) → at < b → b ≤ e → Few s b e t u) → Few s at e t u
step s at e t u None w go =
    let x : length (each t itself (tree_at s at e)) ≡ 0 = ap length (none_left s at e None w t itself refl) in
    let y : length (each u itself (tree_at s at e)) ≡ 0 = ap length (none_left s at e None w u itself refl) in
    omega arith
step s at e t u (Some f) w go =
    let o = field_on s at e (Some f) w f refl in
    let i = field_in s at e (Some f) w f refl in
    let r = go f.stop o i in
    let g = tree_field s at e (Some f) w f refl in
    let x : length (each t itself (tree_at s at e)) ≤ suc (length (each t itself (tree_at s f.stop e))) = rw g (one_more t (nests f.tag) f.tag at (part s f.start f.stop) (tree_at s f.start f.stop) (tree_at s f.stop e)) in
    let y : length (each u itself (tree_at s at e)) ≤ suc (length (each u itself (tree_at s f.stop e))) = rw g (one_more u (nests f.tag) f.tag at (part s f.start f.stop) (tree_at s f.start f.stop) (tree_at s f.stop e)) in
    let z = field_start s at e (Some f) w f refl in
    let v = field_order s at e (Some f) w f refl in
    omega arith

few_by : (n : ℕ) (s : List ℕ) (at e t u : ℕ) → e - at < n → Few s at e t u
few_by zero s at e t u h = absurd (not-suc-le-zero h)
few_by (suc n) s at e t u h = step s at e t u (field_at s at e) refl (λ b i j. few_by n s b e t u (omega arith))

pub few : (s : List ℕ) (at e t u : ℕ) → Few s at e t u
few s at e t u = few_by (suc (e - at)) s at e t u (omega arith)
