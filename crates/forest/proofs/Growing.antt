-- The fields of a value by places: what `forest_at` is, by the header that stands there.
use mathlib.Core.Path.{◌≡◌, refl, ap, ◌∙◌}
use mathlib.Core.List.{List, [], ◌∷◌}
use mathlib.Core.Bool.{Bool, true, false, cond}
use Prim.Native.Nat.{ℕ, zero, suc, ◌+◌, ◌-◌, ◌*◌, ◌<◌, ◌≤◌}
use native.Mathlib.Nat.{not-suc-le-zero}
use native.Mathlib.Omega.{arith}
use borrow.Author.Tests.{lt-ltb, le-ltb, ltb-true, ltb-false}
use lib.Dec.{ltb}
use lib.ListN.{length, get_or, take, drop, length-take, length-drop}
use lib.Seq.{take_at, drop_at}
use Rattle.std.specs.Prelude.{Option, Some, None}
use Rattle.sheet.specs.MeaningSheet.{size_of}
use Rattle.sheet.specs.MirrorField.{field_at}
use Rattle.sheet.specs.declared.Field.{Field}
use Rattle.grammar.proofs.Choosing.{either}
use Rattle.forest.specs.MeaningForest.{Forest}
use Rattle.forest.specs.MeaningForest.Forest.{nil, leaf, node}
use Rattle.forest.specs.MeaningPlaces.{nests}
use Rattle.forest.specs.MeaningDecoding.{decode, forest_at}
use Rattle.forest.proofs.Laying.{part, length_part, three, part_split}

-- one more field in front
abbrev pub onto : Bool → ℕ → List ℕ → Forest → Forest → Forest
onto true t v g f = node t g f
onto false t v g f = leaf t v f

onto_cond : (b : Bool) (t : ℕ) (v : List ℕ) (g f : Forest) → cond b (node t g f) (leaf t v f) ≡ onto b t v g f
onto_cond true t v g f = refl
onto_cond false t v g f = refl

-- enough steps are enough
fuel : (n m : ℕ) (xs : List ℕ) → length xs < n → length xs < m → decode n xs ≡ decode m xs
unfolding decode
fuel zero m xs h k = absurd (not-suc-le-zero h)
fuel (suc n) zero xs h k = absurd (not-suc-le-zero k)
fuel (suc n) (suc m) [] h k = refl
fuel (suc n) (suc m) (t ∷ []) h k = refl
fuel (suc n) (suc m) (t ∷ a ∷ []) h k = refl
fuel (suc n) (suc m) (t ∷ a ∷ b ∷ xs) h k =
    let l1 = length-take (a * 256 + b) xs in
    let l2 = length-drop (a * 256 + b) xs in
    let e1 = fuel n m (take (a * 256 + b) xs) (omega arith) (omega arith) in
    let e2 = fuel n m (drop (a * 256 + b) xs) (omega arith) (omega arith) in
    rw (e1, e2)

short : (n : ℕ) (xs : List ℕ) → length xs < 3 → decode n xs ≡ nil
unfolding decode
short zero xs h = refl
short (suc n) [] h = refl
short (suc n) (t ∷ []) h = refl
short (suc n) (t ∷ a ∷ []) h = refl
short (suc n) (t ∷ a ∷ b ∷ xs) h = absurd (let y : ⊥ = omega arith in y)

-- the forest at a place, by what stands there
abbrev pub Grown : List ℕ → ℕ → ℕ → Option Field → Type 0
Grown s at e None = forest_at s at e ≡ nil
Grown s at e (Some f) = forest_at s at e ≡ onto (nests f.tag) f.tag (part s f.start f.stop) (forest_at s f.start f.stop) (forest_at s f.stop e)

module _ (s : List ℕ) (at e : ℕ) (h : e ≤ length s) where
  none : e - at < 3 → forest_at s at e ≡ nil
  unfolding forest_at
  none k = short (suc (e - at)) (part s at e) (omega (arith, length_part s at e h))

  cut : at + 3 ≤ e → e - (at + 3) < size_of s at → forest_at s at e ≡ nil
  unfolding forest_at decode
  cut k w =
      let m = e - (at + 3) in
      let k0 : e - at ≡ suc (suc (suc m)) = omega arith in
      let lp : length (part s (at + 3) e) ≡ m = length_part s (at + 3) e h in
      let z : ltb (length (part s (at + 3) e)) (get_or s (at + 1) 0 * 256 + get_or s (at + 2) 0) ≡ true = lt-ltb (length (part s (at + 3) e)) (get_or s (at + 1) 0 * 256 + get_or s (at + 2) 0) (omega arith) in
      rw (k0, three s at m (omega arith), z)

  here : (n : ℕ) → size_of s at ≡ n → at + 3 + n ≤ e → Grown s at e (Some (record { tag = get_or s at 0; start = at + 3; stop = at + 3 + n }))
  unfolding forest_at decode
  here n q k =
      let m = e - (at + 3) in
      let k0 : e - at ≡ suc (suc (suc m)) = omega arith in
      let t3 : take m (drop (at + 3) s) ≡ part s (at + 3) e = refl in
      let lp : length (part s (at + 3) e) ≡ m = length_part s (at + 3) e h in
      let z : ltb (length (part s (at + 3) e)) n ≡ false = le-ltb (length (part s (at + 3) e)) n (omega arith) in
      let sp = part_split s (at + 3) (at + 3 + n) e (omega arith) k in
      let ln : length (part s (at + 3) (at + 3 + n)) ≡ n = length_part s (at + 3) (at + 3 + n) (omega arith) ∙ (let y : at + 3 + n - (at + 3) ≡ n = omega arith in y) in
      let tk : take n (part s (at + 3) e) ≡ part s (at + 3) (at + 3 + n) = ap (take n) sp ∙ take_at (part s (at + 3) (at + 3 + n)) (part s (at + 3 + n) e) n ln in
      let dr : drop n (part s (at + 3) e) ≡ part s (at + 3 + n) e = ap (drop n) sp ∙ drop_at (part s (at + 3) (at + 3 + n)) (part s (at + 3 + n) e) n ln in
      let lr : length (part s (at + 3 + n) e) ≡ e - (at + 3 + n) = length_part s (at + 3 + n) e h in
      let f1 = fuel (suc (suc (suc m))) (suc (at + 3 + n - (at + 3))) (part s (at + 3) (at + 3 + n)) (omega arith) (omega arith) in
      let f2 = fuel (suc (suc (suc m))) (suc (e - (at + 3 + n))) (part s (at + 3 + n) e) (omega arith) (omega arith) in
      rw (k0, three s at m (omega arith), q, z, tk, dr, f1, f2) (onto_cond (nests (get_or s at 0)) _ _ _ _)

  pub grown : Grown s at e (field_at s at e)
  unfolding field_at
  grown =
      either (Grown s at e) (ltb (e - at) 3) None _
      (λ k. none (ltb-true (e - at) 3 k))
      (λ k. either (Grown s at e) (ltb (e - (at + 3)) (size_of s at)) None _
      (λ w. cut (omega (arith, ltb-false (e - at) 3 k)) (ltb-true (e - (at + 3)) (size_of s at) w))
      (λ w. here (size_of s at) refl (omega (arith, ltb-false (e - at) 3 k, ltb-false (e - (at + 3)) (size_of s at) w))))
