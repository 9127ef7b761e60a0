-- The bytes of a field: those that stand at a place are a field's encoding, and an encoding is read back.
use mathlib.Core.Path.{◌≡◌, refl, sym, ap, subst, ◌∙◌}
use mathlib.Core.List.{List, [], ◌∷◌, ◌++◌}
use mathlib.Core.Bool.{false}
use Prim.Native.Nat.{ℕ, zero, suc, ◌+◌, ◌-◌, ◌/◌, ◌%◌, ◌<◌, ◌≤◌}
use native.Mathlib.Omega.{arith}
use borrow.Author.Tests.{le-ltb, ltb-false}
use lib.Dec.{ltb}
use lib.ListN.{length, get_or, take, drop, length-take, length-drop, length-append}
use lib.Seq.{drop-cons, take-add, drop-drop, take-append_seam, drop-append_seam, get_or-append-add}
use Rattle.std.specs.Prelude.{Option, Some, None}
use Rattle.sheet.specs.MeaningSheet.{size_of}
use Rattle.sheet.specs.Claims.{AllBytes}
use Rattle.sheet.specs.MirrorField.{field_at}
use Rattle.sheet.specs.declared.Field.{Field}
use Rattle.grammar.proofs.Choosing.{either}
use Rattle.forest.specs.MeaningForest.{field}

-- the bytes from a to b
abbrev pub part : List ℕ → ℕ → ℕ → List ℕ
part s a b = take (b - a) (drop a s)

pub length_part : (s : List ℕ) (a b : ℕ) → b ≤ length s → length (part s a b) ≡ b - a
length_part s a b h = simp (length-take, length-drop) (omega arith)

pub bytes_right : (xs ys : List ℕ) → AllBytes (xs ++ ys) → AllBytes ys
bytes_right xs ys b i = rw (← get_or-append-add xs ys i 0) (b (length xs + i))

pub bytes_left : (xs ys : List ℕ) → AllBytes (xs ++ ys) → AllBytes xs
bytes_left [] ys b i = let z : 0 < 256 = omega arith in z
bytes_left (x ∷ xs) ys b zero = b 0
bytes_left (x ∷ xs) ys b (suc i) = bytes_left xs ys (λ j. b (suc j)) i

-- ---- from bytes to a field

abbrev pub Laid : List ℕ → ℕ → ℕ → Option Field → Type 0
Laid s at e None = Unit {0}
Laid s at e (Some f) = (get_or s at 0 ≡ f.tag) × (at + 3 ≡ f.start) × (at + 3 + size_of s at ≡ f.stop) × (f.stop ≤ e)

pub laid : (s : List ℕ) (at e : ℕ) → Laid s at e (field_at s at e)
unfolding field_at
laid s at e =
    either (Laid s at e) (ltb (e - at) 3) None _ (λ _. tt)
    (λ h. either (Laid s at e) (ltb (e - (at + 3)) (size_of s at)) None _ (λ _. tt)
    (λ k. (refl, refl, refl, omega (arith, ltb-false (e - at) 3 h, ltb-false (e - (at + 3)) (size_of s at) k))))

pub three : (s : List ℕ) (at n : ℕ) → at + 3 ≤ length s → take (suc (suc (suc n))) (drop at s) ≡ get_or s at 0 ∷ get_or s (at + 1) 0 ∷ get_or s (at + 2) 0 ∷ take n (drop (at + 3) s)
three s at n h =
    let e1 : at + 1 ≡ suc at = omega arith in
    let e2 : at + 2 ≡ suc (suc at) = omega arith in
    let e3 : at + 3 ≡ suc (suc (suc at)) = omega arith in
    let h1 : at < length s = omega arith in
    let h2 : suc at < length s = omega arith in
    let h3 : suc (suc at) < length s = omega arith in
    rw (e1, e2, e3, drop-cons s at 0 h1, drop-cons s (suc at) 0 h2, drop-cons s (suc (suc at)) 0 h3)

field_laid : (s : List ℕ) → AllBytes s → (at n : ℕ) → at + 3 + n ≤ length s → size_of s at ≡ n → part s at (at + 3 + n) ≡ field (get_or s at 0) (part s (at + 3) (at + 3 + n))
unfolding field
field_laid s bs at n h q =
    let k : at + 3 + n - at ≡ suc (suc (suc n)) = omega arith in
    let k' : at + 3 + n - (at + 3) ≡ n = omega arith in
    let l : length (take n (drop (at + 3) s)) ≡ n = simp (length-take, length-drop) (omega arith) in
    let b1 = bs (at + 1) in
    let b2 = bs (at + 2) in
    let hi : get_or s (at + 1) 0 ≡ n / 256 = omega arith in
    let lo : get_or s (at + 2) 0 ≡ n % 256 = omega arith in
    rw (k, k', three s at n (omega arith), l, hi, lo)

pub part_split : (s : List ℕ) (a b e : ℕ) → a ≤ b → b ≤ e → part s a e ≡ part s a b ++ part s b e
part_split s a b e h k =
    let q : e - a ≡ (b - a) + (e - b) = omega arith in
    let r : a + (b - a) ≡ b = omega arith in
    rw (q, take-add (b - a) (e - b) (drop a s), drop-drop (b - a) a s, r)

pub field_part : (s : List ℕ) → AllBytes s → (at e t a b : ℕ) → e ≤ length s → field_at s at e ≡ Some (record { tag = t; start = a; stop = b }) → (field t (part s a b) ≡ part s at b) × (at ≤ b) × (b ≤ e)
field_part s bs at e t a b h q =
    let l = subst (Laid s at e) q (laid s at e) in (
      subst (λ (x : ℕ). field x (part s a b) ≡ part s at b) l.0
          (subst (λ (x : ℕ). field (get_or s at 0) (part s x b) ≡ part s at b) l.1
          (subst (λ (x : ℕ). field (get_or s at 0) (part s (at + 3) x) ≡ part s at x) l.2 (sym (field_laid s bs at (size_of s at) (omega arith) refl)))),
      omega arith,
      omega arith,
    )

-- ---- and back

pub record Read (s : List ℕ) (at e t : ℕ) (v rest : List ℕ) : Type 0 where
  pub there : field_at s at e ≡ Some (record { tag = t; start = at + 3; stop = at + 3 + length v })
  pub body : part s (at + 3) (at + 3 + length v) ≡ v
  pub left : rest ≡ part s (at + 3 + length v) e
  pub within : at + 3 + length v ≤ e

header_is : (s : List ℕ) (at e t n : ℕ) → at + 3 + n ≤ e → get_or s at 0 ≡ t → size_of s at ≡ n → field_at s at e ≡ Some (record { tag = t; start = at + 3; stop = at + 3 + n })
unfolding field_at
header_is s at e t n h q l =
    let a : ltb (e - at) 3 ≡ false = le-ltb (e - at) 3 (omega arith) in
    let b : ltb (e - (at + 3)) n ≡ false = le-ltb (e - (at + 3)) n (omega arith) in
    rw (a, l, b, q)

pub read : (s : List ℕ) (at e t : ℕ) (v rest : List ℕ) → e ≤ length s → field t v ++ rest ≡ part s at e → Read s at e t v rest
unfolding field
read s at e t v rest h q =
    let len : 3 + length v + length rest ≡ e - at = omega (arith, length-append (field t v) rest, ap length q, length_part s at e h) in
    let fit : at + 3 + length v ≤ e = omega arith in
    let k : at + 3 + length v - at ≡ suc (suc (suc (length v))) = omega arith in
    let k' : at + 3 + length v - (at + 3) ≡ length v = omega arith in
    let sp : part s at e ≡ part s at (at + 3 + length v) ++ part s (at + 3 + length v) e = part_split s at (at + 3 + length v) e (omega arith) fit in
    let lp : length (part s at (at + 3 + length v)) ≡ length (field t v) = length_part s at (at + 3 + length v) (omega arith) ∙ k in
    let w : field t v ≡ part s at (at + 3 + length v) = sym (take-append_seam (field t v) rest) ∙ ap (take (length (field t v))) (q ∙ sp) ∙ ap (λ (m : ℕ). take m (part s at (at + 3 + length v) ++ part s (at + 3 + length v) e)) (sym lp) ∙ take-append_seam (part s at (at + 3 + length v)) _ in
    let r : rest ≡ part s (at + 3 + length v) e = sym (drop-append_seam (field t v) rest) ∙ ap (drop (length (field t v))) (q ∙ sp) ∙ ap (λ (m : ℕ). drop m (part s at (at + 3 + length v) ++ part s (at + 3 + length v) e)) (sym lp) ∙ drop-append_seam (part s at (at + 3 + length v)) _ in
    let y : field t v ≡ get_or s at 0 ∷ get_or s (at + 1) 0 ∷ get_or s (at + 2) 0 ∷ take (length v) (drop (at + 3) s) = w ∙ rw (k, three s at (length v) (omega arith)) in
    let t0 : get_or s at 0 ≡ t = cc in
    let hi : length v / 256 ≡ get_or s (at + 1) 0 = cc in
    let lo : length v % 256 ≡ get_or s (at + 2) 0 = cc in
    let vs : take (length v) (drop (at + 3) s) ≡ v = cc in
    record { there = header_is s at e t (length v) fit t0 (omega arith); body = rw k' vs; left = r; within = fit }
