-- The numbers of an expression: how many they are, how terms are put together, and that they determine the expression.
use mathlib.Core.Path.{◌≡◌, refl, sym, ap, ◌∙◌}
use mathlib.Core.List.{List, [], ◌∷◌, ◌++◌, append_assoc}
use Prim.Native.Nat.{ℕ, suc, ◌+◌, ◌<◌, ◌≤◌, max}
use native.Mathlib.Omega.{arith}
use lib.ListN.{length, take, set, get_or, length-append}
use lib.Seq.{take-set-lt, set_at}
use Rattle.expression.specs.MeaningExpression.{Expr, reference, andor, «and», oneof, Terms, end, ◌then◌, append}
use Rattle.expression.specs.MirrorNodes.{flat, flats, height, heights}

-- ---- at least a node
pub flat_long : (e : Expr ℕ) → 3 ≤ length (flat e)
unfolding flat
flat_long (reference n) = omega arith
flat_long (andor t) = omega arith
flat_long («and» t) = omega arith
flat_long (oneof t) = omega arith

-- a node's third number says how many they are
pub span_at_law : (e : Expr ℕ) (r : List ℕ) → get_or (flat e ++ r) 2 0 ≡ length (flat e)
unfolding flat
span_at_law (reference n) r = refl
span_at_law (andor t) r = refl
span_at_law («and» t) r = refl
span_at_law (oneof t) r = refl

-- ---- terms, and more terms after them
pub flats_append : (t u : Terms ℕ) → flats (append t u) ≡ flats t ++ flats u
unfolding flat
flats_append end u = refl
flats_append (e then t) u = ap (λ (l : List ℕ). flat e ++ l) (flats_append t u) ∙ sym (append_assoc (flat e) (flats t) (flats u))

pub heights_append : (t u : Terms ℕ) → heights (append t u) ≡ max (heights t) (heights u)
unfolding height
heights_append end u = omega arith
heights_append (e then t) u = omega (arith, heights_append t u)

-- ---- the numbers determine the expression
first_number : (a b : ℕ) (l m : List ℕ) → a ∷ l ≡ b ∷ m → a ≡ b
first_number a b l m e = cc

other_numbers : (a b : ℕ) (l m : List ℕ) → a ∷ l ≡ b ∷ m → l ≡ m
other_numbers a b l m e = cc

-- what a node holds after its kind: its terms
below : (k j : ℕ) (l m r s : List ℕ) → k ∷ 0 ∷ suc (suc (suc (length l))) ∷ (l ++ r) ≡ j ∷ 0 ∷ suc (suc (suc (length m))) ∷ (m ++ s) → (length l ≡ length m) × (l ++ r ≡ m ++ s)
below k j l m r s e = (cc, cc)

mutual
  unfolding flat

  pub flat_one : (x y : Expr ℕ) (r s : List ℕ) → flat x ++ r ≡ flat y ++ s → (x ≡ y) × (r ≡ s)
  flat_one (reference n) (reference m) r s e =
      let t = other_numbers _ _ _ _ e in
      (ap reference (first_number _ _ _ _ t), other_numbers _ _ _ _ (other_numbers _ _ _ _ t))
  flat_one (reference n) (andor u) r s e = absurd (omega (arith, first_number _ _ _ _ e))
  flat_one (reference n) («and» u) r s e = absurd (omega (arith, first_number _ _ _ _ e))
  flat_one (reference n) (oneof u) r s e = absurd (omega (arith, first_number _ _ _ _ e))
  flat_one (andor t) (reference m) r s e = absurd (omega (arith, first_number _ _ _ _ e))
  flat_one (andor t) (andor u) r s e = let b = below 1 1 (flats t) (flats u) r s e in let i = flats_one t u r s b.0 b.1 in (ap andor i.0, i.1)
  flat_one (andor t) («and» u) r s e = absurd (omega (arith, first_number _ _ _ _ e))
  flat_one (andor t) (oneof u) r s e = absurd (omega (arith, first_number _ _ _ _ e))
  flat_one («and» t) (reference m) r s e = absurd (omega (arith, first_number _ _ _ _ e))
  flat_one («and» t) (andor u) r s e = absurd (omega (arith, first_number _ _ _ _ e))
  flat_one («and» t) («and» u) r s e = let b = below 2 2 (flats t) (flats u) r s e in let i = flats_one t u r s b.0 b.1 in (ap «and» i.0, i.1)
  flat_one («and» t) (oneof u) r s e = absurd (omega (arith, first_number _ _ _ _ e))
  flat_one (oneof t) (reference m) r s e = absurd (omega (arith, first_number _ _ _ _ e))
  flat_one (oneof t) (andor u) r s e = absurd (omega (arith, first_number _ _ _ _ e))
  flat_one (oneof t) («and» u) r s e = absurd (omega (arith, first_number _ _ _ _ e))
  flat_one (oneof t) (oneof u) r s e = let b = below 3 3 (flats t) (flats u) r s e in let i = flats_one t u r s b.0 b.1 in (ap oneof i.0, i.1)

  flats_one : (t u : Terms ℕ) (r s : List ℕ) → length (flats t) ≡ length (flats u) → flats t ++ r ≡ flats u ++ s → (t ≡ u) × (r ≡ s)
  flats_one end end r s n e = (refl, e)
  flats_one end (y then u) r s n e = absurd (omega (arith, length-append (flat y) (flats u), flat_long y))
  flats_one (x then t) end r s n e = absurd (omega (arith, length-append (flat x) (flats t), flat_long x))
  flats_one (x then t) (y then u) r s n e =
      let h : flat x ++ (flats t ++ r) ≡ flat y ++ (flats u ++ s) = sym (append_assoc (flat x) (flats t) r) ∙ e ∙ append_assoc (flat y) (flats u) s in
      let i = flat_one x y (flats t ++ r) (flats u ++ s) h in
      let m = ap (λ (z : Expr ℕ). length (flat z)) i.0 in
      let j = flats_one t u r s (omega (arith, length-append (flat x) (flats t), length-append (flat y) (flats u))) i.1 in
      (cc (i.0, j.0), j.1)

pub flats_injective : (t u : Terms ℕ) → flats t ≡ flats u → t ≡ u
flats_injective t u e = (flats_one t u [] [] (ap length e) (ap (λ (l : List ℕ). l ++ []) e)).0

-- how many numbers a node takes is put in once its terms stand behind it
pub patched : (w p x : List ℕ) (u m a b c v : ℕ) → length p ≡ u → u + 3 ≤ m → take m w ≡ (p ++ (a ∷ b ∷ c ∷ [])) ++ x → take m (set w (u + 2) v) ≡ p ++ (a ∷ b ∷ v ∷ x)
patched w p x u m a b c v h g e =
    let i : u + 2 < m = omega arith in
    let n : length (p ++ (a ∷ b ∷ [])) ≡ u + 2 = length-append p (a ∷ b ∷ []) ∙ omega arith in
    let f : (p ++ (a ∷ b ∷ c ∷ [])) ++ x ≡ (p ++ (a ∷ b ∷ [])) ++ (c ∷ x) = append_assoc p (a ∷ b ∷ c ∷ []) x ∙ sym (append_assoc p (a ∷ b ∷ []) (c ∷ x)) in
    take-set-lt m w (u + 2) v i ∙ ap (λ (l : List ℕ). set l (u + 2) v) (e ∙ f) ∙ set_at (p ++ (a ∷ b ∷ [])) c x v (u + 2) n ∙ append_assoc p (a ∷ b ∷ []) (v ∷ x)
