-- Laws of the digits of a number: the last one, those before it, and how many there are.
use mathlib.Core.Path.{◌≡◌, refl, sym, ◌∙◌, ap}
use mathlib.Core.List.{List, [], ◌∷◌, ◌++◌}
use mathlib.Core.Logic.{◌⊎◌, inl, inr}
use mathlib.Core.Bool.{Bool, true, false}
use Prim.Native.Nat.{ℕ, zero, suc, ◌+◌, ◌*◌, ◌/◌, ◌%◌, ◌^◌, ◌≤◌, ◌<◌}
use native.Mathlib.Omega.{arith}
use native.Mathlib.Nat.{div-lt_self}
use lib.Dec.{ltb}
use lib.ListN.{length, length-append}
use borrow.Author.Tests.{lt-ltb, le-ltb, ltb-true, ltb-false}
use Rattle.text.specs.MeaningText.{digits_by, decimal}
use Rattle.text.specs.MirrorText.{Puts}
use Rattle.text.proofs.Putting.{puts_on}

ten : (n : ℕ) → (n < 10) ⊎ (10 ≤ n)
ten n = go (ltb n 10) refl
  where
    go : (b : Bool) → ltb n 10 ≡ b → (n < 10) ⊎ (10 ≤ n)
    go true e = inl (ltb-true n 10 e)
    go false e = inr (ltb-false n 10 e)

one_digit : (m n : ℕ) → n < 10 → digits_by (suc m) n ≡ (0x30 + n) ∷ []
unfolding digits_by
one_digit m n h = rw (lt-ltb n 10 h)

more_digits : (m n : ℕ) → 10 ≤ n → digits_by (suc m) n ≡ digits_by m (n / 10) ++ ((0x30 + n % 10) ∷ [])
unfolding digits_by
more_digits m n h = rw (le-ltb n 10 h)

-- any room above the number gives the same digits
roomy : (m k n : ℕ) → n < m → n < k → digits_by m n ≡ digits_by k n
roomy zero k n h g = absurd (omega arith)
roomy (suc m) zero n h g = absurd (omega arith)
roomy (suc m) (suc k) n h g =
    elim (ten n) [
      | inl l ↦ one_digit m n l ∙ sym (one_digit k n l)
      | inr l ↦
          let d : n / 10 < n = div-lt_self (omega arith) (omega arith) in
          more_digits m n l ∙ ap (λ ds. ds ++ ((0x30 + n % 10) ∷ [])) (roomy m k (n / 10) (omega arith) (omega arith)) ∙ sym (more_digits k n l)
    ]

pub decimal_one : (n : ℕ) → n < 10 → decimal n ≡ (0x30 + n) ∷ []
unfolding decimal
decimal_one n h = one_digit n n h

pub decimal_more : (n : ℕ) → 10 ≤ n → decimal n ≡ decimal (n / 10) ++ ((0x30 + n % 10) ∷ [])
unfolding decimal
decimal_more n h =
    let d : n / 10 < n = div-lt_self (omega arith) (omega arith) in
    more_digits n n h ∙ ap (λ ds. ds ++ ((0x30 + n % 10) ∷ [])) (roomy n (suc (n / 10)) (n / 10) d (omega arith))

-- the power of ten with one zero more than k: a number below it has no more digits than it has zeros
abbrev power : ℕ → ℕ
power zero = 10
power (suc k) = 10 * power k

digits_few : (k n : ℕ) → n < power k → length (decimal n) ≤ suc k
digits_few zero n h = rw (decimal_one n h) (omega arith)
digits_few (suc k) n h =
    elim (ten n) [
      | inl l ↦ rw (decimal_one n l) (omega arith)
      | inr l ↦ rw (decimal_more n l, length-append) (omega (arith, digits_few k (n / 10) (omega arith)))
    ]

pub decimal_length : (n : ℕ) → n ≤ 65535 → length (decimal n) ≤ 5
decimal_length n h = digits_few 4 n (omega arith)

-- of 64 bits
pub decimal_wide : (n : ℕ) → n < 2 ^ 64 → length (decimal n) ≤ 20
decimal_wide n h = digits_few 19 n (omega arith)

-- ---- the ways through `put_decimal`
pub puts_digit : (n d at r : ℕ) (x y : List ℕ) → n < 10 → d ≡ 0x30 + n → Puts (d ∷ []) at r x y → Puts (decimal n) at r x y
puts_digit n d at r x y h e f = rw (decimal_one n h, ← e) f

pub puts_digits : (n d at b r : ℕ) (x y z : List ℕ) → 10 ≤ n → d ≡ 0x30 + n % 10
    → Puts (decimal (n / 10)) at b x y → Puts (d ∷ []) b r y z → Puts (decimal n) at r x z
puts_digits n d at b r x y z h e f g = rw (decimal_more n h, ← e) (puts_on _ _ _ _ _ _ _ _ f g)

-- room for all digits is room for the first, for those before the last, and for the last
pub one_room : (n at size : ℕ) → n < 10 → at + length (decimal n) ≤ size → at + 1 ≤ size
one_room n at size h g = omega (arith, ap length (decimal_one n h))

pub tenth_room : (n at size : ℕ) → 10 ≤ n → at + length (decimal n) ≤ size → at + length (decimal (n / 10)) ≤ size
tenth_room n at size h g = omega (arith, ap length (decimal_more n h), length-append (decimal (n / 10)) ((0x30 + n % 10) ∷ []))

pub last_room : (n at b : ℕ) (x y : List ℕ) → 10 ≤ n → at + length (decimal n) ≤ length x → Puts (decimal (n / 10)) at b x y → b + 1 ≤ length y
last_room n at b x y h g f =
    omega (arith, f.end, f.size, ap length (decimal_more n h), length-append (decimal (n / 10)) ((0x30 + n % 10) ∷ []))

pub ruleset digits = (puts_digit, puts_digits, one_room, tenth_room, last_room)
