-- A kind and its number: each comes back from the other.
use mathlib.Core.Path.{◌≡◌, refl}
use Prim.Native.Nat.{ℕ, zero, suc, ◌≤◌}
use native.Mathlib.Omega.{arith}
use Rattle.expression.specs.declared.Kind.{Kind}
use Rattle.expression.specs.declared.Kind.TheVariants.{Reference, Andor, And, Oneof}
use Rattle.expression.specs.MirrorKinds.{kind_of, number_of_kind}

pub kind_back : (k : Kind) → kind_of (number_of_kind k) ≡ k
kind_back Reference = refl
kind_back Andor = refl
kind_back And = refl
kind_back Oneof = refl

pub number_back : (n : ℕ) → n ≤ 3 → number_of_kind (kind_of n) ≡ n
number_back zero h = refl
number_back (suc zero) h = refl
number_back (suc (suc zero)) h = refl
number_back (suc (suc (suc zero))) h = refl
number_back (suc (suc (suc (suc n)))) h = absurd (omega arith)

-- what is no reference has another number
pub no_reference : (n : ℕ) → (kind_of n ≡ Reference → ⊥) → 1 ≤ n
no_reference zero f = absurd (f refl)
no_reference (suc n) f = omega arith
