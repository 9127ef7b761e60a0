-- Choices by a test, and what two flags say together.
use mathlib.Core.Path.{◌≡◌, refl}
use mathlib.Core.Bool.{Bool, true, false, cond, ◌&&◌}
use Prim.Native.Nat.{ℕ}
use native.Mathlib.Omega.{arith}

-- what holds of both choices holds of the choice
pub either : {A : Type 0} (P : A → Type 0) (b : Bool) (x y : A) → (b ≡ true → P x) → (b ≡ false → P y) → P (cond b x y)
either P true x y f g = f refl
either P false x y f g = g refl

pub clash : {C : Type 0} → ◌≡◌ {A = ℕ} 0 1 → C
clash z = absurd (let y : ⊥ = omega arith in y)

pub opposed : {C : Type 0} {b : Bool} → b ≡ true → b ≡ false → C
opposed q r = clash (cc)

pub both : (a b : Bool) → a && b ≡ true → (a ≡ true) × (b ≡ true)
both true b q = (refl, q)
both false b q = clash (cc)
