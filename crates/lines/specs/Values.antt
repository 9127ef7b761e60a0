-- What words say.
use Rattle.std.specs.Prelude.{◌≡◌, List, ℕ, ◌≤◌, length, Option, Some, None, IfSome}
use Rattle.lines.specs.Places.{Filled}

-- so many values stand at the front, and past them is what was there
abbrev pub Decoded : {A : Type 0} → Option ℕ → List A → List A → Type 0
Decoded (Some n) before after = Filled n before after
Decoded None before after = length after ≡ length before

abbrev pub AtMost : ℕ → Option ℕ → Type 0
AtMost most r = IfSome r (λ n. n ≤ most)
