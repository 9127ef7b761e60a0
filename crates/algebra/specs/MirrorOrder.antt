-- Two operands as the code judges them.
use Rattle.std.specs.Prelude.{ℕ, Result, Ok, Err}
use Rattle.refusal.specs.declared.Reason.TheVariants.{Malformed}
use Rattle.refusal.specs.declared.Refusal.{Refusal}

-- the left operand's 15, else the right one's
unfoldable pub judged_both : Result (Unit {0}) ℕ → Result (Unit {0}) ℕ → Result (Unit {0}) Refusal
judged_both (Err k) s = Err (record { reason = Malformed; place = k })
judged_both (Ok u) (Err k) = Err (record { reason = Malformed; place = k })
judged_both (Ok u) (Ok v) = Ok tt
