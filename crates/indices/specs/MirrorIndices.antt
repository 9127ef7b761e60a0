-- A place among indices as the code gives it.
use Rattle.std.specs.Prelude.{ℕ, Option, Some, None}
use Rattle.std.proofs.Math.Option.{none, some, Option as Maybe}

abbrev pub spotted_of : Maybe ℕ → Option ℕ
spotted_of none = None
spotted_of (some i) = Some i
