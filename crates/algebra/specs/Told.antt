-- What the comparison of two parts says, in the paper's words.
use Rattle.std.specs.Prelude.{Result}
use Rattle.std.proofs.Common as std
use Prim.Native.Nat.{Ordering}
use Rattle.refusal.specs.MeaningAnswer.{Answer}
use Rattle.refusal.specs.Told.{told_by}
use Rattle.refusal.specs.declared.Refusal.{Refusal}
use Rattle.complex_entity.specs.Told.{told_order}

-- "The comparison answers -1, 0 or +1."
abbrev pub told_compared : Result std.Ordering Refusal → Answer Ordering
told_compared r = told_by told_order r
