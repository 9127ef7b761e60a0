-- What the code's answers say, in the paper's words.
use Rattle.std.specs.Prelude.{Bool, Result}
use Rattle.refusal.specs.declared.Refusal.{Refusal}
use Rattle.refusal.specs.MeaningAnswer.{Answer}
use Rattle.refusal.specs.Told.{told_by}
use Rattle.text.specs.declared.Flags.{Flags}

-- whether it is simple, then whether it is an enumeration
abbrev pub told_flags : Result Flags Refusal → Answer (Bool × Bool)
told_flags = told_by (λ both. (both.simple, both.enumeration))
