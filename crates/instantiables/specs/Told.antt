-- What the code's answers say, in the paper's words.
use Rattle.std.specs.Prelude.{ℕ, Result}
use Rattle.refusal.specs.MeaningAnswer.{Answer}
use Rattle.refusal.specs.Told.{told_by}
use Rattle.refusal.specs.declared.Refusal.{Refusal}
use Rattle.instantiables.specs.declared.Instantiables.{Instantiables}

-- how many parts the list has, or why there is none
abbrev pub told_listed : Result Instantiables Refusal → Answer ℕ
told_listed r = told_by (λ l. l.count) r
