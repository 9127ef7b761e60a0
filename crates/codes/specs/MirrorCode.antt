-- The two numbers as the code carries them.
use Rattle.std.specs.Prelude.{ℕ}
use Rattle.refusal.specs.MeaningAnswer.{Answer, done, refused}
use Rattle.codes.specs.declared.Code.{Code}

abbrev pub code_of : Answer ℕ → Code
code_of (done v) = record { number = 0; value = v }
code_of (refused n place) = record { number = n; value = place }
