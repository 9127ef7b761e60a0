-- What is promised wherever rows are handed out: the answer, and what the result buffer holds then.
use Rattle.std.specs.Prelude.{◌≡◌, List, ℕ, length, Result}
use Rattle.refusal.specs.MeaningAnswer.{Answer, mapped}
use Rattle.complex_entity.specs.MeaningParts.{Part}
use Rattle.refusal.specs.declared.Refusal.{Refusal}
use Rattle.instantiables.specs.declared.Instantiables.{Instantiables}
use Rattle.instantiables.specs.Told.{told_listed}
use Rattle.operands.specs.MeaningResults.{written}

-- the answer is how many rows the result has, or its refusal; the buffer holds the rows, or what it held
pub record Answers (o : Answer (List Part)) (out : List ℕ) (r : Result Instantiables Refusal) (out' : List ℕ) : Type 0 where
  pub says : told_listed r ≡ mapped length o
  pub buffer : out' ≡ written o out
