-- What is asked of rows and of an expression, each into a buffer.
use Rattle.std.specs.Prelude.{List, ℕ, Result}
use Rattle.std.specs.Borrow.{Bor, MutBor}
use Rattle.refusal.specs.MeaningAnswer.{Answer, ◌>>=◌}
use Rattle.refusal.specs.declared.Refusal.{Refusal}
use Rattle.complex_entity.specs.MeaningParts.{Part}
use Rattle.instantiables.specs.declared.Instantiables.{Instantiables}
use Rattle.operands.specs.MeaningResults.{fitting}
use Rattle.operands.specs.Promises.{Answers}
use Rattle.expression.specs.MeaningExpression.{Expr, eval}

-- some list or refusal was answered: the buffer holds the list's rows, or what it held
pub record SomeAnswer (before : List ℕ) (r : Result Instantiables Refusal) (after : List ℕ) : Type 0 where
  pub list : Answer (List Part)
  pub is : Answers list before r after

-- whatever is answered to two words and a buffer
abbrev pub Answering : (Bor (List ℕ) → Bor (List ℕ) → MutBor (List ℕ) → Result Instantiables Refusal → MutBor (List ℕ) → Type 0) → Type 0
Answering R = (first second : Bor (List ℕ)) (before after : MutBor (List ℕ)) (r : Result Instantiables Refusal) → R first second before r after → SomeAnswer before.now r after.now

-- the list of an expression, where the buffer has room for it
unfoldable pub ask_eval : Expr ℕ → (room : ℕ) → Answer (List Part)
ask_eval e room = eval e >>= fitting room
