-- What each question on rows promises.
use Rattle.std.specs.Prelude.{◌≡◌, List, ℕ, length, Result}
use Rattle.std.proofs.Common as std
use Rattle.refusal.specs.declared.Refusal.{Refusal}
use Rattle.instantiables.specs.declared.Instantiables.{Instantiables}
use Rattle.operands.specs.MeaningOperands.{Operand}
use Rattle.operands.specs.Promises.{Answers}
use Rattle.algebra.specs.MeaningQuestions.{ask_new, ask_single, ask_compare, ask_two, ask_several}
use Rattle.operators.specs.MeaningOperators.{Operator, Several}
use Rattle.algebra.specs.Told.{told_compared}

abbrev pub PromiseNew : List ℕ → List ℕ → Result Instantiables Refusal → List ℕ → Type 0
PromiseNew indices out r out' = Answers (ask_new indices (length out)) out r out'

abbrev pub PromiseSingle : ℕ → List ℕ → Result Instantiables Refusal → List ℕ → Type 0
PromiseSingle index out r out' = Answers (ask_single index (length out)) out r out'

abbrev pub PromiseCompare : List ℕ → List ℕ → Result std.Ordering Refusal → Type 0
PromiseCompare left right r = told_compared r ≡ ask_compare left right

abbrev pub PromiseTwo : Operator → Operand → Operand → List ℕ → List ℕ → List ℕ → Result Instantiables Refusal → List ℕ → Type 0
PromiseTwo op i j left right out r out' = Answers (ask_two op i j left right (length out)) out r out'

abbrev pub PromiseSeveral : Several → List ℕ → List ℕ → List ℕ → Result Instantiables Refusal → List ℕ → Type 0
PromiseSeveral op counts rows out r out' = Answers (ask_several op counts rows (length out)) out r out'
