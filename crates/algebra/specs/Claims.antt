-- What is proved of the questions on rows: one input, one outcome.
use Rattle.std.specs.Prelude.{◌≡◌, List, ℕ, Result}
use Rattle.std.proofs.Common as std
use Rattle.refusal.specs.declared.Refusal.{Refusal}
use Rattle.instantiables.specs.declared.Instantiables.{Instantiables}
use Rattle.operands.specs.MeaningOperands.{Operand}
use Rattle.operators.specs.MeaningOperators.{Operator, Several}
use Rattle.algebra.specs.Promises.{PromiseNew, PromiseSingle, PromiseCompare, PromiseTwo, PromiseSeveral}

abbrev pub NewOnce : Type 0
NewOnce = (l out : List ℕ) (r s : Result Instantiables Refusal) (a b : List ℕ) → PromiseNew l out r a → PromiseNew l out s b → (r ≡ s) × (a ≡ b)

abbrev pub SingleOnce : Type 0
SingleOnce = (n : ℕ) (out : List ℕ) (r s : Result Instantiables Refusal) (a b : List ℕ) → PromiseSingle n out r a → PromiseSingle n out s b → (r ≡ s) × (a ≡ b)

abbrev pub CompareOnce : Type 0
CompareOnce = (left right : List ℕ) (r s : Result std.Ordering Refusal) → PromiseCompare left right r → PromiseCompare left right s → r ≡ s

abbrev pub TwoOnce : Type 0
TwoOnce = (op : Operator) (i j : Operand) (left right out : List ℕ) (r s : Result Instantiables Refusal) (a b : List ℕ)
    → PromiseTwo op i j left right out r a → PromiseTwo op i j left right out s b → (r ≡ s) × (a ≡ b)

abbrev pub SeveralOnce : Type 0
SeveralOnce = (op : Several) (counts rows out : List ℕ) (r s : Result Instantiables Refusal) (a b : List ℕ)
    → PromiseSeveral op counts rows out r a → PromiseSeveral op counts rows out s b → (r ≡ s) × (a ≡ b)
