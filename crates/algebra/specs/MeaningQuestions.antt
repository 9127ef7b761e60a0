-- The questions on rows: what each answers for the numbers lent.
use Rattle.std.specs.Prelude.{List, leb}
use Prim.Native.Nat.{ℕ, Ordering}
use Rattle.refusal.specs.MeaningAnswer.{Answer, done, or_else, mapped, ◌>>=◌}
use Rattle.complex_entity.specs.MeaningParts.{Part, last_index, order, single, new_of}
use Rattle.operands.specs.MeaningOperands.{read_lists, read_part, Operand, read, part, both}
use Rattle.operands.specs.MeaningResults.{one, fitting}
use Rattle.operators.specs.MeaningOperators.{Operator, value_of, Several, value_of_all}

-- "Order: .. 15, left operand first; .. 9, 10, 11 ..; 12", once for all of them: what was read of the operands, the question's own answer, the buffer's room
unfoldable pub in_order : {A : Type 0} → Answer A → (A → Answer (List Part)) → ℕ → Answer (List Part)
in_order operands own room = operands >>= λ a. own a >>= fitting room

-- ---- parts

unfoldable pub ask_new : List ℕ → ℕ → Answer (List Part)
ask_new indices room = in_order (new_of indices) one room

-- "15: malformed .. operand": an index is at most 255
unfoldable pub ask_single : ℕ → ℕ → Answer (List Part)
ask_single index room = in_order (or_else 15 (leb index last_index) (done (single index))) one room

unfoldable pub ask_compare : List ℕ → List ℕ → Answer Ordering
ask_compare l r = mapped (λ o. order (part o.0) (part o.1)) (both (read_part l) (read_part r))

-- ---- lists

unfoldable pub ask_two : Operator → Operand → Operand → List ℕ → List ℕ → ℕ → Answer (List Part)
ask_two op i j l r room = in_order (both (read i l) (read j r)) (λ o. value_of op o.0 o.1) room

unfoldable pub ask_several : Several → List ℕ → List ℕ → ℕ → Answer (List Part)
ask_several op counts rows room = in_order (read_lists counts rows) (value_of_all op) room
