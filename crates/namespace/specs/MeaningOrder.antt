-- The order of refusals of every question on a sheet, once.
use Rattle.std.specs.Prelude.{ℕ, ◌≡◌, List, Bool, length, leb}
use Rattle.refusal.specs.MeaningAnswer.{Answer, or_else, ◌>>=◌}
use Rattle.grammar.specs.MeaningReading.{Reading}
use Rattle.grammar.specs.MeaningGrammar.{most_bytes}
use Rattle.sheet.specs.MeaningSheet.{Is}

-- "Order: 1; 2; sheet faults ..; 15 ..", then the question's own answer: `long` says whether the workspace is long enough
unfoldable pub in_order : {A B : Type 0} → List ℕ → (long : Bool) → Answer (Unit {0}) → Answer A → (A → Answer B) → Answer B
in_order s long verdict asked own = or_else 1 (leb (length s) most_bytes) (or_else 2 long (verdict >>= λ accepted. asked >>= own))

-- r is what a question answers, the verdict on the sheet being what it is
unfoldable pub Answers : {A B : Type 0} → Reading → List ℕ → (long : Bool) → Answer A → (A → Answer B) → Answer B → Type 0
Answers rd s long asked own r = (v : Answer (Unit {0})) × Is rd s v × (r ≡ in_order s long v asked own)
