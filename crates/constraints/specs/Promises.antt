-- What the public functions promise: the answer, and the end state of everything borrowed.
use Rattle.std.specs.Prelude.{ℕ, ◌≡◌, List, Bool, Result, length}
use Rattle.refusal.specs.MeaningAnswer.{Answer, done}
use Rattle.refusal.specs.Told.{told}
use Rattle.refusal.specs.declared.Refusal.{Refusal}
use Rattle.grammar.specs.MeaningReading.{Reading}
use Rattle.query.specs.MeaningQuery.{path_query}
use Rattle.complex_entity.specs.MeaningParts.{Part}
use Rattle.instantiables.specs.declared.Instantiables.{Instantiables}
use Rattle.operands.specs.MeaningOperands.{read_part, both, part}
use Rattle.operands.specs.Promises as rows
use Rattle.declarations.specs.MeaningNamespace.{schemas_in}
use Rattle.namespace.specs.MeaningOrder.{Answers}
use Rattle.supertypes.specs.MeaningWorkspace.{enough, left}
use Rattle.constraints.specs.MeaningQuestions.{supertype_question, ask_list, ask_number, ask_row_into, ask_supertype}

-- `is_supertype`
unfoldable pub PromiseSupertype : Reading → (sheet query work : List ℕ) → Result Bool Refusal → (work' : List ℕ) → Type 0
PromiseSupertype rd s q work r work' = Answers rd s (enough work) (path_query q) (supertype_question rd (schemas_in s)) (told r) × (work' ≡ left s work)

-- an answer that is rows: how many there are, or the refusal; the buffer holds the rows, or what it held
unfoldable pub Rows : (Answer (List Part) → Type 0) → (sheet work out : List ℕ) → Result Instantiables Refusal → (work' out' : List ℕ) → Type 0
Rows Is s work out r work' out' = (o : Answer (List Part)) × Is o × rows.Answers o out r out' × (work' ≡ left s work)

-- `list`: a supertype's list
unfoldable pub PromiseList : Reading → (sheet query work out : List ℕ) → Result Instantiables Refusal → (work' out' : List ℕ) → Type 0
PromiseList rd s q work out r work' out' = Rows (Answers rd s (enough work) (path_query q) (ask_list rd (schemas_in s) (length out))) s work out r work' out'

-- `row_at`: number to row
unfoldable pub PromiseRow : Reading → (sheet query : List ℕ) → ℕ → (work out : List ℕ) → Result Instantiables Refusal → (work' out' : List ℕ) → Type 0
PromiseRow rd s q i work out r work' out' = Rows (Answers rd s (enough work) (path_query q) (ask_row_into rd (schemas_in s) i (length out))) s work out r work' out'

-- `number_of`: row to number; "15 (the query, then the row)"
unfoldable pub PromiseNumber : Reading → (sheet query row work : List ℕ) → Result ℕ Refusal → (work' : List ℕ) → Type 0
PromiseNumber rd s q row work r work' =
    Answers rd s (enough work) (both (path_query q) (read_part row)) (λ a. ask_number rd (schemas_in s) a.0 (part a.1)) (told r) × (work' ≡ left s work)

-- `supertype_at`: the k-th supertype
unfoldable pub PromiseKth : Reading → (sheet : List ℕ) → ℕ → (work : List ℕ) → Result ℕ Refusal → (work' : List ℕ) → Type 0
PromiseKth rd s k work r work' = Answers rd s (enough work) (done k) (ask_supertype rd (schemas_in s)) (told r) × (work' ≡ left s work)
