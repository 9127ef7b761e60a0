-- Every claim holds.
use mathlib.Core.Path.{◌≡◌, sym, ap, ◌∙◌}
use mathlib.Core.List.{List}
use Prim.Native.Nat.{ℕ}
use lib.ListN.{length}
use Rattle.refusal.specs.MeaningAnswer.{Answer, done}
use Rattle.refusal.proofs.Same.{same_refusal}
use Rattle.grammar.proofs.Choosing.{clash}
use Rattle.query.specs.MeaningQuery.{path_query}
use Rattle.complex_entity.specs.MeaningParts.{Part}
use Rattle.std.specs.Prelude.{Result, Ok, Err}
use Rattle.refusal.specs.Told.{told}
use Rattle.refusal.specs.declared.Refusal.{Refusal}
use Rattle.instantiables.specs.declared.Instantiables.{Instantiables}
use Rattle.operands.specs.MeaningOperands.{read_part, both, part}
use Rattle.operands.proofs.Once as rows
use Rattle.declarations.specs.MeaningNamespace.{schemas_in}
use Rattle.declarations.proofs.Proved.{get_apart}
use Rattle.namespace.proofs.Clearing.{answers_once}
use Rattle.gathering.proofs.Declaring.{number_is}
use Rattle.supertypes.specs.MeaningWorkspace.{enough}
use Rattle.constraints.specs.MeaningQuestions.{supertype_question, ask_list, ask_number, ask_row_into, ask_supertype}
use Rattle.constraints.specs.Promises.{PromiseSupertype, Rows, PromiseList, PromiseRow, PromiseNumber, PromiseKth}
use Rattle.constraints.specs.Claims.{Demand3, NamesApart, SupertypeOnce, ListOnce, RowOnce, NumberOnce, KthOnce}
use Rattle.constraints.proofs.Demand.{numbers}

pub demand_3 : Demand3
demand_3 rd s query p e L q c l = numbers rd s p e L c l

pub names_apart : NamesApart
names_apart rd s p q P Q =
    let A = get_apart rd (schemas_in s) p q P.0 Q.0 P.1 Q.1 in
    let i = number_is rd (schemas_in s) p P.0 P.1 in
    let j = number_is rd (schemas_in s) q Q.0 Q.1 in
    (λ e. A.0 (sym i ∙ e ∙ j), λ e. i ∙ A.1 e ∙ sym j)

-- ---- different answers say different things

told_once : {A : Type 0} (a b : Result A Refusal) → told a ≡ told b → a ≡ b
told_once (Ok x) (Ok y) e = let z : x ≡ y = cc in ap Ok z
told_once (Ok x) (Err q) e = clash (cc)
told_once (Err r) (Ok y) e = clash (cc)
told_once (Err r) (Err q) e = ap Err (same_refusal r q (cc) (cc))

-- ---- one input allows one outcome

pub supertype_once : SupertypeOnce
unfolding PromiseSupertype
supertype_once rd s q work r r' w w' x y = (told_once r r' (answers_once rd s (enough work) (path_query q) (supertype_question rd (schemas_in s)) (told r) (told r') x.0 y.0), x.1 ∙ sym y.1)

-- of answers that are rows
rows_once : (Is : Answer (List Part) → Type 0) → ((o o' : Answer (List Part)) → Is o → Is o' → o ≡ o') → (s work out : List ℕ) (r r' : Result Instantiables Refusal) (w w' b b' : List ℕ) → Rows Is s work out r w b → Rows Is s work out r' w' b'
    → (r ≡ r') × (w ≡ w') × (b ≡ b')
unfolding Rows
rows_once Is once s work out r r' w w' b b' x y =
    let o = rows.answers_once y.0 out r r' b b' (rw (once x.0 y.0 x.1 y.1) at x.2) y.2 in
    (o.0, x.3 ∙ sym y.3, o.1)

pub list_once : ListOnce
unfolding PromiseList
list_once rd s q work out = rows_once _ (λ o o'. answers_once rd s (enough work) (path_query q) (ask_list rd (schemas_in s) (length out)) o o') s work out

pub row_once : RowOnce
unfolding PromiseRow
row_once rd s q i work out = rows_once _ (λ o o'. answers_once rd s (enough work) (path_query q) (ask_row_into rd (schemas_in s) i (length out)) o o') s work out

pub number_once : NumberOnce
unfolding PromiseNumber
number_once rd s q row work r r' w w' x y =
    (told_once r r' (answers_once rd s (enough work) (both (path_query q) (read_part row)) (λ a. ask_number rd (schemas_in s) a.0 (part a.1)) (told r) (told r') x.0 y.0), x.1 ∙ sym y.1)

pub kth_once : KthOnce
unfolding PromiseKth
kth_once rd s k work r r' w w' x y = (told_once r r' (answers_once rd s (enough work) (done k) (ask_supertype rd (schemas_in s)) (told r) (told r') x.0 y.0), x.1 ∙ sym y.1)
