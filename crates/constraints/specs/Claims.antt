-- What is proved, to be read without the proofs: each claim is a type, and proofs/Proved.antt has a member of each.
use Rattle.std.specs.Prelude.{ℕ, ◌<◌, ◌≤◌, ◌≡◌, ◌↔◌, List, Bool, true, Result, length}
use Rattle.refusal.specs.MeaningAnswer.{done, refused}
use Rattle.refusal.specs.declared.Refusal.{Refusal}
use Rattle.grammar.specs.MeaningReading.{Reading}
use Rattle.scope.specs.MeaningScope.{Path, same_path}
use Rattle.query.specs.MeaningQuery.{path_query}
use Rattle.complex_entity.specs.MeaningRising.{◌∈◌, Rising}
use Rattle.complex_entity.specs.MeaningParts.{Part, order}
use Rattle.instantiables.specs.declared.Instantiables.{Instantiables}
use Rattle.expression.specs.MeaningExpression.{Expr}
use Rattle.expression.specs.MeaningBuilds.{Builds}
use Rattle.merging.specs.MeaningNumbering.{map_expr}
use Rattle.declarations.specs.MeaningNamespace.{schemas_in}
use Rattle.records.specs.MeaningResolving.{number_for}
use Rattle.gathering.specs.MeaningCombined.{combined, list_of}
use Rattle.gathering.specs.Claims.{IsDeclared, Every}
use Rattle.constraints.specs.MeaningQuestions.{ask_number, ask_row}
use Rattle.constraints.specs.Promises.{PromiseSupertype, PromiseList, PromiseRow, PromiseNumber, PromiseKth}

-- ---- demand 3: of the bytes s and a path p, whose combined expression is e and whose list is L. A name is the number of the declaration that a path leads to
pub record Numbers (rd : Reading) (s : List ℕ) (p : Path) (e : Expr Path) (L : List Part) : Type 0 where
  -- "Each set that can be built" is in the list, and no other
  pub sets : (q : Part) → (q ∈ L) ↔ Builds (map_expr (number_for rd (schemas_in s)) e) q
  -- "Smaller sets come first, then lower index lists." So none stands there twice
  pub rising : Rising order L
  -- ".. has exactly one number from 0 to the count less one": a row has the number i exactly where i is below the count and gives the row back
  pub numbers : (q : Part) (i : ℕ) → (ask_number rd (schemas_in s) p q ≡ done i) ↔ ((i < length L) × (ask_row rd (schemas_in s) p i ≡ done q))
  -- every number below the count gives a row, and none from there on
  pub below : (i : ℕ) → i < length L → (q : Part) × (ask_row rd (schemas_in s) p i ≡ done q)
  pub past : (i : ℕ) → length L ≤ i → ask_row rd (schemas_in s) p i ≡ refused 17 0
  -- "No other set has a number"
  pub others : (q : Part) → ((q ∈ L) → ⊥) → ask_number rd (schemas_in s) p q ≡ refused 17 0
  -- every name of the expression is declared
  pub declared : Every (IsDeclared rd (schemas_in s)) e

abbrev pub Demand3 : Type 0
Demand3 = (rd : Reading) (s query : List ℕ) (p : Path) (e : Expr Path) (L : List Part)
    → path_query query ≡ done p → combined rd (schemas_in s) p ≡ done e → list_of rd (schemas_in s) p ≡ done L → Numbers rd s p e L

-- "two declarations spelt alike are two names": declared paths have one number exactly where they are equal
abbrev pub NamesApart : Type 0
NamesApart = (rd : Reading) (s : List ℕ) (p q : Path) → IsDeclared rd (schemas_in s) p → IsDeclared rd (schemas_in s) q
    → (number_for rd (schemas_in s) p ≡ number_for rd (schemas_in s) q) ↔ (same_path rd p q ≡ true)

-- ---- one input allows one outcome

abbrev pub SupertypeOnce : Type 0
SupertypeOnce = (rd : Reading) (s q work : List ℕ) (r r' : Result Bool Refusal) (w w' : List ℕ) → PromiseSupertype rd s q work r w → PromiseSupertype rd s q work r' w' → (r ≡ r') × (w ≡ w')

abbrev pub ListOnce : Type 0
ListOnce = (rd : Reading) (s q work out : List ℕ) (r r' : Result Instantiables Refusal) (w w' o o' : List ℕ)
    → PromiseList rd s q work out r w o → PromiseList rd s q work out r' w' o' → (r ≡ r') × (w ≡ w') × (o ≡ o')

abbrev pub RowOnce : Type 0
RowOnce = (rd : Reading) (s q : List ℕ) (i : ℕ) (work out : List ℕ) (r r' : Result Instantiables Refusal) (w w' o o' : List ℕ)
    → PromiseRow rd s q i work out r w o → PromiseRow rd s q i work out r' w' o' → (r ≡ r') × (w ≡ w') × (o ≡ o')

abbrev pub NumberOnce : Type 0
NumberOnce = (rd : Reading) (s q row work : List ℕ) (r r' : Result ℕ Refusal) (w w' : List ℕ) → PromiseNumber rd s q row work r w → PromiseNumber rd s q row work r' w' → (r ≡ r') × (w ≡ w')

abbrev pub KthOnce : Type 0
KthOnce = (rd : Reading) (s : List ℕ) (k : ℕ) (work : List ℕ) (r r' : Result ℕ Refusal) (w w' : List ℕ) → PromiseKth rd s k work r w → PromiseKth rd s k work r' w' → (r ≡ r') × (w ≡ w')
