-- The questions about supertypes: what each answers for the schemas of an accepted sheet, and what is left in the lent workspace.
use Rattle.std.specs.Prelude.{ℕ, List, Bool, true, false}
use Rattle.std.proofs.Math.Option.{Option, none, some}
use Rattle.std.proofs.Math.ListN.{get_elem?}
use Rattle.refusal.specs.MeaningAnswer.{Answer, mapped, ◌>>=◌}
use Rattle.grammar.specs.MeaningReading.{Reading}
use Rattle.schemas.specs.MeaningSchemas.{Schema}
use Rattle.scope.specs.MeaningScope.{Path, same_path}
use Rattle.complex_entity.specs.MeaningParts.{Part}
use Rattle.operands.specs.MeaningResults.{fitting, one}
use Rattle.expression.specs.MeaningNumbers.{number_of, set_at, or17}
use Rattle.merging.specs.MeaningMerging.{find}
use Rattle.records.specs.MeaningResolving.{number_for}
use Rattle.gathering.specs.MeaningCombined.{supertypes, list_of}

-- ---- the questions

-- "`is_supertype` answers yes or no, never 16."
abbrev pub is_some : {A : Type 0} → Option A → Bool
is_some none = false
is_some (some x) = true

unfoldable pub supertype_question : Reading → List Schema → Path → Answer Bool
supertype_question rd xs p = mapped (λ g. is_some (find (same_path rd) p g)) (supertypes rd xs)

-- the supertype's list, into a buffer with so much room: "12: result longer than its buffer"
unfoldable pub ask_list : Reading → List Schema → (room : ℕ) → Path → Answer (List Part)
ask_list rd xs room p = list_of rd xs p >>= fitting room

-- "Numbering questions: row to number, number to row."
unfoldable pub ask_number : Reading → List Schema → Path → Part → Answer ℕ
ask_number rd xs p q = list_of rd xs p >>= λ L. number_of L q

unfoldable pub ask_row : Reading → List Schema → Path → ℕ → Answer Part
ask_row rd xs p i = list_of rd xs p >>= λ L. set_at L i

-- the row, into a buffer: a list of one
unfoldable pub ask_row_into : Reading → List Schema → ℕ → (room : ℕ) → Path → Answer (List Part)
ask_row_into rd xs i room p = ask_row rd xs p i >>= one >>= fitting room

-- the k-th supertype "in order of first entry (b, d, c)": its declaration's number; 17 where there are no more than k
unfoldable pub ask_supertype : Reading → List Schema → ℕ → Answer ℕ
ask_supertype rd xs k = supertypes rd xs >>= λ g. mapped (λ c. number_for rd xs c.owner) (or17 (get_elem? g k))
