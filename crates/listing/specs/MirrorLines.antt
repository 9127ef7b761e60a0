-- What the lines' code asks of a sheet and of a row; the line of a supertype and the next type, by their numbers.
use Rattle.std.specs.Prelude.{ℕ, suc, ◌≤◌, ◌≡◌, List, [], ◌∷◌, Result, Ok, Err, length, drop, get_or}
use Rattle.std.proofs.Math.Option.{some}
use Rattle.std.proofs.Math.ListN.{get_elem?}
use Rattle.refusal.specs.MeaningAnswer.{Answer}
use Rattle.complex_entity.specs.MeaningRising.{◌∈◌}
use Rattle.complex_entity.specs.MeaningParts.{most_names}
use Rattle.grammar.specs.MeaningGrammar.{most_name_bytes}
use Rattle.schemas.specs.MeaningSchemas.{TypeDecl, Schema}
use Rattle.declarations.specs.MeaningNamespace.{schemas_in, Declaration, Named, declarations, schema_name, item_name}
use Rattle.declarations.specs.MeaningNamespace.Named.{a_type, an_entity}
use Rattle.text.specs.MeaningText.{supertype_line}
use Rattle.noting.specs.MeaningNames.{names_of}

-- there is room for any line in so many bytes
abbrev pub most_line : ℕ
most_line = 800

-- every declaration's names have at most 32 bytes
abbrev pub Short : List ℕ → Type 0
Short s = (d : Declaration) → d ∈ declarations (schemas_in s) → (length (schema_name d.path).bytes ≤ most_name_bytes) × (length (item_name d.path).bytes ≤ most_name_bytes)

-- a part's row: a count of at most 12, and room for 12 names
pub record RowStands (row : List ℕ) : Type 0 where
  pub long : 13 ≤ length row
  pub few : get_or row 0 0 ≤ most_names

-- the line of a supertype, by its number
unfoldable pub line_of_supertype : List Schema → ℕ → Answer ℕ → List ℕ
line_of_supertype xs owner count = supertype_line (names_of xs owner).schema (names_of xs owner).item count

-- ---- types

-- the declaration with the number is a type
pub record IsType (xs : List Schema) (m : ℕ) : Type 0 where
  pub it : Declaration
  pub decl : TypeDecl
  pub there : get_elem? (declarations xs) m ≡ some it
  pub is : it.named ≡ a_type decl

-- the number of the first type among declarations numbered from n on; where there is none, the number after the last
unfoldable pub type_or : Named → ℕ → Result ℕ ℕ → Result ℕ ℕ
type_or (a_type t) n later = Ok n
type_or (an_entity e) n later = later

unfoldable pub first_type : ℕ → List Declaration → Result ℕ ℕ
first_type n [] = Err n
first_type n (d ∷ ds) = type_or d.named n (first_type (suc n) ds)

unfoldable pub type_from : List Schema → ℕ → Result ℕ ℕ
type_from xs n = first_type n (drop n (declarations xs))
