-- The lines of a supertype and of its parts, whose names are numbers of declarations.
use Rattle.std.specs.Prelude.{ℕ, suc, List, [], ◌∷◌, map, length}
use Rattle.refusal.specs.MeaningAnswer.{Answer, done, refused, mapped}
use Rattle.schemas.specs.MeaningSchemas.{Schema}
use Rattle.complex_entity.specs.MeaningParts.{Part}
use Rattle.scope.specs.MeaningScope.{Path}
use Rattle.declarations.specs.MeaningNamespace.{schema_name, item_name}
use Rattle.text.specs.MeaningText.{path_text, supertype_line, part_line}
use Rattle.noting.specs.MeaningNames.{names_of}

module _ (xs : List Schema) where
  unfoldable pub number_text : ℕ → List ℕ
  number_text i = path_text (names_of xs i).schema (names_of xs i).item

  -- ".. then a line per part: number, paths joined by commas"
  unfoldable pub line_of_part : ℕ → Part → List ℕ
  line_of_part i q = part_line i (map number_text q)

  unfoldable pub part_lines : ℕ → List Part → List (List ℕ)
  part_lines i [] = []
  part_lines i (q ∷ L) = line_of_part i q ∷ part_lines (suc i) L

  unfoldable pub parts_of : Answer (List Part) → List (List ℕ)
  parts_of (done L) = part_lines 0 L
  parts_of (refused n place) = []

  -- "`supertype`, path, count, then .."
  unfoldable pub list_lines : Path → Answer (List Part) → List (List ℕ)
  list_lines p o = supertype_line (schema_name p).bytes (item_name p).bytes (mapped length o) ∷ parts_of o
