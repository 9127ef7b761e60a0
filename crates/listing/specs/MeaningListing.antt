-- What the listing of a sheet says: its lines, in order.
use Rattle.std.specs.Prelude.{ℕ, List, [], ◌∷◌, ◌++◌, Bool}
use Rattle.refusal.specs.MeaningAnswer.{Answer, done, refused, mapped}
use Rattle.grammar.specs.MeaningReading.{Reading}
use Rattle.schemas.specs.MeaningSchemas.{Schema}
use Rattle.scope.specs.MeaningScope.{Path}
use Rattle.expression.specs.MeaningExpression.{eval}
use Rattle.declarations.specs.MeaningNamespace.{Declaration, Named, declarations, declaration_for, schema_name, item_name}
use Rattle.declarations.specs.MeaningNamespace.Named.{a_type, an_entity}
use Rattle.merging.specs.MeaningMerging.{Combined}
use Rattle.merging.specs.MeaningNumbering.{map_expr}
use Rattle.records.specs.MeaningResolving.{number_for}
use Rattle.gathering.specs.MeaningCombined.{supertypes}
use Rattle.named_types.specs.MeaningWalk.{is_enumeration}
use Rattle.text.specs.MeaningText.{refused_line, type_line}
use Rattle.listing.specs.MeaningLines.{list_lines}

-- walked is what the walk through named types answers from each path
module _ (rd : Reading) (xs : List Schema) (walked : Path → Answer Bool) where
  -- "Per supertype in order of first entry (b, d, c) it prints `supertype`, path, count .."
  unfoldable pub supertype_lines : List (Combined Path) → List (List ℕ)
  supertype_lines [] = []
  supertype_lines (c ∷ g) = list_lines xs c.owner (eval (map_expr (number_for rd xs) c.expr)) ++ supertype_lines g

  -- "Then per type, as declared: `type`, path, simple flag, enumeration flag (0 or 1)."
  unfoldable pub flags_of : Path → Answer (Bool × Bool)
  flags_of p = mapped (λ b. (b, is_enumeration rd xs (declaration_for rd xs p))) (walked p)

  unfoldable pub type_lines_of : Path → Named → List (List ℕ)
  type_lines_of p (a_type t) = type_line (schema_name p).bytes (item_name p).bytes (flags_of p) ∷ []
  type_lines_of p (an_entity e) = []

  unfoldable pub type_lines : List Declaration → List (List ℕ)
  type_lines [] = []
  type_lines (d ∷ ds) = type_lines_of d.path d.named ++ type_lines ds

  unfoldable pub lines_of : List (Combined Path) → List (List ℕ)
  lines_of g = supertype_lines g ++ type_lines (declarations xs)

  -- the lines, or the refusal of gathering
  unfoldable pub listed : Answer (List (List ℕ))
  listed = mapped lines_of (supertypes rd xs)

-- "a refusal before that prints only `refused`, number, place"
unfoldable pub printed : Answer (List (List ℕ)) → List (List ℕ)
printed (done ls) = ls
printed (refused n place) = refused_line n place ∷ []
