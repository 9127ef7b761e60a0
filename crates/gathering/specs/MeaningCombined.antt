-- The combined expression of a supertype, over paths, and its list, over numbers.
use Rattle.std.specs.Prelude.{ℕ, List}
use Rattle.refusal.specs.MeaningAnswer.{Answer, mapped, ◌>>=◌}
use Rattle.complex_entity.specs.MeaningParts.{Part}
use Rattle.expression.specs.MeaningExpression.{Expr, eval}
use Rattle.merging.specs.MeaningMerging.{Combined, find}
use Rattle.merging.specs.MeaningNumbering.{map_expr}
use Rattle.grammar.specs.MeaningReading.{Reading}
use Rattle.scope.specs.MeaningScope.{Path, same_path}
use Rattle.schemas.specs.MeaningSchemas.{Schema}
use Rattle.declarations.specs.MeaningNamespace.{answered}
use Rattle.records.specs.MeaningResolving.{number_for, own_path, path_for}
use Rattle.gathering.specs.MeaningGathering.{gather}

-- the supertypes, in order of first entry, each with its combined expression
unfoldable pub supertypes : Reading → List Schema → Answer (List (Combined Path))
supertypes rd xs = gather (same_path rd) (path_for rd xs) own_path rd xs

-- "16: not a supertype"
unfoldable pub combined : Reading → List Schema → Path → Answer (Expr Path)
combined rd xs p = supertypes rd xs >>= λ g. answered 16 0 (find (same_path rd) p g)

-- the combined expression over the numbers of its paths
unfoldable pub numbered_expr : Reading → List Schema → Path → Answer (Expr ℕ)
numbered_expr rd xs p = mapped (map_expr (number_for rd xs)) (combined rd xs p)

-- the list of a supertype
unfoldable pub list_of : Reading → List Schema → Path → Answer (List Part)
list_of rd xs p = numbered_expr rd xs p >>= eval
