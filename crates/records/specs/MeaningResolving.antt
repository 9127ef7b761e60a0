-- Names resolved: the path and the number that a name means, and an expression over what its names mean.
use Rattle.std.specs.Prelude.{ℕ, List}
use Rattle.std.proofs.Math.Option.{Option, none, some}
use Rattle.refusal.specs.MeaningAnswer.{Answer, mapped, ◌>>=◌, done}
use Rattle.expression.specs.MeaningExpression.{Expr, Terms}
use Rattle.expression.specs.MeaningExpression.Expr.{reference, andor, «and», oneof}
use Rattle.expression.specs.MeaningExpression.Terms.{end, ◌then◌}
use Rattle.grammar.specs.MeaningReading.{Reading}
use Rattle.sheet.specs.MeaningName.{Name}
use Rattle.grammar.specs.MeaningReading.Reading.{rust}
use Rattle.scope.specs.MeaningScope.{Scope, Path}
use Rattle.schemas.specs.MeaningSchemas.{Entity, Schema, Mark}
use Rattle.schemas.specs.MeaningSchemas.Mark.{unmarked, rule, abstract_entity, abstract_supertype}
use Rattle.declarations.specs.MeaningNamespace.{Declaration, path_in, answered, resolved, declaration_for}
use Rattle.declarations.specs.MeaningNamespace.Named.{an_entity}

-- the path that a name of the sheet means in a scope: "6: name not found: the name's first byte"
unfoldable pub path_for : Reading → List Schema → Scope → Name → Answer Path
path_for rd xs sc x = mapped (λ d. d.path) (answered 6 x.at (resolved rd xs sc x.bytes))

-- an entity's own path: it is not resolved
unfoldable pub own_path : Schema → Entity → Path
own_path x e = path_in x (an_entity e)

-- a path's number is `get`'s. Every path in a combined expression is declared, so that no other has one
unfoldable pub number_in : Option Declaration → ℕ
number_in none = 0
number_in (some d) = d.number

unfoldable pub number_for : Reading → List Schema → Path → ℕ
number_for rd xs p = number_in (declaration_for rd xs p)

-- "each field 31 gives its entity an expression .. Fields 32 and 33 give nothing."
unfoldable pub rule_of : Reading → Mark → Option (Expr Name)
rule_of rust unmarked = none
rule_of rust (rule e) = some e
rule_of rust abstract_entity = none
rule_of rust (abstract_supertype o) = none

-- what a name means in a scope is left open
module _ {N : Type 0} (means : Scope → Name → Answer N) where
  -- an expression with its names resolved, from left to right
  unfoldable mutual
    pub resolved_expr : Scope → Expr Name → Answer (Expr N)
    resolved_expr sc (reference x) = mapped reference (means sc x)
    resolved_expr sc (andor t) = mapped andor (resolved_terms sc t)
    resolved_expr sc («and» t) = mapped «and» (resolved_terms sc t)
    resolved_expr sc (oneof t) = mapped oneof (resolved_terms sc t)

    pub resolved_terms : Scope → Terms Name → Answer (Terms N)
    resolved_terms sc end = done end
    resolved_terms sc (e then t) = resolved_expr sc e >>= λ d. mapped (λ u. d then u) (resolved_terms sc t)
