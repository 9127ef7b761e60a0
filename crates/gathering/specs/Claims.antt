-- What is proved of gathering, to be read without the proofs: each claim is a type, and proofs/Proved.antt has a member of each.
use Rattle.std.specs.Prelude.{◌≡◌, List}
use Rattle.std.proofs.Math.Option.{some}
use Rattle.refusal.specs.MeaningAnswer.{done}
use Rattle.complex_entity.specs.MeaningRising.{◌∈◌}
use Rattle.grammar.specs.MeaningReading.{Reading}
use Rattle.schemas.specs.MeaningSchemas.{Schema}
use Rattle.scope.specs.MeaningScope.{Path}
use Rattle.expression.specs.MeaningExpression.{Expr, Terms}
use Rattle.expression.specs.MeaningExpression.Expr.{reference, andor, «and», oneof}
use Rattle.expression.specs.MeaningExpression.Terms.{end, ◌then◌}
use Rattle.declarations.specs.MeaningNamespace.{Declaration, declaration_for}
use Rattle.merging.specs.MeaningMerging.{Combined}
use Rattle.gathering.specs.MeaningCombined.{supertypes}

-- a path that some declaration has
abbrev pub IsDeclared : Reading → List Schema → Path → Type 0
IsDeclared rd xs p = (d : Declaration) × (declaration_for rd xs p ≡ some d)

-- so it is of every name in an expression
mutual
  pub data Every (P : Path → Type 0) : Expr Path → Type 0 where
    a_name : {n : Path} → P n → Every P (reference n)
    in_andor : {t : Terms Path} → EveryIn P t → Every P (andor t)
    in_and : {t : Terms Path} → EveryIn P t → Every P («and» t)
    in_oneof : {t : Terms Path} → EveryIn P t → Every P (oneof t)

  pub data EveryIn (P : Path → Type 0) : Terms Path → Type 0 where
    none : EveryIn P end
    both : {e : Expr Path} {t : Terms Path} → Every P e → EveryIn P t → EveryIn P (e then t)

-- every supertype is declared, and every path in its expression
abbrev pub AllDeclared : Type 0
AllDeclared = (rd : Reading) (xs : List Schema) (g : List (Combined Path)) → supertypes rd xs ≡ done g → (c : Combined Path) → c ∈ g
    → IsDeclared rd xs c.owner × Every (IsDeclared rd xs) c.expr
