-- Other names for the same.
use Rattle.expression.specs.MeaningExpression.{Expr, Terms}
use Rattle.expression.specs.MeaningExpression.Expr.{reference, andor, «and», oneof}
use Rattle.expression.specs.MeaningExpression.Terms.{end, ◌then◌}

module _ {N M : Type 0} (f : N → M) where
  -- the same expression with every name replaced
  unfoldable mutual
    pub map_expr : Expr N → Expr M
    map_expr (reference n) = reference (f n)
    map_expr (andor t) = andor (map_terms t)
    map_expr («and» t) = «and» (map_terms t)
    map_expr (oneof t) = oneof (map_terms t)

    pub map_terms : Terms N → Terms M
    map_terms end = end
    map_terms (e then t) = map_expr e then map_terms t
