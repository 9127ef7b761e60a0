-- Other names in records and pairs; and names of which each is a good one.
use Rattle.std.specs.Prelude.{List, [], ◌∷◌}
use Rattle.std.proofs.Math.Option.{Option, none, some}
use Rattle.expression.specs.MeaningExpression.{Expr, Terms}
use Rattle.expression.specs.MeaningExpression.Expr.{reference, andor, «and», oneof}
use Rattle.expression.specs.MeaningExpression.Terms.{end, ◌then◌}
use Rattle.merging.specs.MeaningMerging.{Combined, Pair}
use Rattle.merging.specs.MeaningNumbering.{map_expr}

module _ {N M : Type 0} (f : N → M) where
  abbrev pub map_combined : Combined N → Combined M
  map_combined c = record { owner = f c.owner; expr = map_expr f c.expr }

  abbrev pub map_pair : Pair N → Pair M
  map_pair x = record { super = f x.super; sub = f x.sub }

  abbrev pub map_found : Option (Expr N) → Option (Expr M)
  map_found none = none
  map_found (some e) = some (map_expr f e)

-- every name is a good one
module _ {N : Type 0} (Good : N → Type 0) where
  unfoldable mutual
    pub GoodExpr : Expr N → Type 0
    GoodExpr (reference n) = Good n
    GoodExpr (andor t) = GoodTerms t
    GoodExpr («and» t) = GoodTerms t
    GoodExpr (oneof t) = GoodTerms t

    pub GoodTerms : Terms N → Type 0
    GoodTerms end = Unit {0}
    GoodTerms (e then t) = GoodExpr e × GoodTerms t

  abbrev pub GoodCombined : Combined N → Type 0
  GoodCombined c = Good c.owner × GoodExpr c.expr

  abbrev pub GoodPair : Pair N → Type 0
  GoodPair x = Good x.super × Good x.sub

-- so is each of a list
unfoldable pub Each : {A : Type 0} → (A → Type 0) → List A → Type 0
Each P [] = Unit {0}
Each P (a ∷ l) = P a × Each P l
