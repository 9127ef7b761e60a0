-- The items of one owner, and its expression from them alone; and the steps over all items.
use Rattle.std.specs.Prelude.{List, [], ◌∷◌, Bool, cond}
use Rattle.std.proofs.Math.Option.{Option, none, some}
use Rattle.expression.specs.MeaningExpression.{Expr, Terms, append, is_in_some, factors}
use Rattle.expression.specs.MeaningExpression.Expr.{andor}
use Rattle.expression.specs.MeaningExpression.Terms.{end}
use Rattle.merging.specs.MeaningMerging.{Combined, Pair, references, merged, with_subtypes}

module _ {N : Type 0} (same : N → N → Bool) (p : N) where
  -- its rule and constraints, in order
  unfoldable pub exprs_of : List (Combined N) → List (Expr N)
  exprs_of [] = []
  exprs_of (c ∷ cs) = cond (same c.owner p) (c.expr ∷ exprs_of cs) (exprs_of cs)

  -- its subtypes, in order
  unfoldable pub subs_of : List (Pair N) → List N
  subs_of [] = []
  subs_of (x ∷ xs) = cond (same x.super p) (x.sub ∷ subs_of xs) (subs_of xs)

-- all factors, one item after the other
unfoldable pub all_factors : {N : Type 0} → List (Expr N) → Terms N → Terms N
all_factors [] t = t
all_factors (e ∷ es) t = append (factors e) (all_factors es t)

-- those that occur in none of its expressions
unfoldable pub fresh : {N : Type 0} → (N → N → Bool) → List (Expr N) → List N → List N
fresh same es [] = []
fresh same es (x ∷ xs) = cond (is_in_some same x (all_factors es end)) (fresh same es xs) (x ∷ fresh same es xs)

-- one item stays as it is; several, and subtypes that are left over, are factors of one ANDOR
unfoldable pub combine : {N : Type 0} → List (Expr N) → List N → Option (Expr N)
combine [] [] = none
combine (e ∷ []) [] = some e
combine (e ∷ d ∷ es) [] = some (andor (all_factors (e ∷ d ∷ es) end))
combine es (x ∷ xs) = some (andor (all_factors es (references (x ∷ xs))))

-- the expression of p, from its own items
unfoldable pub combined_of : {N : Type 0} → (N → N → Bool) → N → List (Combined N) → List (Pair N) → Option (Expr N)
combined_of same p cs xs = combine (exprs_of same p cs) (fresh same (exprs_of same p cs) (subs_of same p xs))

-- ---- all steps

module _ {N : Type 0} (same : N → N → Bool) where
  -- rules and constraints merged in their order (steps b and d)
  unfoldable pub merged_onto : List (Combined N) → List (Combined N) → List (Combined N)
  merged_onto g [] = g
  merged_onto g (c ∷ cs) = merged_onto (merged same c.owner c.expr g) cs

  -- all of it, from what the sheet says in order: rules and constraints, and names in SUBTYPE OF
  unfoldable pub gathered : List (Combined N) → List (Pair N) → List (Combined N)
  gathered cs xs = with_subtypes same xs (merged_onto [] cs)
