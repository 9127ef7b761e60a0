-- Gathering: steps b, d and c over the schemas of a sheet.
use Rattle.std.specs.Prelude.{List, [], ◌∷◌, ◌++◌, Bool}
use Rattle.std.proofs.Math.Option.{Option, none, some}
use Rattle.refusal.specs.MeaningAnswer.{Answer, done, ◌>>=◌}
use Rattle.expression.specs.MeaningExpression.{Expr}
use Rattle.merging.specs.MeaningMerging.{Combined, Pair, entered, merged, with_subtypes}
use Rattle.grammar.specs.MeaningReading.{Reading}
use Rattle.sheet.specs.MeaningName.{Name}
use Rattle.scope.specs.MeaningScope.{Scope}
use Rattle.schemas.specs.MeaningSchemas.{Entity, Constraint, Schema}
use Rattle.declarations.specs.MeaningNamespace.{scope_in}
use Rattle.records.specs.MeaningResolving.{resolved_expr, rule_of}

-- one after the other; a refusal ends it
unfoldable pub through : {A G : Type 0} → (A → G → Answer G) → List A → G → Answer G
through f [] g = done g
through f (x ∷ xs) g = f x g >>= λ h. through f xs h

-- the names in SUBTYPE OF
unfoldable pub supers_of : Option (List Name) → List Name
supers_of none = []
supers_of (some ns) = ns

-- what names stand for is left open: when two are the same, what a name means in a scope, and what an entity is itself
module _ {N : Type 0} (same : N → N → Bool) (means : Scope → Name → Answer N) (itself : Schema → Entity → N) where
  -- step b: "names are resolved first, then a second one for the same path is refused", at the "second entity's field 30"
  unfoldable pub ruled : Schema → Entity → Option (Expr Name) → List (Combined N) → Answer (List (Combined N))
  ruled x e none g = done g
  ruled x e (some r) g = resolved_expr means (scope_in x) r >>= λ d. entered same e.place (itself x e) d g

  unfoldable pub step_b : Reading → List Schema → List (Combined N) → Answer (List (Combined N))
  step_b rd xs g = through (λ x. through (λ e. ruled x e (rule_of rd e.mark)) x.entities) xs g

  -- step d: "each field 40 with an expression resolves its entity, then its expression, and merges. Without an expression it is skipped, even if its entity is unknown."
  unfoldable pub constrained : Schema → Constraint → Option (Expr Name) → List (Combined N) → Answer (List (Combined N))
  constrained x c none g = done g
  constrained x c (some e) g = means (scope_in x) c.entity >>= λ p. resolved_expr means (scope_in x) e >>= λ d. done (merged same p d g)

  unfoldable pub step_d : List Schema → List (Combined N) → Answer (List (Combined N))
  step_d xs g = through (λ x. through (λ c. constrained x c c.expr) x.constraints) xs g

  -- step c: "SUBTYPE OF names are resolved in order."
  unfoldable pub subtype : Schema → Entity → Name → List (Pair N) → Answer (List (Pair N))
  subtype x e n ps = means (scope_in x) n >>= λ p. done (ps ++ (record { super = p; sub = itself x e } ∷ []))

  unfoldable pub step_c : List Schema → List (Pair N) → Answer (List (Pair N))
  step_c xs ps = through (λ x. through (λ e. through (subtype x e) (supers_of e.supertypes)) x.entities) xs ps

  -- b, then d, then c: a refusal as gathering meets it
  unfoldable pub gather : Reading → List Schema → Answer (List (Combined N))
  gather rd xs = step_b rd xs [] >>= λ g. step_d xs g >>= λ h. step_c xs [] >>= λ ps. done (with_subtypes same ps h)
