-- Gathering without merging: the records as they come. And how much there is to gather.
use Rattle.std.specs.Prelude.{ℕ, ◌+◌, ◌≤◌, max, List, [], ◌∷◌, Bool, eqb, length}
use Rattle.std.proofs.Math.Option.{Option, none, some}
use Rattle.refusal.specs.MeaningAnswer.{Answer, done, ◌>>=◌}
use Rattle.expression.specs.MeaningExpression.{Expr}
use Rattle.merging.specs.MeaningMerging.{Combined, Pair, find, vacant}
use Rattle.grammar.specs.MeaningReading.{Reading}
use Rattle.sheet.specs.MeaningName.{Name}
use Rattle.scope.specs.MeaningScope.{Scope}
use Rattle.schemas.specs.MeaningSchemas.{Mark, Entity, Constraint, Schema}
use Rattle.schemas.specs.MeaningSchemas.Mark.{unmarked, rule, abstract_entity, abstract_supertype}
use Rattle.declarations.specs.MeaningNamespace.{scope_in}
use Rattle.records.specs.MeaningResolving.{rule_of, resolved_expr}
use Rattle.records.specs.MirrorRecords.{size, level, behind, number_meant, own_number}
use Rattle.gathering.specs.MeaningGathering.{through, supers_of, step_c}

-- ---- how much there is

unfoldable pub given : {A : Type 0} → (A → ℕ) → Option A → ℕ
given f none = 0
given f (some x) = f x

unfoldable pub sum : {A : Type 0} → (A → ℕ) → List A → ℕ
sum f [] = 0
sum f (x ∷ xs) = f x + sum f xs

unfoldable pub highest : {A : Type 0} → (A → ℕ) → List A → ℕ
highest f [] = 0
highest f (x ∷ xs) = max (f x) (highest f xs)

-- the expression of a mark, whether it is a rule or not
unfoldable pub marked_by : Mark → Option (Expr Name)
marked_by unmarked = none
marked_by (rule e) = some e
marked_by abstract_entity = none
marked_by (abstract_supertype o) = o

unfoldable pub rule_size : Entity → ℕ
rule_size e = given size (marked_by e.mark)

unfoldable pub rule_level : Entity → ℕ
rule_level e = given level (marked_by e.mark)

unfoldable pub super_size : Entity → ℕ
super_size e = length (supers_of e.supertypes)

unfoldable pub constraint_size : Constraint → ℕ
constraint_size c = given size c.expr

unfoldable pub constraint_level : Constraint → ℕ
constraint_level c = given level c.expr

-- those of a schema
unfoldable pub rules_size : Schema → ℕ
rules_size x = sum rule_size x.entities

unfoldable pub supers_size : Schema → ℕ
supers_size x = sum super_size x.entities

unfoldable pub constraints_size : Schema → ℕ
constraints_size x = sum constraint_size x.constraints

unfoldable pub schema_level : Schema → ℕ
schema_level x = max (highest rule_level x.entities) (highest constraint_level x.constraints)

-- "512 expressions and names in 34 together; expression depth 5"
pub record Bounded (xs : List Schema) : Type 0 where
  pub few : sum rules_size xs + (sum constraints_size xs + sum supers_size xs) ≤ 512
  pub low : highest schema_level xs ≤ 5

-- ---- the records of rules and constraints, and those of names in SUBTYPE OF

module _ {N : Type 0} (same : N → N → Bool) (means : Scope → Name → Answer N) (itself : Schema → Entity → N) where
  -- step b: 8 where an earlier record has the owner
  unfoldable pub rule_kept : Schema → Entity → Option (Expr Name) → List (Combined N) → Answer (List (Combined N))
  rule_kept x e none cs = done cs
  rule_kept x e (some r) cs = resolved_expr means (scope_in x) r >>= λ d. vacant same e.place (find same (itself x e) cs) (behind cs (itself x e) d)

  unfoldable pub rules_kept : Reading → Schema → List (Combined N) → Answer (List (Combined N))
  rules_kept rd x cs = through (λ e. rule_kept x e (rule_of rd e.mark)) x.entities cs

  -- step d
  unfoldable pub constraint_kept : Schema → Constraint → Option (Expr Name) → List (Combined N) → Answer (List (Combined N))
  constraint_kept x c none cs = done cs
  constraint_kept x c (some e) cs = means (scope_in x) c.entity >>= λ p. resolved_expr means (scope_in x) e >>= λ d. done (behind cs p d)

  unfoldable pub constraints_kept : Schema → List (Combined N) → Answer (List (Combined N))
  constraints_kept x cs = through (λ c. constraint_kept x c c.expr) x.constraints cs

  -- b, then d, then c
  unfoldable pub streams_of : Reading → List Schema → Answer (List (Combined N) × List (Pair N))
  streams_of rd xs = through (rules_kept rd) xs [] >>= λ cs. through constraints_kept xs cs >>= λ ds. step_c same means itself xs [] >>= λ ps. done (ds, ps)

-- ---- over numbers

unfoldable pub streams : Reading → List Schema → Answer (List (Combined ℕ) × List (Pair ℕ))
streams rd xs = streams_of eqb (number_meant rd xs) (own_number rd xs) rd xs
