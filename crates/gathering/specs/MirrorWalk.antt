-- How the code goes over the fields of a sheet, and what it leaves in the stream.
use Rattle.std.specs.Prelude.{ℕ, ◌+◌, ◌≤◌, ◌≡◌, List, [], ◌∷◌, ◌++◌, Bool, true, false, cond, eqb, length, take, Result}
use Rattle.refusal.specs.MeaningAnswer.{Answer, done, mapped, ◌>>=◌}
use Rattle.refusal.specs.Told.{told_by}
use Rattle.refusal.specs.declared.Refusal.{Refusal}
use Rattle.expression.specs.MeaningExpression.Expr.{reference}
use Rattle.merging.specs.MeaningMerging.{Combined, Pair}
use Rattle.merging.specs.MirrorStream.{stream_of, pairs_of, is_found}
use Rattle.grammar.specs.MeaningReading.{Reading}
use Rattle.sheet.specs.MeaningName.{Name}
use Rattle.scope.specs.MeaningScope.{Scope}
use Rattle.schemas.specs.MeaningTree.{Tree, tree_at}
use Rattle.schemas.specs.MeaningSchemas.{Schema, name_of, expr_of, mark_of, supertypes_of, entity_of, constraint_of, each}
use Rattle.lookup.specs.MirrorLookup.{itself}
use Rattle.declarations.specs.MeaningNamespace.{scope_in}
use Rattle.records.specs.MeaningResolving.{rule_of}
use Rattle.records.specs.MirrorRecords.{size, level, behind, number_meant, own_number, schema_named}
use Rattle.gathering.specs.MeaningGathering.{through, supers_of}
use Rattle.gathering.specs.MirrorGathering.{given, sum, highest, marked_by, rule_kept, constraint_kept}
use Rattle.gathering.specs.declared.Streams.{Streams}

-- ---- the passes: b, d and c

pub data Step : Type 0 where
  Rules Constraints Subtypes : Step

-- the tag of the fields that a pass goes over
abbrev pub tag_for : Step → ℕ
tag_for Rules = 0x30
tag_for Constraints = 0x40
tag_for Subtypes = 0x30

module _ (rd : Reading) (xs : List Schema) where
  -- one name in SUBTYPE OF, as a record
  unfoldable pub super_kept : Scope → ℕ → Name → List (Combined ℕ) → Answer (List (Combined ℕ))
  super_kept sc own n cs = number_meant rd xs sc n >>= λ p. done (behind cs p (reference own))

  -- one field of a schema's
  unfoldable pub item_kept : Step → Schema → (place : ℕ) → Tree → List (Combined ℕ) → Answer (List (Combined ℕ))
  item_kept Rules x p g cs = rule_kept eqb (number_meant rd xs) (own_number rd xs) x (entity_of p g) (rule_of rd (mark_of g)) cs
  item_kept Constraints x p g cs = constraint_kept eqb (number_meant rd xs) (own_number rd xs) x (constraint_of p g) (expr_of g) cs
  item_kept Subtypes x p g cs = through (super_kept (scope_in x) (own_number rd xs x (entity_of p g))) (supers_of (supertypes_of g)) cs

  -- those of a schema with the name
  abbrev pub items_kept : Step → List ℕ → Tree → List (Combined ℕ) → Answer (List (Combined ℕ))
  items_kept k w g = through (λ (i : ℕ × Tree). item_kept k (schema_named w) i.0 i.1) (each (tag_for k) itself g)

  -- those of each schema
  abbrev pub all_kept : Step → Tree → List (Combined ℕ) → Answer (List (Combined ℕ))
  all_kept k t = through (λ (i : ℕ × Tree). items_kept k (name_of i.1).bytes i.1) (each 0x01 itself t)

-- ---- where there is something to resolve

unfoldable pub is_full : {A : Type 0} → List A → Bool
is_full [] = false
is_full (x ∷ xs) = true

-- whether the pass resolves anything in a field
unfoldable pub gives : Reading → Step → Tree → Bool
gives rd Rules g = is_found (rule_of rd (mark_of g))
gives rd Constraints g = is_found (expr_of g)
gives rd Subtypes g = is_full (supers_of (supertypes_of g))

-- the fields from the first on in which it does
unfoldable pub giving : Reading → Step → List (ℕ × Tree) → List (ℕ × Tree)
giving rd k [] = []
giving rd k (i ∷ is) = cond (gives rd k i.1) (i ∷ is) (giving rd k is)

-- they begin there
pub record Begins (rd : Reading) (k : Step) (s : List ℕ) (at e from : ℕ) : Type 0 where
  pub is : each (tag_for k) itself (tree_at s from e) ≡ giving rd k (each (tag_for k) itself (tree_at s at e))
  pub within : from ≤ e

-- ---- how much there is in a field, a schema and a sheet

unfoldable pub item_size : Step → Tree → ℕ
item_size Rules g = given size (marked_by (mark_of g))
item_size Constraints g = given size (expr_of g)
item_size Subtypes g = length (supers_of (supertypes_of g))

unfoldable pub item_level : Step → Tree → ℕ
item_level Rules g = given level (marked_by (mark_of g))
item_level Constraints g = given level (expr_of g)
item_level Subtypes g = 0

unfoldable pub items_size : Step → Tree → ℕ
items_size k g = sum (λ (i : ℕ × Tree). item_size k i.1) (each (tag_for k) itself g)

unfoldable pub items_level : Step → Tree → ℕ
items_level k g = highest (λ (i : ℕ × Tree). item_level k i.1) (each (tag_for k) itself g)

unfoldable pub all_size : Step → Tree → ℕ
all_size k t = sum (λ (i : ℕ × Tree). items_size k i.1) (each 0x01 itself t)

unfoldable pub all_level : Step → Tree → ℕ
all_level k t = highest (λ (i : ℕ × Tree). items_level k i.1) (each 0x01 itself t)

-- the records of rules and constraints stand at the front, those of names in SUBTYPE OF behind them
abbrev pub told_gathered : Result Streams Refusal → Answer (ℕ × ℕ)
told_gathered r = told_by (λ (x : Streams). (x.rules, x.used)) r

pub record Streamed (o : Answer (List (Combined ℕ) × List (Pair ℕ))) (r : Answer (ℕ × ℕ)) (w : List ℕ) : Type 0 where
  pub says : r ≡ mapped (λ both. (length (stream_of both.0), length (stream_of both.0) + length (pairs_of both.1))) o
  pub holds : (both : List (Combined ℕ) × List (Pair ℕ)) → o ≡ done both → take (length (stream_of both.0) + length (pairs_of both.1)) w ≡ stream_of both.0 ++ pairs_of both.1
