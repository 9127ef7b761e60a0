-- Queries. "A path query is 1 to 4 fields, tag 60 plus the ScopeType's place in its declaration ..; a scope query has 0 to 3. Each holds a name's bytes.
-- The last field of a path is the item. A `resolve` query is a scope query and then one field 10."
use Rattle.std.specs.Prelude.{ℕ, zero, suc, ◌+◌, List, [], ◌∷◌, cond, ◌&&◌, length, leb, eqb}
use Rattle.std.proofs.Math.Option.{Option, none, some}
use Rattle.refusal.specs.MeaningAnswer.{Answer, done, refused, ◌>>=◌}
use Rattle.grammar.specs.MeaningReading.{Reading}
use Rattle.sheet.specs.MeaningName.{Name, is_name}
use Rattle.sheet.specs.MeaningSheet.{tag_of, end_of, value_of}
use Rattle.scope.specs.MeaningScope.{ScopeType, tag_for, Step, Scope, most_steps, stop, Path, Comparison, compared}
use Rattle.scope.specs.MeaningScope.ScopeType.{entity, alias, function, procedure, query, repeat, rule, schema, sub_type, type}

-- ---- one field

-- the name that the field at a place holds, if the field ends within the query
unfoldable pub name_at : List ℕ → ℕ → Option Name
name_at q at = cond (leb (end_of q at) (length q) && is_name (value_of q at)) (some (record { at = at + 3; bytes = value_of q at })) none

abbrev pub scope_types : List ScopeType
scope_types = entity ∷ alias ∷ function ∷ procedure ∷ query ∷ repeat ∷ rule ∷ schema ∷ sub_type ∷ type ∷ []

unfoldable pub tagged : List ScopeType → ℕ → Option ScopeType
tagged [] t = none
tagged (k ∷ ks) t = cond (eqb t (tag_for k)) (some k) (tagged ks t)

-- the kind that a tag stands for
abbrev pub kind_for : ℕ → Option ScopeType
kind_for t = tagged scope_types t

abbrev pub step_of : Option ScopeType → Option Name → Option Step
step_of none x = none
step_of (some k) none = none
step_of (some k) (some x) = some (record { kind = k; name = x })

-- the step that stands at a place
unfoldable pub step_at : List ℕ → ℕ → Option Step
step_at q at = step_of (kind_for (tag_of q at)) (name_at q at)

-- the name of the field 10 that stands at a place
unfoldable pub word_at : List ℕ → ℕ → Option Name
word_at q at = cond (eqb (tag_of q at) 0x10) (name_at q at) none

-- ---- steps, one after another

pub record Taken : Type 0 where
  pub steps : List Step
  pub after : ℕ

abbrev pub one_more : Option Step → ℕ → (ℕ → Taken) → Taken
one_more none at go = record { steps = []; after = at }
one_more (some x) at go = record { steps = x ∷ (go (stop x.name)).steps; after = (go (stop x.name)).after }

-- the steps that stand from a place on, at most k, and the place after them
unfoldable pub steps_at : ℕ → List ℕ → ℕ → Taken
steps_at zero q at = record { steps = []; after = at }
steps_at (suc k) q at = one_more (step_at q at) at (steps_at k q)

-- ---- "15: malformed query ..: first bad or surplus field, the query's end where one is missing". The place after the steps is all three: the first
-- ---- field that is no step, the first that is one too many, or the end

abbrev pub malformed : {A : Type 0} → ℕ → Answer A
malformed at = refused 15 at

-- a scope: "0 to 3"
unfoldable pub scope_query : List ℕ → Answer Scope
scope_query q = cond (eqb (steps_at most_steps q 0).after (length q)) (done (steps_at most_steps q 0).steps) (malformed (steps_at most_steps q 0).after)

-- "The last field of a path is the item."
unfoldable pub path_from : Step → List Step → Path
path_from x [] = record { scope = []; item = x }
path_from x (y ∷ ys) = record { scope = x ∷ (path_from y ys).scope; item = (path_from y ys).item }

unfoldable pub path_of : List Step → ℕ → Answer Path
path_of [] end = malformed end
path_of (x ∷ xs) end = done (path_from x xs)

-- a path: "1 to 4 fields"
unfoldable pub path_query : List ℕ → Answer Path
path_query q = cond (eqb (steps_at (suc most_steps) q 0).after (length q)) (path_of (steps_at (suc most_steps) q 0).steps (length q)) (malformed (steps_at (suc most_steps) q 0).after)

-- what `resolve` is asked: a scope and a name
pub record Question : Type 0 where
  pub scope : Scope
  pub word : Name

unfoldable pub asked : List ℕ → List Step → ℕ → Option Name → Answer Question
asked q xs at none = malformed at
asked q xs at (some x) = cond (eqb (stop x) (length q)) (done (record { scope = xs; word = x })) (malformed (stop x))

-- "a scope query and then one field 10"
unfoldable pub resolve_query : List ℕ → Answer Question
resolve_query q = asked q (steps_at most_steps q 0).steps (steps_at most_steps q 0).after (word_at q (steps_at most_steps q 0).after)

-- ---- the question of the partial order: "15, left operand first"

unfoldable pub order_of : Reading → (left right : List ℕ) → Answer Comparison
order_of rd left right = scope_query left >>= λ a. scope_query right >>= λ b. done (compared rd a b)
