-- The declarations of a sheet and their numbers; `resolve`, `get` and `as_path`.
use Rattle.std.specs.Prelude.{ℕ, suc, ◌+◌, List, [], ◌∷◌, ◌++◌, map, Bool, cond, length}
use Rattle.std.proofs.Math.Option.{Option, none, some}
use Rattle.std.proofs.Math.ListN.{get_elem?}
use Rattle.refusal.specs.MeaningAnswer.{Answer, done, refused, mapped}
use Rattle.grammar.specs.MeaningReading.{Reading}
use Rattle.schemas.specs.MeaningTree.{tree_of}
use Rattle.schemas.specs.MeaningSchemas.{TypeDecl, Entity, Schema, no_name, schemas_of}
use Rattle.sheet.specs.MeaningName.{Name}
use Rattle.scope.specs.MeaningNames.{same_name}
use Rattle.scope.specs.MeaningScope.{Step, Scope, Path, same_scope, same_path}
use Rattle.scope.specs.MeaningScope.ScopeType.{entity, schema, type}
use Rattle.query.specs.MeaningQuery.{Question}

-- the schemas of a sheet's bytes
unfoldable pub schemas_in : List ℕ → List Schema
schemas_in s = schemas_of (tree_of s)

-- ---- "Declarations are numbered from 0: by schema, types then entities, in sheet order."

-- what is declared
pub data Named : Type 0 where
  a_type : TypeDecl → Named
  an_entity : Entity → Named

pub record Declaration : Type 0 where
  pub number : ℕ
  pub path : Path
  pub named : Named

-- the scope of what a schema declares
unfoldable pub scope_in : Schema → Scope
scope_in x = record { kind = schema; name = x.name } ∷ []

unfoldable pub item_of : Named → Step
item_of (a_type t) = record { kind = type; name = t.name }
item_of (an_entity e) = record { kind = entity; name = e.name }

unfoldable pub path_in : Schema → Named → Path
path_in x d = record { scope = scope_in x; item = item_of d }

-- "types then entities"
unfoldable pub declared_by : Schema → List Named
declared_by x = map a_type x.types ++ map an_entity x.entities

unfoldable pub numbered : Schema → ℕ → List Named → List Declaration
numbered x n [] = []
numbered x n (d ∷ ds) = record { number = n; path = path_in x d; named = d } ∷ numbered x (suc n) ds

-- what a scope holds
pub record Entry : Type 0 where
  pub scope : Scope
  pub items : List Declaration

-- "by schema", from the number n on
unfoldable pub entries_from : ℕ → List Schema → List Entry
entries_from n [] = []
entries_from n (x ∷ xs) = record { scope = scope_in x; items = numbered x n (declared_by x) } ∷ entries_from (n + length (declared_by x)) xs

unfoldable pub all_of : List Entry → List Declaration
all_of [] = []
all_of (e ∷ es) = e.items ++ all_of es

unfoldable pub declarations : List Schema → List Declaration
declarations xs = all_of (entries_from 0 xs)

-- ---- the first and the last that pass a test

unfoldable pub first : {A : Type 0} → (A → Bool) → List A → Option A
first p [] = none
first p (x ∷ xs) = cond (p x) (some x) (first p xs)

unfoldable pub or : {A : Type 0} → Option A → Option A → Option A
or none y = y
or (some x) y = some x

unfoldable pub last : {A : Type 0} → (A → Bool) → List A → Option A
last p [] = none
last p (x ∷ xs) = or (last p xs) (cond (p x) (some x) none)

-- or a refusal
unfoldable pub answered : {A : Type 0} → (number place : ℕ) → Option A → Answer A
answered n place none = refused n place
answered n place (some x) = done x

-- ---- "`get` takes the first declaration with an equal path"

unfoldable pub declaration_for : Reading → List Schema → Path → Option Declaration
declaration_for rd xs p = first (λ d. same_path rd d.path p) (declarations xs)

-- "7: `get` finds no such path: 0"
unfoldable pub get_of : Reading → List Schema → Path → Answer ℕ
get_of rd xs p = mapped (λ d. d.number) (answered 7 0 (declaration_for rd xs p))

-- ---- "`resolve` takes the first equal name in the scope, else pops one step. It never looks into another schema."

-- "If two schemas share a name, `resolve` sees only the last"
unfoldable pub items_of : Option Entry → List Declaration
items_of none = []
items_of (some e) = e.items

unfoldable pub seen : Reading → List Schema → Scope → List Declaration
seen rd xs sc = items_of (last (λ e. same_scope rd e.scope sc) (entries_from 0 xs))

-- a scope, the scope popped once, and so on up to the root
unfoldable pub upwards : Scope → List Scope
upwards [] = [] ∷ []
upwards (x ∷ xs) = map (λ sc. x ∷ sc) (upwards xs) ++ ([] ∷ [])

unfoldable pub climb : Reading → List Schema → List ℕ → List Scope → Option Declaration
climb rd xs w [] = none
climb rd xs w (sc ∷ up) = or (first (λ d. same_name rd d.path.item.name.bytes w) (seen rd xs sc)) (climb rd xs w up)

-- the declaration that a name means in a scope
unfoldable pub resolved : Reading → List Schema → Scope → (word : List ℕ) → Option Declaration
resolved rd xs sc w = climb rd xs w (upwards sc)

-- "6: name not found: the name's first byte, in sheet or query"
unfoldable pub resolve_of : Reading → List Schema → Question → Answer ℕ
resolve_of rd xs q = mapped (λ d. d.number) (answered 6 q.word.at (resolved rd xs q.scope q.word.bytes))

-- ---- "For one index, `as_path` answers schema name and item name .. An undeclared index is 15, place 0."

unfoldable pub path_at : List Schema → ℕ → Answer Path
path_at xs i = mapped (λ d. d.path) (answered 15 0 (get_elem? (declarations xs) i))

unfoldable pub outermost : Scope → Name
outermost [] = no_name
outermost (x ∷ xs) = x.name

unfoldable pub schema_name : Path → Name
schema_name p = outermost p.scope

unfoldable pub item_name : Path → Name
item_name p = p.item.name
