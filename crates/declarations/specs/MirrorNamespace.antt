-- What the walks over schemas answer: names and kinds as the code has them, and the numbers found.
use Rattle.std.specs.Prelude.{ℕ, suc, ◌+◌, ◌-◌, ◌≤◌, ◌≡◌, List, [], ◌∷◌, Some, None, Result, Ok, Err, cond, length, eqb}
use Rattle.std.specs.Prelude as prelude
use Rattle.std.proofs.Math.Option.{Option, none, some}
use Rattle.grammar.specs.MeaningReading.{Reading}
use Rattle.sheet.specs.MeaningName.{Name}
use Rattle.schemas.specs.MeaningTree.{Tree, tree_at}
use Rattle.schemas.specs.MeaningSchemas.{Schema, each, schema_of}
use Rattle.scope.specs.MeaningNames.{same_name}
use Rattle.scope.specs.MeaningScope.{ScopeType, place_of, Scope, Path, same_scope}
use Rattle.scope.specs.MeaningScope.ScopeType.{schema}
use Rattle.lookup.specs.MirrorLookup.{its_name, itself, look_in}
use Rattle.declarations.specs.MeaningNamespace.{schemas_in, Declaration, scope_in, declared_by, numbered, Entry, entries_from, last, declaration_for, resolved}
use Rattle.declarations.specs.declared.Numbers.{Numbers}
use Rattle.declarations.specs.declared.LastSchema.{LastSchema}

-- ---- what the code has: the bytes of a name, wherever they stand

unfoldable pub word_of : List ℕ → Name
word_of w = record { at = 0; bytes = w }

-- the scope of a schema with the name
unfoldable pub schema_scope : List ℕ → Scope
schema_scope sc = record { kind = schema; name = word_of sc } ∷ []

-- the path of what it declares
unfoldable pub path_to : (scope : List ℕ) → ScopeType → (name : List ℕ) → Path
path_to sc k w = record { scope = schema_scope sc; item = record { kind = k; name = word_of w } }

-- ---- numbers

-- a declaration's number, if there is one
unfoldable pub sought_of : Option Declaration → prelude.Option ℕ
sought_of none = None
sought_of (some d) = Some d.number

-- ---- in one schema, by its fields

unfoldable pub types_in : Tree → ℕ
types_in g = length (each 0x20 itself g)

unfoldable pub size_in : Tree → ℕ
size_in g = types_in g + length (each 0x30 itself g)

-- the first type with an equal name
unfoldable pub type_in : Reading → List ℕ → Tree → ℕ → Result ℕ ℕ
type_in rd w g n = look_in rd w (each 0x20 its_name g) n

-- the first entity with an equal name: entities are numbered behind types
unfoldable pub entity_in : Reading → List ℕ → Tree → ℕ → Result ℕ ℕ
entity_in rd w g n = look_in rd w (each 0x30 its_name g) (n + types_in g)

unfoldable pub or_sought : Result ℕ ℕ → Result ℕ ℕ → Result ℕ ℕ
or_sought (Ok k) o = Ok k
or_sought (Err k) o = o

-- the first equal name: types, then entities
unfoldable pub in_schema : Reading → List ℕ → Tree → ℕ → Result ℕ ℕ
in_schema rd w g n = or_sought (type_in rd w g n) (entity_in rd w g n)

-- the first equal name of a kind
unfoldable pub in_kind : Reading → ScopeType → List ℕ → Tree → ℕ → Result ℕ ℕ
in_kind rd k w g n = cond (eqb (place_of k) 9) (type_in rd w g n) (cond (eqb (place_of k) 0) (entity_in rd w g n) (Err 0))

-- ---- a schema's numbers

-- those of the schema with its fields between two places, from n on
unfoldable pub numbers_at : List ℕ → (a b n : ℕ) → Numbers
numbers_at s a b n = record { first = n; entities = n + types_in (tree_at s a b); past = n + size_in (tree_at s a b); start = a; stop = b }

-- they are such numbers
pub record NumbersIn (s : List ℕ) (h : Numbers) : Type 0 where
  pub is : h ≡ numbers_at s h.start h.stop h.first
  pub order : h.start ≤ h.stop
  pub inside : h.stop ≤ length s

-- ---- the last schema of a name

unfoldable pub entry_of : ℕ → Schema → Entry
entry_of n x = record { scope = scope_in x; items = numbered x n (declared_by x) }

-- what stands there is this entry
abbrev pub LastIs : List ℕ → prelude.Option LastSchema → Option Entry → Type 0
LastIs s None o = o ≡ none
LastIs s (Some l) o = (p : ℕ) × (o ≡ some (entry_of l.numbers.first (schema_of p (tree_at s l.numbers.start l.numbers.stop)))) × NumbersIn s l.numbers

-- its numbers are small: so many more as its fields have bytes are u16s still
abbrev pub SmallNumbers : prelude.Option LastSchema → Type 0
SmallNumbers None = Unit {0}
SmallNumbers (Some l) = l.numbers.first + (l.numbers.stop - l.numbers.start) ≤ 65535

-- how many schemas have the name
unfoldable pub namesakes : Reading → List ℕ → List Schema → ℕ
namesakes rd sc [] = 0
namesakes rd sc (x ∷ xs) = cond (same_name rd x.name.bytes sc) (suc (namesakes rd sc xs)) (namesakes rd sc xs)

abbrev pub Alone : ℕ → prelude.Option LastSchema → Type 0
Alone k None = Unit {0}
Alone k (Some l) = l.alone ≡ eqb k 1

-- what is declared in a scope is that of the last schema of the name; and whether it is the only one
pub record LastSchemaOf (rd : Reading) (s sc : List ℕ) (h : prelude.Option LastSchema) : Type 0 where
  pub holds : LastIs s h (last (λ e. same_scope rd e.scope (schema_scope sc)) (entries_from 0 (schemas_in s)))
  pub only : Alone (namesakes rd sc (schemas_in s)) h

-- ---- what a name means in the scope of a schema, by number: the name is resolved, and the first declaration with that path taken

unfoldable pub then_for : Reading → List Schema → Option Declaration → Option Declaration
then_for rd xs none = none
then_for rd xs (some d) = declaration_for rd xs d.path

unfoldable pub meant_in : Reading → List Schema → (scope name : List ℕ) → Option Declaration
meant_in rd xs sc w = then_for rd xs (resolved rd xs (schema_scope sc) w)
