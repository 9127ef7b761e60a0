-- Scopes and paths, when two are equal, and the partial order of scopes.
use Rattle.std.specs.Prelude.{ℕ, ◌+◌, List, [], ◌∷◌, Bool, true, false, cond, ◌&&◌, length, eqb}
use Rattle.grammar.specs.MeaningReading.{Reading}
use Rattle.sheet.specs.MeaningName.{Name}
use Rattle.scope.specs.MeaningNames.{same_name}

-- in the order of the Rust's declaration
pub data ScopeType : Type 0 where
  entity alias function procedure query repeat rule schema sub_type type : ScopeType

-- "the ScopeType's place in its declaration"
abbrev pub place_of : ScopeType → ℕ
place_of entity = 0
place_of alias = 1
place_of function = 2
place_of procedure = 3
place_of query = 4
place_of repeat = 5
place_of rule = 6
place_of schema = 7
place_of sub_type = 8
place_of type = 9

-- "tag 60 plus the ScopeType's place in its declaration (Entity 60, Schema 67, Type 69)"
abbrev pub tag_for : ScopeType → ℕ
tag_for k = 0x60 + place_of k

-- the place after a name, which is the place after its field
abbrev pub stop : Name → ℕ
stop x = x.at + length x.bytes

-- one step of a scope, or a path's item
pub record Step : Type 0 where
  pub kind : ScopeType
  pub name : Name

-- the steps from the outermost on; the root has none
abbrev pub Scope : Type 0
Scope = List Step

-- "a scope has 0 to 3"
abbrev pub most_steps : ℕ
most_steps = 3

pub record Path : Type 0 where
  pub scope : Scope
  pub item : Step

-- ---- when two are equal, wherever their names stand

abbrev pub same_kind : ScopeType → ScopeType → Bool
same_kind k l = eqb (place_of k) (place_of l)

unfoldable pub steps_equal : Reading → Step → Step → Bool
steps_equal rd a b = same_kind a.kind b.kind && same_name rd a.name.bytes b.name.bytes

unfoldable pub same_scope : Reading → Scope → Scope → Bool
same_scope rd [] [] = true
same_scope rd [] (y ∷ ys) = false
same_scope rd (x ∷ xs) [] = false
same_scope rd (x ∷ xs) (y ∷ ys) = steps_equal rd x y && same_scope rd xs ys

unfoldable pub same_path : Reading → Path → Path → Bool
same_path rd p q = same_scope rd p.scope q.scope && steps_equal rd p.item q.item

-- ---- "A scope is greater than every longer scope that starts with it; two of which neither starts the other have no order."

-- does b start with a?
unfoldable pub starts : Reading → (a b : Scope) → Bool
starts rd [] b = true
starts rd (x ∷ xs) [] = false
starts rd (x ∷ xs) (y ∷ ys) = steps_equal rd x y && starts rd xs ys

pub data Comparison : Type 0 where
  less equal greater unordered : Comparison

-- a against b: each starts the other where they are equal
unfoldable pub compared : Reading → (a b : Scope) → Comparison
compared rd a b = cond (starts rd a b) (cond (starts rd b a) equal greater) (cond (starts rd b a) less unordered)
