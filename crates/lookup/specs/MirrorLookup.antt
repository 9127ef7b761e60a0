-- What the walks over the fields of a value answer.
use Rattle.std.specs.Prelude.{ℕ, ◌+◌, ◌≤◌, ◌≡◌, List, [], ◌∷◌, Result, Ok, Err, cond, length, take, drop}
use Rattle.std.proofs.Math.Option.{none, some}
use Rattle.std.proofs.Math.ListN.{get_elem?}
use Rattle.grammar.specs.MeaningReading.{Reading}
use Rattle.sheet.specs.MeaningName.{Name}
use Rattle.schemas.specs.MeaningTree.{Tree, tree_at}
use Rattle.schemas.specs.MeaningSchemas.{name_of}
use Rattle.scope.specs.MeaningNames.{same_name}
use Rattle.lookup.specs.declared.Span.{Span}

-- ---- two ways to read a field from its place and its fields; every other one goes over the second

-- its name
unfoldable pub its_name : ℕ → Tree → Name
its_name p g = name_of g

-- all of it
unfoldable pub itself : ℕ → Tree → ℕ × Tree
itself p g = (p, g)

-- ---- a name as a part of the bytes

unfoldable pub span_of : Name → Span
span_of x = record { start = x.at; stop = x.at + length x.bytes }

-- the name stands in the bytes where its place says
pub record Lies (s : List ℕ) (x : Name) : Type 0 where
  pub within : x.at + length x.bytes ≤ length s
  pub there : take (length x.bytes) (drop x.at s) ≡ x.bytes

-- ---- by name

-- the number of the first equal name, counted from n, or the number after the last
unfoldable pub look_in : Reading → List ℕ → List Name → ℕ → Result ℕ ℕ
look_in rd w [] n = Err n
look_in rd w (x ∷ xs) n = cond (same_name rd x.bytes w) (Ok n) (look_in rd w xs (n + 1))

-- ---- by number

-- the k-th of these fields has its own between two places of the bytes; or there are fewer, by so many
abbrev pub Picks : List ℕ → List (ℕ × Tree) → ℕ → Result Span ℕ → Type 0
Picks s xs k (Ok v) = (p : ℕ) × (get_elem? xs k ≡ some (p, tree_at s v.start v.stop)) × (v.start ≤ v.stop) × (v.stop ≤ length s)
Picks s xs k (Err m) = (get_elem? xs k ≡ none) × (k ≡ length xs + m)
