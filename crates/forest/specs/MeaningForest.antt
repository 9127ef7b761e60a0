-- A sheet as a forest of fields: its bytes, and which forests are sheets by document 01's table and limits, said of the whole.
use Rattle.std.specs.Prelude.{ℕ, ◌+◌, ◌/◌, ◌%◌, ◌≤◌, ◌≡◌, List, [], ◌∷◌, ◌++◌, true, cond, length, leb}
use Rattle.grammar.specs.MeaningReading.{Reading, answers}
use Rattle.sheet.specs.MeaningName.{is_name}
use Rattle.grammar.specs.MeaningGrammar.{one_of, expressions, slots_of, Fills, Kind, kind_of, holds_simple, most_bytes, most_depth, Limit, most, counts}
use Rattle.grammar.specs.MeaningGrammar.Kind.{name, simple, empty, fields}

-- the fields of a value: none; one with a plain value, and those after it; or one with fields, and those after it
pub data Forest : Type 0 where
  nil : Forest
  leaf : (tag : ℕ) (value : List ℕ) (rest : Forest) → Forest
  node : (tag : ℕ) (inner rest : Forest) → Forest

-- "A field is one tag byte, two length bytes (high byte first), then the value."
unfoldable pub field : ℕ → List ℕ → List ℕ
field t v = t ∷ (length v / 256) ∷ (length v % 256) ∷ v

unfoldable pub encode : Forest → List ℕ
encode nil = []
encode (leaf t v f) = field t v ++ encode f
encode (node t g f) = field t (encode g) ++ encode f

-- the tags of a value's fields, in order
abbrev pub tags_in : Forest → List ℕ
tags_in nil = []
tags_in (leaf t v f) = t ∷ tags_in f
tags_in (node t g f) = t ∷ tags_in f

-- a plain value of its kind
abbrev pub Sound : Kind → List ℕ → Type 0
Sound name v = is_name v ≡ true
Sound simple v = holds_simple v ≡ true
Sound empty v = length v ≡ 0
Sound fields v = ⊥

-- in a value of the parent p: the reading lets every tag stand, plain values are of their kinds, and values with fields fill the slots of their lines
abbrev pub Right : Reading → ℕ → Forest → Type 0
Right rd p nil = Unit {0}
Right rd p (leaf t v f) = (answers rd p t ≡ 0) × Sound (kind_of t) v × Right rd p f
Right rd p (node t g f) = (answers rd p t ≡ 0) × (kind_of t ≡ fields) × Fills (slots_of t) (tags_in g) × Right rd t g × Right rd p f

-- how many fields of the whole forest count for a limit, where p is the parent
abbrev pub total : Limit → ℕ → Forest → ℕ
total l p nil = 0
total l p (leaf t v f) = cond (counts l p t) 1 0 + total l p f
total l p (node t g f) = cond (counts l p t) 1 0 + total l t g + total l p f

abbrev pub larger : ℕ → ℕ → ℕ
larger a b = cond (leb a b) b a

-- expression depth, "a lone reference being 1"
abbrev pub height : Forest → ℕ
height nil = 0
height (leaf t v f) = larger (cond (one_of expressions t) 1 0) (height f)
height (node t g f) = larger (cond (one_of expressions t) 1 0 + height g) (height f)

-- a forest is that of a sheet
pub record Fits (rd : Reading) (f : Forest) : Type 0 where
  pub filled : Fills (slots_of 0) (tags_in f)
  pub right : Right rd 0 f
  pub limits : (l : Limit) → total l 0 f ≤ most l
  pub shallow : height f ≤ most_depth
  pub short : length (encode f) ≤ most_bytes
