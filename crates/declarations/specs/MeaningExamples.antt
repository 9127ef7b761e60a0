-- Two schemas of one name: "If two schemas share a name, `resolve` sees only the last; `get` takes the first declaration with an equal path."
use Rattle.std.specs.Prelude.{ℕ, List, [], ◌∷◌}
use Rattle.std.proofs.Math.Option.{none}
use Rattle.sheet.specs.MeaningName.{Name}
use Rattle.schemas.specs.MeaningSchemas.{Entity, unmarked, Schema}
use Rattle.scope.specs.MeaningScope.{Path}
use Rattle.scope.specs.MeaningScope.ScopeType.{entity, schema}
use Rattle.query.specs.MeaningQuery.{Question}

-- a name of one byte, at the place 9
abbrev pub letter : ℕ → Name
letter c = record { at = 9; bytes = c ∷ [] }

abbrev plain : ℕ → Entity
plain c = record { place = 0; name = letter c; mark = unmarked; supertypes = none }

-- schema s with these entities
abbrev in_s : List Entity → Schema
in_s es = record { place = 0; name = letter 115; types = []; entities = es; constraints = [] }

-- schema s {a, b}, schema s {b, a, c}
abbrev pub doubles : List Schema
doubles = in_s (plain 97 ∷ plain 98 ∷ []) ∷ in_s (plain 98 ∷ plain 97 ∷ plain 99 ∷ []) ∷ []

-- a name in the scope s
abbrev pub in_scope : ℕ → Question
in_scope c = record { scope = record { kind = schema; name = letter 115 } ∷ []; word = letter c }

-- the path of an entity there
abbrev pub from_s : ℕ → Path
from_s c = record { scope = record { kind = schema; name = letter 115 } ∷ []; item = record { kind = entity; name = letter c } }
