-- What is proved, to be read without the proofs: each claim is a type, and proofs/Proved.antt has a member of each.
use Rattle.std.specs.Prelude.{ℕ, ◌<◌, ◌≡◌, ◌↔◌, List, Bool, true}
use Rattle.refusal.specs.MeaningAnswer.{Answer, refused}
use Rattle.grammar.specs.MeaningReading.{Reading}
use Rattle.schemas.specs.MeaningSchemas.{Schema}
use Rattle.scope.specs.MeaningScope.{Path, same_path}
use Rattle.named_types.specs.MeaningWalk.{Reaches, Walks}

-- from every path the walk answers, and one thing only
abbrev pub WalksOn : Type 0
WalksOn = (rd : Reading) (xs : List Schema) (p : Path) → (w : Answer Bool) × Walks rd xs p w

abbrev pub WalksOnce : Type 0
WalksOnce = (rd : Reading) (xs : List Schema) (p : Path) (v w : Answer Bool) → Walks rd xs p v → Walks rd xs p w → v ≡ w

-- 13 exactly where two steps have equal paths
abbrev pub AgainExactly : Type 0
AgainExactly = (rd : Reading) (xs : List Schema) (p : Path)
    → Walks rd xs p (refused 13 0) ↔ ((n m : ℕ) × (q r : Path) × Reaches rd xs p n q × Reaches rd xs p m r × (n < m) × (same_path rd q r ≡ true))
