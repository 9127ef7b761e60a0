-- Results: the rows that a caller gets, and what its buffer holds then.
use Rattle.std.specs.Prelude.{List, [], ◌∷◌, ◌++◌, ℕ, ◌*◌, length, drop, leb}
use Rattle.refusal.specs.MeaningAnswer.{Answer, done, refused, or_else}
use Rattle.complex_entity.specs.MeaningParts.{Part}
use Rattle.complex_entity.specs.MeaningRows.{flat}

-- an answer that is one part is a list of one row
abbrev pub one : Part → Answer (List Part)
one p = done (p ∷ [])

-- "12: result longer than its buffer"
unfoldable pub fitting : ℕ → List Part → Answer (List Part)
fitting room L = or_else 12 (leb (13 * length L) room) (done L)

-- "A refusal never touches a result buffer; success writes its rows and nothing after them."
unfoldable pub written : Answer (List Part) → List ℕ → List ℕ
written (done L) out = flat L ++ drop (13 * length L) out
written (refused n place) out = out
