-- Results on their way: from the work array, where a list was valued, to the buffer.
use Rattle.std.specs.Prelude.{◌≡◌, List, ◌++◌, ℕ, ◌*◌, ◌≤◌, length, take, drop, leb}
use Rattle.refusal.specs.MeaningAnswer.{Answer, done, refused, or_else, mapped, ◌>>=◌}
use Rattle.complex_entity.specs.MeaningParts.{Part}
use Rattle.complex_entity.specs.MeaningRows.{flat}

-- so many rows are there
abbrev pub Within : Answer ℕ → List ℕ → Type 0
Within (done n) work = 13 * n ≤ length work
Within (refused n place) work = Unit {0}

-- a list that is answered stands at the front of the work array
abbrev pub FrontIf : Answer (List Part) → List ℕ → Type 0
FrontIf (done L) work = take (13 * length L) work ≡ flat L
FrontIf (refused n place) work = Unit {0}

pub record Valued (o : Answer (List Part)) (work : List ℕ) (r : Answer ℕ) : Type 0 where
  pub says : r ≡ mapped length o
  pub front : FrontIf o work
  pub within : Within r work

-- 12, unless so many rows have room
unfoldable pub fitted : ℕ → Answer ℕ → Answer ℕ
fitted room r = r >>= λ n. or_else 12 (leb (13 * n) room) (done n)

-- that many rows go to the front of the buffer
unfoldable pub handed : Answer ℕ → List ℕ → List ℕ → List ℕ
handed (done n) work out = take (13 * n) work ++ drop (13 * n) out
handed (refused n place) work out = out

pub record Handed (listed : Answer ℕ) (work out : List ℕ) (r : Answer ℕ) (out' : List ℕ) : Type 0 where
  pub says : r ≡ fitted (length out) listed
  pub buffer : out' ≡ handed r work out
