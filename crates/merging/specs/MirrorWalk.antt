-- A stream of records, as a walk through it gives them.
use Rattle.std.specs.Prelude.{◌≡◌, List, [], ◌∷◌, ◌++◌, cond, ℕ, zero, suc, leb, max, length, take, get_or, Option, None, Some}
use Rattle.expression.specs.MirrorNodes.{flat}
use Rattle.merging.specs.MeaningMerging.{Combined}
use Rattle.merging.specs.declared.Record.{Record}
use Rattle.merging.specs.declared.Walk.{Walk}

-- the owners with their nodes, behind so many numbers that belong to a record before. A node's third number says how many numbers it takes; where fewer stand there is no record
unfoldable pub records_behind : ℕ → List ℕ → List (ℕ × List ℕ)
records_behind zero [] = []
records_behind zero (owner ∷ l) = cond (leb (max 3 (get_or l 2 0)) (length l)) ((owner, take (get_or l 2 0) l) ∷ records_behind (get_or l 2 0) l) []
records_behind (suc k) [] = []
records_behind (suc k) (n ∷ l) = records_behind k l

abbrev pub records_of : List ℕ → List (ℕ × List ℕ)
records_of l = records_behind zero l

abbrev pub shown : Record → ℕ × List ℕ
shown r = (r.owner, r.nodes.now)

abbrev pub shown_item : Combined ℕ → ℕ × List ℕ
shown_item c = (c.owner, flat c.expr)

abbrev pub left : Walk → List ℕ
left w = w.rest.now

-- the first record is given, and what stands behind it is left; or none is left now or later
abbrev pub GivesRecord : Walk → Option Record → Walk → Type 0
GivesRecord old None new = (records_of (left old) ≡ []) × (records_of (left new) ≡ [])
GivesRecord old (Some r) new = (left old ≡ r.owner ∷ (r.nodes.now ++ left new)) × (records_of (left old) ≡ shown r ∷ records_of (left new))
