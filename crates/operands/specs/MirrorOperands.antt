-- Operands as the code reads them.
use Rattle.std.specs.Prelude.{◌≡◌, List, [], ◌∷◌, cond, ◌&&◌, ℕ, zero, suc, ◌*◌, ◌/◌, ◌≤◌, length, take, drop, ltb, Result, Ok, Err}
use Rattle.std.proofs.Math.Option.{Option, none, some}
use Rattle.complex_entity.specs.MeaningParts.{Part}
use Rattle.complex_entity.specs.MeaningLists.{most_parts}
use Rattle.rows.specs.MirrorRows.{parts_at}
use Rattle.instantiables.specs.MirrorRows.{Sets}
use Rattle.operands.specs.MeaningOperands.{is_row, first_wrong, wanted, rows_in, Operand, a_list, a_part}

-- how many of n rows are good, up to the first that is not; the first of them is number i of its list
unfoldable pub good_from : ℕ → ℕ → List ℕ → ℕ
good_from i zero l = 0
good_from i (suc n) l = cond (ltb i most_parts && is_row (take 13 l)) (suc (good_from (suc i) n (drop 13 l))) 0

-- the first wrong row, if there is one, is the error
abbrev pub read_of : Option ℕ → Result (Unit {0}) ℕ
read_of none = Ok tt
read_of (some k) = Err k

-- what is wrong with an operand of which lists of so many rows are wanted
unfoldable pub judged : List ℕ → List ℕ → Result (Unit {0}) ℕ
judged counts rows = read_of (first_wrong 0 (wanted counts) (rows_in rows))

-- how many rows an operand is to have: a list as many as there are
abbrev pub counts_of : Operand → List ℕ → List ℕ
counts_of a_list rows = length (rows_in rows) ∷ []
counts_of a_part rows = 1 ∷ []

-- the parts of an operand of whole rows
abbrev pub parts_in : List ℕ → List Part
parts_in rows = parts_at (length rows / 13) rows

-- a good operand: whole rows, at most 128, each a set of names
pub record Operable (rows : List ℕ) : Type 0 where
  pub whole : 13 * (length rows / 13) ≡ length rows
  pub few : length rows / 13 ≤ most_parts
  pub sets : Sets (parts_in rows)
