-- What is proved of operands: they are the rows of good parts, and nothing else.
use Rattle.std.specs.Prelude.{◌≡◌, ◌↔◌, List, [], ◌∷◌, ◌++◌, length, take, drop}
use Prim.Native.Nat.{ℕ, ◌*◌, ◌≤◌, ◌<◌, compare}
use Rattle.refusal.specs.MeaningAnswer.{done, refused}
use Rattle.complex_entity.specs.MeaningRising.{◌∈◌, Rising}
use Rattle.complex_entity.specs.MeaningParts.{Part, most_names, last_index}
use Rattle.complex_entity.specs.MeaningLists.{most_parts}
use Rattle.complex_entity.specs.MeaningRows.{row_of, flat}
use Rattle.operands.specs.MeaningOperands.{read_list, read_part}

pub record Good (p : Part) : Type 0 where
  pub rising : Rising compare p
  pub small : (n : ℕ) → n ∈ p → n ≤ last_index
  pub few : length p ≤ most_names

abbrev pub AllGood : List Part → Type 0
AllGood L = (p : Part) → p ∈ L → Good p

-- a list is read exactly from its rows
abbrev pub ListsRead : Type 0
ListsRead = (l : List ℕ) (L : List Part) → (read_list l ≡ done L) ↔ ((l ≡ flat L) × AllGood L × (length L ≤ most_parts))

-- a part is read exactly from its row
abbrev pub PartsRead : Type 0
PartsRead = (l : List ℕ) (L : List Part) → (read_part l ≡ done L) ↔ ((p : Part) × (L ≡ p ∷ []) × (l ≡ row_of p) × Good p)

-- a 15 is at the first row that is not one: those before it are rows, and what comes from it on begins with none, or is one too many
pub record FirstBad (l : List ℕ) (k : ℕ) : Type 0 where
  pub before : (L : List Part) × (length L ≡ k) × (take (13 * k) l ≡ flat L) × AllGood L
  pub within : 13 * k < length l
  pub bad : k < most_parts → (p : Part) (rest : List ℕ) → Good p → drop (13 * k) l ≡ row_of p ++ rest → ⊥
  pub most : k ≤ most_parts

abbrev pub ListsRefused : Type 0
ListsRefused = (l : List ℕ) (n k : ℕ) → (read_list l ≡ refused n k) ↔ ((n ≡ 15) × FirstBad l k)
