-- Operands: lent numbers read as rows, and the place of the first row that is wrong.
use mathlib.Core.List.{List, [], ◌∷◌, ◌++◌, map, flatten}
use Rattle.std.specs.Prelude.{Bool, true, cond, ◌&&◌, ℕ, zero, suc, ◌+◌, length, get_or, take, drop, leb, ltb, eqb}
use Rattle.std.proofs.Math.Option.{Option, none, some}
use Rattle.refusal.specs.MeaningAnswer.{Answer, done, refused, mapped, ◌>>=◌}
use Rattle.complex_entity.specs.MeaningParts.{Part, most_names, last_index}
use Rattle.complex_entity.specs.MeaningLists.{most_parts}

-- ---- one row: "a row of 13 u16 numbers: count, strictly rising indices 0 to 255, zeros"

-- f holds of each number
abbrev pub each : (ℕ → Bool) → List ℕ → Bool
each f [] = true
each f (x ∷ l) = f x && each f l

-- "strictly rising": each is greater than the one before it
abbrev pub rises_after : ℕ → List ℕ → Bool
rises_after x [] = true
rises_after x (y ∷ l) = ltb x y && rises_after y l

abbrev pub rises : List ℕ → Bool
rises [] = true
rises (x ∷ l) = rises_after x l

-- as many names as the count says
abbrev pub names_in : List ℕ → Part
names_in r = take (get_or r 0 0) (drop 1 r)

unfoldable pub is_row : List ℕ → Bool
is_row r =
    eqb (length r) 13 && (leb (get_or r 0 0) most_names
    && (rises (names_in r) && (each (λ n. leb n last_index) (names_in r) && each (λ n. eqb n 0) (drop (1 + get_or r 0 0) r))))

-- ---- an operand: the numbers cut into rows, the last of which may be cut short

-- at most n rows
unfoldable pub cut_up : ℕ → List ℕ → List (List ℕ)
cut_up zero l = []
cut_up (suc n) [] = []
cut_up (suc n) (x ∷ l) = take 13 (x ∷ l) ∷ cut_up n (drop 13 (x ∷ l))

abbrev pub rows_in : List ℕ → List (List ℕ)
rows_in l = cut_up (length l) l

-- n numbers, from i on
unfoldable pub numbers_from : ℕ → ℕ → List ℕ
numbers_from i zero = []
numbers_from i (suc n) = i ∷ numbers_from (suc i) n

-- lists of so many rows each are wanted: for each row its number in its own list
unfoldable pub wanted : List ℕ → List ℕ
wanted [] = []
wanted (n ∷ ns) = numbers_from 0 n ++ wanted ns

-- "first bad, cut, missing or surplus row", counted through the whole operand from k; "a list is whole rows, at most 128", so that the 129th is surplus
unfoldable pub first_wrong : ℕ → List ℕ → List (List ℕ) → Option ℕ
first_wrong k [] [] = none
first_wrong k (i ∷ is) [] = some k
first_wrong k [] (r ∷ rs) = some k
first_wrong k (i ∷ is) (r ∷ rs) = cond (ltb i most_parts && is_row r) (first_wrong (suc k) is rs) (some k)

-- the parts dealt out to lists of so many
unfoldable pub dealt : List ℕ → List Part → List (List Part)
dealt [] L = []
dealt (n ∷ ns) L = take n L ∷ dealt ns (drop n L)

abbrev pub unless_wrong : {A : Type 0} → Option ℕ → A → Answer A
unless_wrong none a = done a
unless_wrong (some k) a = refused 15 k

-- several lists, given by their counts and all their rows
unfoldable pub read_lists : List ℕ → List ℕ → Answer (List (List Part))
read_lists ns l = unless_wrong (first_wrong 0 (wanted ns) (rows_in l)) (dealt ns (map names_in (rows_in l)))

-- one list: as many rows as there are. One part: the list of that part alone
unfoldable pub read_list : List ℕ → Answer (List Part)
read_list l = mapped flatten (read_lists (length (rows_in l) ∷ []) l)

unfoldable pub read_part : List ℕ → Answer (List Part)
read_part l = mapped flatten (read_lists (1 ∷ []) l)

-- an operand is a list or a part
pub data Operand : Type 0 where
  a_list a_part : Operand

unfoldable pub read : Operand → List ℕ → Answer (List Part)
read a_list l = read_list l
read a_part l = read_part l

-- the part of an operand that is one
abbrev pub part : List Part → Part
part [] = []
part (p ∷ L) = p

-- "15, left operand first": the left one is read, then the right one
unfoldable pub both : {A B : Type 0} → Answer A → Answer B → Answer (A × B)
both left right = left >>= λ a. mapped (λ b. (a, b)) right
