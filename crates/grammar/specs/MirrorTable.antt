-- Looking up a tag in the table.
use Rattle.std.specs.Prelude.{ℕ, suc, List, [], ◌∷◌, Bool, cond, ◌&&◌, get_or, ltb, leb, eqb, Option, Some, None}
use Rattle.grammar.specs.MeaningReading.{Reading}
use Rattle.grammar.specs.MeaningReading.Reading.{rust}
use Rattle.grammar.specs.MirrorRows.{rows}

-- how many rows there are
abbrev pub row_count : ℕ
row_count = 52

-- and how many columns
abbrev pub column_count : ℕ
column_count = 11

-- column j of row i
unfoldable pub cell_at : ℕ → ℕ → ℕ
cell_at i j = get_or (get_or rows i []) j 0

-- the row is for this parent
unfoldable pub belongs : ℕ → List ℕ → Bool
belongs p row = eqb (get_or row 0 0) p

-- and for this tag, and the state is within its bounds
unfoldable pub serves : ℕ → ℕ → ℕ → List ℕ → Bool
serves p st t row = belongs p row && (eqb (get_or row 1 0) t && (leb (get_or row 2 0) st && leb st (get_or row 3 0)))

-- the first row that passes a test, counted from i, or the count past the last
unfoldable pub first : (List ℕ → Bool) → List (List ℕ) → ℕ → ℕ
first test [] i = i
first test (x ∷ xs) i = cond (test x) i (first test xs (suc i))

-- a row's number, or none past the last
unfoldable pub in_table : ℕ → Option ℕ
in_table i = cond (ltb i row_count) (Some i) None

unfoldable pub first_row : ℕ → ℕ
first_row p = first (belongs p) rows 0

unfoldable pub row_of : ℕ → ℕ → ℕ → ℕ
row_of p st t = first (serves p st t) rows 0

-- what a row answers under a reading
unfoldable pub answer_at : Reading → ℕ → ℕ
answer_at rust i = cell_at i 10
