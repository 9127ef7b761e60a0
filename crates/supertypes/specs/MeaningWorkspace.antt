-- The lent workspace: how long it must be, and what is left in it.
use Rattle.std.specs.Prelude.{ℕ, List, Bool, cond, ◌&&◌, length, replicate, leb}
use Rattle.grammar.specs.MeaningGrammar.{most_bytes}

-- "Questions about supertypes .. borrow a workspace of at least 32,768 u16 numbers."

abbrev pub least_work : ℕ
least_work = 32768

unfoldable pub enough : List ℕ → Bool
enough work = leb least_work (length work)

-- "Refusals 1 and 2 leave the workspace; any other answer leaves it all zero."
unfoldable pub left : (sheet work : List ℕ) → List ℕ
left s work = cond (leb (length s) most_bytes && enough work) (replicate (length work) 0) work
