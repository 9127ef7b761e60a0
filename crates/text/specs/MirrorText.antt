-- What the code puts into lent memory.
use Rattle.std.specs.Prelude.{◌≡◌, List, ◌++◌, Bool, true, false, ℕ, ◌+◌, ◌≤◌, Result, IfOk, length, take, drop}
use Rattle.refusal.specs.declared.Refusal.{Refusal}
use Rattle.text.specs.MeaningText.{blank, comma, word_refused, decimal, path_text, joined}

-- a text stands from `at` to `r`, and all else is as it was
pub record Puts (text : List ℕ) (at r : ℕ) (before after : List ℕ) : Type 0 where
  pub end : r ≡ at + length text
  pub room : r ≤ length before
  pub size : length after ≡ length before
  pub put : after ≡ take at before ++ (text ++ drop r before)

-- the word and the number of a refusal, which stand for what is not known
unfoldable pub refused_text : ℕ → List ℕ
refused_text n = word_refused ++ (blank ++ decimal n)

-- a word and a path, each with a blank behind it
unfoldable pub start_text : (word schema item : List ℕ) → List ℕ
start_text word schema item = word ++ (blank ++ (path_text schema item ++ blank))

-- one path more, behind a comma unless it is the first
unfoldable pub next_text : (first : Bool) → List ℕ → List ℕ
next_text true path = path
next_text false path = comma ++ path

-- a part's line so far: its number and some paths
unfoldable pub part_text : ℕ → (paths : List (List ℕ)) → List ℕ
part_text i paths = decimal i ++ (blank ++ joined paths)

-- a count that has at most five digits
abbrev pub Counted : Result ℕ Refusal → Type 0
Counted count = IfOk count (λ n. n ≤ 65535)
