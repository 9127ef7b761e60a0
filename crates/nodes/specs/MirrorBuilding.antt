-- What is read, and what stands behind the used numbers then.
use Rattle.std.specs.Prelude.{◌≡◌, List, ◌++◌, ℕ, ◌+◌, ◌*◌, ◌≤◌, length, take, drop, get_or, Option, Some}
use Rattle.expression.specs.MeaningExpression.{Expr, Terms}
use Rattle.expression.specs.MirrorNodes.{flat, flats, height, heights}
use Rattle.nodes.specs.MeaningBytes.{field_of, bytes_of, bytes_of_all}

-- the bytes begin with a field, and these stand behind it
pub record Field (bytes field behind : List ℕ) : Type 0 where
  pub whole : bytes ≡ field ++ behind
  pub is : field ≡ field_of (get_or field 0 0) (drop 3 field)

-- or they begin with none
abbrev pub NoField : List ℕ → Type 0
NoField bytes = (tag : ℕ) (value behind : List ℕ) → bytes ≡ field_of tag value ++ behind → ⊥

-- what bytes may say: an expression, or terms. Each level takes two calls, one within the other: for the node and for its terms
pub record Sort : Type 1 where
  pub Thing : Type 0
  pub bytes : Thing → List ℕ
  pub numbers : Thing → List ℕ
  pub calls : Thing → ℕ

abbrev pub an_expression : Sort
an_expression = record { Thing = Expr ℕ; bytes = bytes_of; numbers = flat; calls = λ e. 2 * height e }

abbrev pub some_terms : Sort
some_terms = record { Thing = Terms ℕ; bytes = bytes_of_all; numbers = flats; calls = λ t. 2 * heights t + 1 }

-- n numbers stand: those that were used, as they were, and behind them those of what the bytes say
pub record Behind (S : Sort) (bytes : List ℕ) (calls used n : ℕ) (before after : List ℕ) : Type 0 where
  pub thing : S.Thing
  pub says : bytes ≡ S.bytes thing
  pub deep : S.calls thing ≤ calls
  pub inside : n ≤ length after
  pub ends : n ≡ used + length (S.numbers thing)
  pub front : take n after ≡ take used before ++ S.numbers thing

-- numbers are answered only where the bytes say something, and for everything that they say if the calls and the room do for it. The used ones stay in any case
pub record Reads (S : Sort) (bytes : List ℕ) (calls used : ℕ) (before after : List ℕ) (r : Option ℕ) : Type 0 where
  pub only : (n : ℕ) → r ≡ Some n → Behind S bytes calls used n before after
  pub every : (x : S.Thing) → bytes ≡ S.bytes x → S.calls x ≤ calls → used + length (S.numbers x) ≤ length before → r ≡ Some (used + length (S.numbers x))
  pub stay : take used after ≡ take used before
