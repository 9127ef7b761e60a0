-- "A name has 1 to 32 bytes, a letter then letters, digits or underscores."
use Rattle.std.specs.Prelude.{ℕ, List, [], ◌∷◌, Bool, true, false, ◌&&◌, ◌||◌, length, leb, eqb}
use Rattle.grammar.specs.MeaningGrammar.{most_name_bytes}

-- A to Z, a to z
unfoldable pub is_letter : ℕ → Bool
is_letter x = (leb 65 x && leb x 90) || (leb 97 x && leb x 122)

-- a letter, an underscore, 0 to 9
unfoldable pub is_name_byte : ℕ → Bool
is_name_byte x = is_letter x || (eqb x 95 || (leb 48 x && leb x 57))

unfoldable pub all_name_bytes : List ℕ → Bool
all_name_bytes [] = true
all_name_bytes (x ∷ xs) = is_name_byte x && all_name_bytes xs

-- so it has 1 byte at least
unfoldable pub starts_with_letter : List ℕ → Bool
starts_with_letter [] = false
starts_with_letter (x ∷ xs) = is_letter x

unfoldable pub is_name : List ℕ → Bool
is_name v = leb (length v) most_name_bytes && (starts_with_letter v && all_name_bytes v)

-- a name where it stands in some bytes: the place of its first byte, and its bytes
pub record Name : Type 0 where
  pub at : ℕ
  pub bytes : List ℕ
