-- Places in a text: where something is found, and how far something was written.
use Rattle.std.specs.Prelude.{◌≡◌, List, ℕ, ◌≤◌, ◌<◌, min, length, get_or, take, drop}

-- r is the place of a byte from a place on, or the text's end
pub record Sought (text : List ℕ) (from byte r : ℕ) : Type 0 where
  pub inside : r ≤ length text
  pub on : min from (length text) ≤ r
  pub found : r < length text → get_or text r 0 ≡ byte

-- what stands from one place to another was written, and nothing else
pub record Written (at end : ℕ) (before after : List ℕ) : Type 0 where
  pub size : length after ≡ length before
  pub on : at ≤ end
  pub room : at ≤ length before → end ≤ length before
  pub kept : take at after ≡ take at before
  pub past : drop end after ≡ drop end before

-- so many values are put, and past them is what was there
pub record Filled {A : Type 0} (count : ℕ) (before after : List A) : Type 0 where
  pub size : length after ≡ length before
  pub inside : count ≤ length after
  pub past : drop count after ≡ drop count before
