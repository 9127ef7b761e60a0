-- Names byte by byte.
use mathlib.Core.Path.{◌≡◌, refl, sym, ◌∙◌}
use mathlib.Core.List.{List, [], ◌∷◌}
use mathlib.Core.Bool.{Bool, true}
use Prim.Native.Nat.{ℕ, ◌≤◌}
use borrow.Author.Tests.{le-leb}
use lib.ListN.{length}
use Rattle.std.specs.List.{list_all}
use Rattle.grammar.specs.MeaningGrammar.{most_name_bytes}
use Rattle.sheet.specs.MeaningName.{is_name_byte, all_name_bytes, starts_with_letter, is_name}

all_bytes : (v : List ℕ) → list_all is_name_byte v ≡ all_name_bytes v
unfolding all_name_bytes
all_bytes [] = refl
all_bytes (x ∷ xs) = rw (all_bytes xs) refl

-- a short name that starts with a letter is one if its bytes are a name's
pub spelt : (v : List ℕ) (starts all : Bool) → length v ≤ most_name_bytes → starts ≡ starts_with_letter v → starts ≡ true → all ≡ list_all is_name_byte v → all ≡ is_name v
unfolding is_name
spelt v starts all l s h a = simp (le-leb (length v) most_name_bytes l, sym s ∙ h, a, all_bytes v)
