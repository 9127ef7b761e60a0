-- When two names are equal: what a reading decides. Nothing else compares the bytes of names.
use Rattle.std.specs.Prelude.{ℕ, List, [], ◌∷◌, Bool, true, false, ◌&&◌, eqb}
use Rattle.grammar.specs.MeaningReading.{Reading}
use Rattle.grammar.specs.MeaningReading.Reading.{rust}

unfoldable pub same_bytes : List ℕ → List ℕ → Bool
same_bytes [] [] = true
same_bytes [] (y ∷ ys) = false
same_bytes (x ∷ xs) [] = false
same_bytes (x ∷ xs) (y ∷ ys) = eqb x y && same_bytes xs ys

-- "Names are compared byte by byte, as in the Rust."
unfoldable pub same_name : Reading → List ℕ → List ℕ → Bool
same_name rust a b = same_bytes a b
