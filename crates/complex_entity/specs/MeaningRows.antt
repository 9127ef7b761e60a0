-- Parts and lists as numbers: "A part is a row of 13 u16 numbers: count, strictly rising indices 0 to 255, zeros."
use mathlib.Core.List.{List, ◌∷◌, ◌++◌, flat_map}
use Rattle.std.specs.Prelude.{ℕ, ◌-◌, length, replicate}
use Rattle.complex_entity.specs.MeaningParts.{Part, most_names}

unfoldable pub row_of : Part → List ℕ
row_of p = length p ∷ (p ++ replicate (most_names - length p) 0)

-- "A list is whole rows"
unfoldable pub flat : List Part → List ℕ
flat L = flat_map row_of L
