-- ANDOR as the code takes it: factor by factor.
use Rattle.std.specs.Prelude.{List, [], ◌∷◌, ◌++◌}
use Rattle.complex_entity.specs.MeaningParts.{Part}
use Rattle.complex_entity.specs.MeaningLists.{add, joins}

-- one factor more: the joins of each part with each of the factor's, and the factor's own parts
unfoldable pub grown : List Part → List Part → List Part
grown L T = add L (joins L T ++ T)

-- L is the list of the factors so far
unfoldable pub andor_from : List Part → List (List Part) → List Part
andor_from L [] = L
andor_from L (T ∷ Ts) = andor_from (grown L T) Ts
