-- The fields that stand in bytes, read by their headers. Any bytes have a forest; what lies behind a header that passes the end is left out.
use Rattle.std.specs.Prelude.{ℕ, zero, suc, ◌+◌, ◌-◌, ◌*◌, List, [], ◌∷◌, cond, ltb, length, take, drop}
use Rattle.forest.specs.MeaningForest.{Forest}
use Rattle.forest.specs.MeaningForest.Forest.{nil, leaf, node}
use Rattle.forest.specs.MeaningPlaces.{nests}

-- at most n fields, one after the other or inside one another
unfoldable pub decode : ℕ → List ℕ → Forest
decode zero xs = nil
decode (suc n) [] = nil
decode (suc n) (t ∷ []) = nil
decode (suc n) (t ∷ a ∷ []) = nil
decode (suc n) (t ∷ a ∷ b ∷ xs) =
    cond (ltb (length xs) (a * 256 + b)) nil
    (cond (nests t) (node t (decode n (take (a * 256 + b) xs)) (decode n (drop (a * 256 + b) xs))) (leaf t (take (a * 256 + b) xs) (decode n (drop (a * 256 + b) xs))))

-- the forest of a sheet's bytes: they hold fewer fields than bytes
unfoldable pub forest_of : List ℕ → Forest
forest_of s = decode (suc (length s)) s

-- the fields of the value from `at` to e
unfoldable pub forest_at : List ℕ → ℕ → ℕ → Forest
forest_at s at e = decode (suc (e - at)) (take (e - at) (drop at s))
