-- How a list is sorted without repeats, over any comparison of two things, since names are compared one way and parts another.
use Rattle.std.specs.Prelude.{List, [], ◌∷◌}
use Prim.Native.Nat.{Ordering}

module _ {A : Type 0} (cmp : A → A → Ordering) where
  -- a goes before the first that is greater, unless it is met
  abbrev pub put : Ordering → A → A → List A → List A → List A
  put Ordering.lt a b l r = a ∷ b ∷ l
  put Ordering.eq a b l r = b ∷ l
  put Ordering.gt a b l r = b ∷ r

  abbrev pub sort_in : A → List A → List A
  sort_in a [] = a ∷ []
  sort_in a (b ∷ l) = put (cmp a b) a b l (sort_in a l)

  -- "sorted without repeats"
  abbrev pub tidy : List A → List A
  tidy [] = []
  tidy (a ∷ l) = sort_in a (tidy l)
