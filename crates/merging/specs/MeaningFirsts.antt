-- The first entry of each: "in order of first entry (b, d, c)".
use Rattle.std.specs.Prelude.{List, [], ◌∷◌, ◌++◌, Bool, true, cond}

module _ {N : Type 0} (same : N → N → Bool) where
  unfoldable pub among : N → List N → Bool
  among p [] = Bool.false
  among p (q ∷ qs) = cond (same q p) true (among p qs)

  -- behind those that stand already, each that is not among them
  unfoldable pub firsts : List N → List N → List N
  firsts seen [] = []
  firsts seen (p ∷ ps) = cond (among p seen) (firsts seen ps) (p ∷ firsts (seen ++ (p ∷ [])) ps)
