-- What is proved, to be read without the proofs: each claim is a type, and proofs/Proved.antt has a member of each.
use Rattle.std.specs.Prelude.{◌≡◌, List, [], ◌++◌, map, Bool, true}
use Rattle.merging.specs.MeaningMerging.{Combined, Pair, find}
use Rattle.merging.specs.MeaningItems.{gathered, combined_of}
use Rattle.merging.specs.MeaningFirsts.{firsts}

pub record Equivalence {N : Type 0} (same : N → N → Bool) : Type 0 where
  pub reflexive : (p : N) → same p p ≡ true
  pub symmetric : (p q : N) → same p q ≡ true → same q p ≡ true
  pub transitive : (p q r : N) → same p q ≡ true → same q r ≡ true → same p r ≡ true

-- what the steps give an owner is what its own items give
abbrev pub Projected : Type 1
Projected = (N : Type 0) (same : N → N → Bool) → Equivalence same → (p : N) (cs : List (Combined N)) (xs : List (Pair N)) → find same p (gathered same cs xs) ≡ combined_of same p cs xs

-- the owners stand in order of first entry
abbrev pub OwnersInOrder : Type 1
OwnersInOrder = (N : Type 0) (same : N → N → Bool) → Equivalence same → (cs : List (Combined N)) (xs : List (Pair N))
    → map (λ c. c.owner) (gathered same cs xs) ≡ firsts same [] (map (λ c. c.owner) cs ++ map (λ x. x.super) xs)
