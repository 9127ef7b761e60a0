-- What is proved of expressions and their numbers: demand 3.
use Rattle.std.specs.Prelude.{◌≡◌, ◌↔◌, List, map, ℕ, ◌≤◌, ◌<◌, length}
use Rattle.refusal.specs.MeaningAnswer.{done, refused}
use Rattle.complex_entity.specs.MeaningRising.{◌∈◌, Lt, Rising}
use Rattle.complex_entity.specs.MeaningParts.{Part, order}
use Rattle.expression.specs.MeaningExpression.{Expr, eval}
use Rattle.expression.specs.MeaningBuilds.{Builds}
use Rattle.expression.specs.MeaningNumbers.{number_of, set_at}
use Rattle.expression.specs.MeaningExamples.{Example, answer, starred}

-- the list of an expression has exactly the sets that can be built from it, in strictly rising order
abbrev pub ListsBuilds : Type 0
ListsBuilds = (e : Expr ℕ) (L : List Part) → eval e ≡ done L → Rising order L × ((q : Part) → (q ∈ L) ↔ Builds e q)

-- demand 3, of a list L and what can be built
pub record Numbered (B : Part → Type 0) (L : List Part) : Type 0 where
  -- "Each set that can be built has exactly one number from 0 to the count less one."
  pub has : (q : Part) → B q → (i : ℕ) × (i < length L) × (number_of L q ≡ done i)
  -- "No other set has a number"
  pub only : (q : Part) (i : ℕ) → number_of L q ≡ done i → B q
  -- "different sets have different numbers"
  pub apart : (p q : Part) (i : ℕ) → number_of L p ≡ done i → number_of L q ≡ done i → p ≡ q
  -- "and a number gives its set back": below the count every number does, and none from there on
  pub back : (q : Part) (i : ℕ) → (number_of L q ≡ done i) ↔ (set_at L i ≡ done q)
  pub full : (i : ℕ) → i < length L → (q : Part) × (set_at L i ≡ done q)
  pub past : (i : ℕ) → length L ≤ i → set_at L i ≡ refused 17 0
  -- "Smaller sets come first, then lower index lists."
  pub rising : (p q : Part) (i j : ℕ) → number_of L p ≡ done i → number_of L q ≡ done j → (i < j) ↔ Lt order p q

abbrev pub Demand3 : Type 0
Demand3 = (e : Expr ℕ) (L : List Part) → eval e ≡ done L → Numbered (Builds e) L

-- a set without a number is refused with 17
abbrev pub Unnumbered : Type 0
Unnumbered = (e : Expr ℕ) (L : List Part) → eval e ≡ done L → (q : Part) → (Builds e q → ⊥) ↔ (number_of L q ≡ refused 17 0)

-- the starred examples come out as document 01 has them
abbrev pub Starred : Type 0
Starred = map (λ (x : Example). answer x.ask) starred ≡ map (λ (x : Example). x.say) starred
