-- Expressions as numbers: nodes in pre-order, three numbers each. A node says its kind, its value, and how many numbers it and all below it take.
use Rattle.std.specs.Prelude.{◌≡◌, List, [], ◌∷◌, ◌++◌, Bool, false, ◌&&◌, ◌||◌, ℕ, suc, ◌+◌, ◌*◌, ◌≤◌, max, length, eqb}
use Rattle.expression.specs.MeaningExpression.{Expr, reference, andor, «and», oneof, Terms, end, ◌then◌}

-- kinds: 0 a reference, whose value is its index; 1 ANDOR, 2 AND, 3 ONEOF
abbrev pub node : ℕ → List ℕ → List ℕ
node kind below = kind ∷ 0 ∷ suc (suc (suc (length below))) ∷ below

unfoldable mutual
  pub flat : Expr ℕ → List ℕ
  flat (reference n) = 0 ∷ n ∷ 3 ∷ []
  flat (andor t) = node 1 (flats t)
  flat («and» t) = node 2 (flats t)
  flat (oneof t) = node 3 (flats t)

  pub flats : Terms ℕ → List ℕ
  flats end = []
  flats (e then t) = flat e ++ flats t

-- "expression depth .. a lone reference being 1"
unfoldable mutual
  pub height : Expr ℕ → ℕ
  height (reference n) = 1
  height (andor t) = suc (heights t)
  height («and» t) = suc (heights t)
  height (oneof t) = suc (heights t)

  pub heights : Terms ℕ → ℕ
  heights end = 0
  heights (e then t) = max (height e) (heights t)

-- an expression stands in these numbers that so many calls, one within the other, can value: each level takes two, for the node and for its terms
pub record Node (l : List ℕ) (calls : ℕ) : Type 0 where
  pub expr : Expr ℕ
  pub is : l ≡ flat expr
  pub high : 2 * height expr ≤ calls

pub record Nodes (l : List ℕ) (calls : ℕ) : Type 0 where
  pub terms : Terms ℕ
  pub is : l ≡ flats terms
  pub high : 2 * heights terms + 1 ≤ calls

-- a reference to the index is among the nodes; fewer than three numbers at the end are no node
unfoldable pub scan : ℕ → List ℕ → Bool
scan index [] = false
scan index (kind ∷ []) = false
scan index (kind ∷ value ∷ []) = false
scan index (kind ∷ value ∷ span ∷ l) = (eqb kind 0 && eqb value index) || scan index l
