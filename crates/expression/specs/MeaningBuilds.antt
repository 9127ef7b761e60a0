-- What can be built from an expression (demand 3).
use Rattle.std.specs.Prelude.{◌⊎◌, ◌↔◌, [], ◌∷◌}
use Prim.Native.Nat.{ℕ, compare}
use Rattle.complex_entity.specs.MeaningRising.{◌∈◌, Rising}
use Rattle.complex_entity.specs.MeaningParts.{Part}
use Rattle.expression.specs.MeaningExpression.{Expr, reference, andor, «and», oneof, Terms, end, ◌then◌}

-- r joins p and q: it is a set, and has exactly the names of both
pub record Joins (p q r : Part) : Type 0 where
  pub set : Rising compare r
  pub names : (n : ℕ) → (n ∈ r) ↔ ((n ∈ p) ⊎ (n ∈ q))

mutual
  pub data Builds : Expr ℕ → Part → Type 0 where
    -- "a reference gives its name"
    a_name : {n : ℕ} → Builds (reference n) (n ∷ [])
    -- "ONEOF picks a set from one alternative"
    by_oneof : {t : Terms ℕ} {q : Part} → BuildsOne t q → Builds (oneof t) q
    -- "AND joins a set from every term"
    by_and : {t : Terms ℕ} {q : Part} → BuildsEvery t q → Builds («and» t) q
    -- "ANDOR joins one set each from one or more factors"
    by_andor : {t : Terms ℕ} {q : Part} → BuildsSome t q → Builds (andor t) q

  pub data BuildsOne : Terms ℕ → Part → Type 0 where
    this : {e : Expr ℕ} {t : Terms ℕ} {q : Part} → Builds e q → BuildsOne (e then t) q
    later : {e : Expr ℕ} {t : Terms ℕ} {q : Part} → BuildsOne t q → BuildsOne (e then t) q

  pub data BuildsEvery : Terms ℕ → Part → Type 0 where
    last : {e : Expr ℕ} {q : Part} → Builds e q → BuildsEvery (e then end) q
    with_rest : {e : Expr ℕ} {t : Terms ℕ} {p q r : Part} → Builds e p → BuildsEvery t q → Joins p q r → BuildsEvery (e then t) r

  pub data BuildsSome : Terms ℕ → Part → Type 0 where
    only : {e : Expr ℕ} {t : Terms ℕ} {q : Part} → Builds e q → BuildsSome (e then t) q
    without : {e : Expr ℕ} {t : Terms ℕ} {q : Part} → BuildsSome t q → BuildsSome (e then t) q
    with_it : {e : Expr ℕ} {t : Terms ℕ} {p q r : Part} → Builds e p → BuildsSome t q → Joins p q r → BuildsSome (e then t) r
