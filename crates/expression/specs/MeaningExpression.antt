-- Expressions over names of any kind: the list of one with the refusals, occurrence and merging.
use Rattle.std.specs.Prelude.{List, [], ◌∷◌, Bool, false, ◌||◌, ℕ}
use Rattle.refusal.specs.MeaningAnswer.{Answer, done, ◌>>=◌}
use Rattle.complex_entity.specs.MeaningParts.{Part, single}
use Rattle.complex_entity.specs.MeaningLists.{oneof_of, and_of, andor_of}

-- "50 reference; 51 ANDOR, 52 AND, 53 ONEOF: any number of expressions"
infixr 60 ◌then◌
mutual
  pub data Expr (N : Type 0) : Type 0 where
    reference : N → Expr N
    andor : Terms N → Expr N
    «and» : Terms N → Expr N
    oneof : Terms N → Expr N

  pub data Terms (N : Type 0) : Type 0 where
    end : Terms N
    ◌then◌ : Expr N → Terms N → Terms N

-- ---- the list: "evaluation, children left to right, then 9, 10, 11 at the node"

unfoldable mutual
  pub eval : Expr ℕ → Answer (List Part)
  -- "A reference gives one part"
  eval (reference n) = done (single n ∷ [])
  eval (andor t) = values t >>= andor_of
  eval («and» t) = values t >>= and_of
  eval (oneof t) = values t >>= oneof_of

  pub values : Terms ℕ → Answer (List (List Part))
  values end = done []
  values (e then t) = eval e >>= λ L. values t >>= λ Ls. done (L ∷ Ls)

-- ---- occurrence: "those not occurring in it"

module _ {N : Type 0} (same : N → N → Bool) (x : N) where
  unfoldable mutual
    pub is_in : Expr N → Bool
    is_in (reference n) = same n x
    is_in (andor t) = is_in_some t
    is_in («and» t) = is_in_some t
    is_in (oneof t) = is_in_some t

    pub is_in_some : Terms N → Bool
    is_in_some end = false
    is_in_some (e then t) = is_in e || is_in_some t

-- ---- merging

abbrev pub append : {N : Type 0} → Terms N → Terms N → Terms N
append end u = u
append (e then t) u = e then append t u

-- the factors that an expression brings into an ANDOR: "two ANDORs are joined", and a non-ANDOR is one factor
unfoldable pub factors : {N : Type 0} → Expr N → Terms N
factors (andor t) = t
factors (reference n) = reference n then end
factors («and» t) = «and» t then end
factors (oneof t) = oneof t then end

-- so a non-ANDOR "goes to the back or the front of an ANDOR", and "two others make an ANDOR of both"
unfoldable pub andor_mut : {N : Type 0} → Expr N → Expr N → Expr N
andor_mut d e = andor (append (factors d) (factors e))
