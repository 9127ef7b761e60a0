-- What gathering keeps: owners with their expressions, in order of first entry. Owners and references are names of any kind that can be compared.
use Rattle.std.specs.Prelude.{ℕ, List, [], ◌∷◌, ◌++◌, Bool, cond}
use Rattle.std.proofs.Math.Option.{Option, none, some}
use Rattle.refusal.specs.MeaningAnswer.{Answer, done, refused}
use Rattle.expression.specs.MeaningExpression.{Expr, Terms, is_in, andor_mut}
use Rattle.expression.specs.MeaningExpression.Expr.{reference, andor}
use Rattle.expression.specs.MeaningExpression.Terms.{end, ◌then◌}

-- a supertype and its expression
pub record Combined (N : Type 0) : Type 0 where
  pub owner : N
  pub expr : Expr N

-- one name in SUBTYPE OF: a supertype and a subtype
pub record Pair (N : Type 0) : Type 0 where
  pub super : N
  pub sub : N

-- a supertype and its subtypes
pub record Group (N : Type 0) : Type 0 where
  pub super : N
  pub subs : List N

unfoldable pub references : {N : Type 0} → List N → Terms N
references [] = end
references (x ∷ xs) = reference x then references xs

module _ {N : Type 0} (same : N → N → Bool) where
  -- the expression of an owner
  unfoldable pub find : N → List (Combined N) → Option (Expr N)
  find p [] = none
  find p (c ∷ g) = cond (same c.owner p) (some c.expr) (find p g)

  -- merging: into the owner's expression, or as a new entry behind the others
  unfoldable pub merged : N → Expr N → List (Combined N) → List (Combined N)
  merged p e [] = record { owner = p; expr = e } ∷ []
  merged p e (c ∷ g) = cond (same c.owner p) (record { owner = c.owner; expr = andor_mut c.expr e } ∷ g) (c ∷ merged p e g)

  -- step b, "a second one for the same path is refused": 8 at the place
  unfoldable pub vacant : ℕ → Option (Expr N) → List (Combined N) → Answer (List (Combined N))
  vacant place none g = done g
  vacant place (some d) g = refused 8 place

  unfoldable pub entered : (place : ℕ) → N → Expr N → List (Combined N) → Answer (List (Combined N))
  entered place p e g = vacant place (find p g) (merged p e g)

  -- step c, the subtypes of each supertype: in order of first entry, "repeats kept"
  unfoldable pub into : Pair N → List (Group N) → List (Group N)
  into x [] = record { super = x.super; subs = x.sub ∷ [] } ∷ []
  into x (y ∷ gs) = cond (same y.super x.super) (record { super = y.super; subs = y.subs ++ (x.sub ∷ []) } ∷ gs) (y ∷ into x gs)

  unfoldable pub grouped_onto : List (Group N) → List (Pair N) → List (Group N)
  grouped_onto gs [] = gs
  grouped_onto gs (x ∷ xs) = grouped_onto (into x gs) xs

  unfoldable pub grouped : List (Pair N) → List (Group N)
  grouped xs = grouped_onto [] xs

  -- "those not occurring in it, tested before any is added"
  unfoldable pub left_over : Expr N → List N → List N
  left_over d [] = []
  left_over d (x ∷ xs) = cond (is_in same x d) (left_over d xs) (x ∷ left_over d xs)

  -- ".. are merged as one ANDOR, if there are any"
  unfoldable pub joined : N → List N → List (Combined N) → List (Combined N)
  joined p [] g = g
  joined p (x ∷ xs) g = merged p (andor (references (x ∷ xs))) g

  -- "For a supertype without an expression its subtypes .. form an ANDOR. Otherwise .."
  unfoldable pub subtyped : Group N → Option (Expr N) → List (Combined N) → List (Combined N)
  subtyped x none g = merged x.super (andor (references x.subs)) g
  subtyped x (some d) g = joined x.super (left_over d x.subs) g

  unfoldable pub with_groups : List (Group N) → List (Combined N) → List (Combined N)
  with_groups [] g = g
  with_groups (x ∷ xs) g = with_groups xs (subtyped x (find x.super g) g)

  -- step c
  unfoldable pub with_subtypes : List (Pair N) → List (Combined N) → List (Combined N)
  with_subtypes xs g = with_groups (grouped xs) g
