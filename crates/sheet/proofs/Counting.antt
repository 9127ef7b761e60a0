-- One count goes up by the fields that count for it, up to its most; so do they all.
use mathlib.Core.Path.{◌≡◌, refl}
use mathlib.Core.Bool.{Bool, true, false, cond}
use Prim.Native.Nat.{ℕ, ◌+◌, ◌<◌, ◌≤◌}
use native.Mathlib.Omega.{arith}
use borrow.Author.Tests.{ltb-true, ltb-false}
use lib.Dec.{eqb, ltb}
use Rattle.grammar.specs.MeaningGrammar.{Limit, most, counts}
use Rattle.grammar.specs.MeaningGrammar.Limit.{schemas, declarations, constraints, terms}
use Rattle.std.specs.Prelude.{Option, Some, None}
use Rattle.sheet.specs.MirrorCheck.{next_count, then_count, count_up}
use Rattle.sheet.specs.declared.Counts.{Counts}
use Rattle.grammar.proofs.Choosing.{either, clash}
use Rattle.grammar.proofs.Tabulated.{own}

-- the count n after a field, where b: it counts
abbrev Tallied : Bool → ℕ → ℕ → Option ℕ → Type 0
Tallied b n top (Some m) = (m ≡ n + cond b 1 0) × (b ≡ true → n < top)
Tallied b n top None = (b ≡ true) × (top ≤ n)

tallied : (class mine n top : ℕ) (b : Bool) → eqb class mine ≡ b → Tallied b n top (next_count class mine n top)
unfolding next_count
tallied class mine n top true e = rw e (either (Tallied true n top) (ltb n top) (Some (n + 1)) None (λ h. (refl, λ _. ltb-true n top h)) (λ h. (refl, ltb-false n top h)))
tallied class mine n top false e = rw e (omega arith, λ q. clash (cc))

then_count_law : (P : Option Counts → Type 0) (b : Bool) (n top : ℕ) (x : Option ℕ) (k : ℕ → Option Counts) → Tallied b n top x → ((m : ℕ) → Tallied b n top (Some m) → P (k m)) → (Tallied b n top None → P None) → P (then_count x k)
unfolding then_count
then_count_law P b n top (Some m) k f g h = g m f
then_count_law P b n top None k f g h = h f

-- a limit's count
abbrev pub of : Limit → Counts → ℕ
of schemas c = c.schemas
of declarations c = c.declarations
of constraints c = c.constraints
of terms c = c.terms

module _ (p t : ℕ) (c : Counts) where
  -- all counts after a field with the tag t in the parent p
  abbrev pub AllTallied : Option Counts → Type 0
  AllTallied (Some c1) = (l : Limit) → Tallied (counts l p t) (of l c) (most l) (Some (of l c1))
  AllTallied None = (l : Limit) × Tallied (counts l p t) (of l c) (most l) None

  each_limit : (P : Limit → Type 0) → P schemas → P declarations → P constraints → P terms → (l : Limit) → P l
  each_limit P a b d e schemas = a
  each_limit P a b d e declarations = b
  each_limit P a b d e constraints = d
  each_limit P a b d e terms = e

  pub all_tallied : (class : ℕ) → ((l : Limit) → eqb class (own l) ≡ counts l p t) → AllTallied (count_up class c)
  unfolding count_up
  all_tallied class q =
      then_count_law AllTallied (counts schemas p t) c.schemas (most schemas) (next_count class 1 c.schemas (most schemas)) _ (tallied class 1 c.schemas (most schemas) (counts schemas p t) (q schemas)) (λ a A.
      then_count_law AllTallied (counts declarations p t) c.declarations (most declarations) (next_count class 2 c.declarations (most declarations)) _ (tallied class 2 c.declarations (most declarations) (counts declarations p t) (q declarations)) (λ b B.
      then_count_law AllTallied (counts constraints p t) c.constraints (most constraints) (next_count class 3 c.constraints (most constraints)) _ (tallied class 3 c.constraints (most constraints) (counts constraints p t) (q constraints)) (λ d D.
      then_count_law AllTallied (counts terms p t) c.terms (most terms) (next_count class 4 c.terms (most terms)) _ (tallied class 4 c.terms (most terms) (counts terms p t) (q terms)) (λ e E.
      each_limit (λ (l : Limit). Tallied (counts l p t) (of l c) (most l) (Some (of l (record { schemas = a; declarations = b; constraints = d; terms = e })))) A B D E)
      (λ z. (terms, z))) (λ z. (constraints, z))) (λ z. (declarations, z))) (λ z. (schemas, z))

-- counts are equal that are equal for each limit
pub same_counts : (c k : Counts) → ((l : Limit) → of l c ≡ of l k) → c ≡ k
same_counts c k h = same (h schemas) (h declarations) (h constraints) (h terms)
  where
    same : {a b d e a1 b1 d1 e1 : ℕ} → a ≡ a1 → b ≡ b1 → d ≡ d1 → e ≡ e1
        → ◌≡◌ {A = Counts} (record { schemas = a; declarations = b; constraints = d; terms = e }) (record { schemas = a1; declarations = b1; constraints = d1; terms = e1 })
    same p q r s = rw (p, q, r, s) refl
