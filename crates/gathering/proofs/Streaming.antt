-- For those who read the streams: no expression in them is higher than 5.
use mathlib.Core.Path.{◌≡◌, refl, ap}
use mathlib.Core.List.{List, [], ◌∷◌}
use mathlib.Core.Option.{Option, none, some}
use Prim.Native.Nat.{ℕ, ◌≤◌}
use native.Mathlib.Omega.{arith}
use lib.Dec.{eqb}
use Rattle.refusal.specs.MeaningAnswer.{Answer, done, refused, ◌>>=◌}
use Rattle.complex_entity.specs.MeaningRising.{◌∈◌, here, there}
use Rattle.grammar.specs.MeaningReading.{Reading}
use Rattle.sheet.specs.MeaningName.{Name}
use Rattle.schemas.specs.MeaningSchemas.{Entity, Constraint, Schema}
use Rattle.expression.specs.MeaningExpression.{Expr}
use Rattle.expression.specs.MirrorNodes.{height}
use Rattle.declarations.specs.MeaningNamespace.{scope_in}
use Rattle.merging.specs.MeaningMerging.{Combined, Pair, find, vacant}
use Rattle.merging.specs.MeaningRenaming.{Each}
use Rattle.records.specs.MeaningResolving.{rule_of, resolved_expr}
use Rattle.gathering.specs.MeaningGathering.{step_c}
use Rattle.records.specs.MirrorRecords.{level, behind, number_meant, own_number}
use Rattle.gathering.specs.MirrorGathering.{given, highest, rule_level, constraint_level, schema_level, Bounded, rule_kept, rules_kept, constraint_kept, constraints_kept, streams_of, streams}
use Rattle.records.proofs.Following.{Follows, has, has_not, follow_kept, follow_bind}
use Rattle.gathering.proofs.Following.{follow_through}
use Rattle.gathering.proofs.Renaming.{each_last}
use Rattle.records.proofs.Appending.{expr_sized}
use Rattle.gathering.proofs.Records.{rule_marked}

abbrev pub Low : Combined ℕ → Type 0
Low c = height c.expr ≤ 5

in_highest : {A : Type 0} (f : A → ℕ) (l : List A) (x : A) → x ∈ l → f x ≤ highest f l
unfolding highest
in_highest {A = A} f [] x x3 = elim x3 [ ]
in_highest f (y ∷ l) x (here e) = let z : f x ≡ f y = ap f e in omega arith
in_highest f (y ∷ l) x (there m) = omega (arith, in_highest f l x m)

module _ (rd : Reading) (xs : List Schema) where
  abbrev KeptLow : Answer (List (Combined ℕ)) → Type 0
  KeptLow a = Follows (λ (cs : List (Combined ℕ)). cs) (Each Low) a a

  behind_low : (cs : List (Combined ℕ)) (p : ℕ) (d : Expr ℕ) → Each Low cs → height d ≤ 5 → Each Low (behind cs p d)
  unfolding behind
  behind_low cs p d C h = each_last Low cs (record { owner = p; expr = d }) C h

  rule_low : (x : Schema) (e : Entity) → rule_level e ≤ 5 → (o : Option (Expr Name)) → rule_of rd e.mark ≡ o → (cs : List (Combined ℕ)) → Each Low cs → KeptLow (rule_kept eqb (number_meant rd xs) (own_number rd xs) x e o cs)
  unfolding rule_kept rule_level given vacant
  rule_low x e h none q cs C = has C refl
  rule_low x e h (some r) q cs C =
      let z : level r ≤ 5 = rw (rule_marked rd e.mark r q) at h in
      follow_bind (λ d. vacant eqb e.place (find eqb (own_number rd xs x e) cs) (behind cs (own_number rd xs x e) d)) (expr_sized (number_meant rd xs) (scope_in x) r)
      (λ d g. by (find eqb (own_number rd xs x e) cs) (behind cs (own_number rd xs x e) d) (behind_low cs (own_number rd xs x e) d C (omega (arith, g.1))))
    where
      by : (o : Option (Expr ℕ)) (g : List (Combined ℕ)) → Each Low g → KeptLow (vacant eqb e.place o g)
      by none g G = has G refl
      by (some d) g G = has_not refl

  constraint_low : (x : Schema) (c : Constraint) → constraint_level c ≤ 5 → (o : Option (Expr Name)) → c.expr ≡ o → (cs : List (Combined ℕ)) → Each Low cs → KeptLow (constraint_kept eqb (number_meant rd xs) (own_number rd xs) x c o cs)
  unfolding constraint_kept constraint_level given
  constraint_low x c h none q cs C = has C refl
  constraint_low x c h (some r) q cs C = by (number_meant rd xs (scope_in x) c.entity)
    where
      by : (a : Answer ℕ) → KeptLow (a >>= λ p. resolved_expr (number_meant rd xs) (scope_in x) r >>= λ d. done (behind cs p d))
      by (done p) = let z : level r ≤ 5 = rw q at h in follow_bind (λ d. done (behind cs p d)) (expr_sized (number_meant rd xs) (scope_in x) r) (λ d g. has (behind_low cs p d C (omega (arith, g.1))) refl)
      by (refused n j) = has_not refl

  pub streams_low : Bounded xs → (both : List (Combined ℕ) × List (Pair ℕ)) → streams rd xs ≡ done both → Each Low both.0
  unfolding streams streams_of rules_kept constraints_kept schema_level Each
  streams_low B both q =
      follow_kept {h = λ (b : List (Combined ℕ) × List (Pair ℕ)). b} {P = λ b. Each Low b.0}
      (follow_bind _ (follow_through (rules_kept eqb (number_meant rd xs) (own_number rd xs) rd) (rules_kept eqb (number_meant rd xs) (own_number rd xs) rd) xs
      (λ x m cs C. follow_through _ _ x.entities (λ e k ds D. rule_low x e (omega (arith, B.low, in_highest schema_level xs x m, in_highest rule_level x.entities e k)) (rule_of rd e.mark) refl ds D) cs C) [] tt)
      (λ cs C. follow_bind _ (follow_through (constraints_kept eqb (number_meant rd xs) (own_number rd xs)) (constraints_kept eqb (number_meant rd xs) (own_number rd xs)) xs
      (λ x m cs C. follow_through _ _ x.constraints (λ c k ds D. constraint_low x c (omega (arith, B.low, in_highest schema_level xs x m, in_highest constraint_level x.constraints c k)) c.expr refl ds D) cs C) cs C)
      (λ ds D. by ds D (step_c eqb (number_meant rd xs) (own_number rd xs) xs [])))) both q
    where
      by : (ds : List (Combined ℕ)) → Each Low ds → (a : Answer (List (Pair ℕ))) → Follows (λ (b : List (Combined ℕ) × List (Pair ℕ)). b) (λ b. Each Low b.0) (a >>= λ ps. done (ds, ps)) (a >>= λ ps. done (ds, ps))
      by ds D (done ps) = has D refl
      by ds D (refused n j) = has_not refl
