-- Records kept as they come, and merged at the end, give what gathering gives.
use mathlib.Core.Path.{◌≡◌, refl, sym, ap}
use mathlib.Core.List.{List, [], ◌∷◌, ◌++◌}
use mathlib.Core.Bool.{Bool, true, false, cond}
use mathlib.Core.Option.{Option, none, some}
use Prim.Native.Nat.{ℕ}
use Rattle.refusal.specs.MeaningAnswer.{Answer, done, refused, mapped, ◌>>=◌}
use Rattle.grammar.specs.MeaningReading.{Reading}
use Rattle.sheet.specs.MeaningName.{Name}
use Rattle.schemas.specs.MeaningSchemas.{Entity, Constraint, Schema}
use Rattle.scope.specs.MeaningScope.{Scope}
use Rattle.expression.specs.MeaningExpression.{Expr}
use Rattle.declarations.specs.MeaningNamespace.{scope_in}
use Rattle.merging.specs.MeaningMerging.{Combined, Pair, find, merged, vacant, entered, grouped, grouped_onto, with_groups, with_subtypes}
use Rattle.merging.specs.MeaningItems.{merged_onto, gathered, exprs_of, subs_of, fresh, combine, combined_of}
use Rattle.merging.specs.Claims.{Equivalence}
use Rattle.merging.proofs.Proved.{projected}
use Rattle.records.specs.MeaningResolving.{rule_of, resolved_expr}
use Rattle.gathering.specs.MeaningGathering.{through, ruled, step_b, constrained, step_d, step_c, gather}
use Rattle.records.specs.MirrorRecords.{behind}
use Rattle.gathering.specs.MirrorGathering.{rule_kept, rules_kept, constraint_kept, constraints_kept, streams_of}
use Rattle.records.proofs.Following.{Follows, has, has_not, follow_mapped, follow_bind}
use Rattle.gathering.proofs.Following.{follow_through}

-- whether an owner is found, and whether it has items
pub data Owns {N : Type 0} : Option (Expr N) → List (Expr N) → Type 0 where
  nothing : Owns none []
  something : {d e : Expr N} {es : List (Expr N)} → Owns (some d) (e ∷ es)

abbrev Any : {A : Type 0} → A → Type 0
Any a = Unit {0}

module _ {N : Type 0} (same : N → N → Bool) where
  owns : (p : N) (cs : List (Combined N)) → Owns (find same p cs) (exprs_of same p cs)
  unfolding find exprs_of
  owns p [] = nothing
  owns p (c ∷ cs) = by (same c.owner p) (owns p cs)
    where
      by : (b : Bool) → Owns (find same p cs) (exprs_of same p cs) → Owns (cond b (some c.expr) (find same p cs)) (cond b (c.expr ∷ exprs_of same p cs) (exprs_of same p cs))
      by true o = something
      by false o = o

  onto_more : (g cs : List (Combined N)) (p : N) (e : Expr N) → merged_onto same g (cs ++ (record { owner = p; expr = e } ∷ [])) ≡ merged same p e (merged_onto same g cs)
  unfolding merged_onto
  onto_more g [] p e = refl
  onto_more g (c ∷ cs) p e = onto_more (merged same c.owner c.expr g) cs p e

  module _ (E : Equivalence same) where
    -- what is found once they are merged
    found : (p : N) (cs : List (Combined N)) → find same p (merged_onto same [] cs) ≡ combine (exprs_of same p cs) []
    unfolding gathered with_subtypes grouped grouped_onto with_groups combined_of subs_of fresh
    found p cs = projected N same E p cs []

    vacant_on : (place : ℕ) (p : N) (e : Expr N) (cs : List (Combined N)) (o : Option (Expr N)) (es : List (Expr N)) → Owns o es
        → Follows (merged_onto same []) Any (vacant same place o (behind cs p e)) (vacant same place (combine es []) (merged same p e (merged_onto same [] cs)))
    unfolding vacant combine behind
    vacant_on place p e cs none (x ∷ _) x4 = elim x4 [ ]
    vacant_on place p e cs (some d) [] x3 = elim x3 [ ]
    vacant_on place p e cs none [] nothing = has tt (ap done (sym (onto_more [] cs p e)))
    vacant_on place p e cs (some d) (x ∷ []) something = has_not refl
    vacant_on place p e cs (some d) (x ∷ y ∷ es) something = has_not refl

    entered_on : (place : ℕ) (p : N) (e : Expr N) (cs : List (Combined N))
        → Follows (merged_onto same []) Any (vacant same place (find same p cs) (behind cs p e)) (entered same place p e (merged_onto same [] cs))
    unfolding entered
    entered_on place p e cs = rw (found p cs) (vacant_on place p e cs (find same p cs) (exprs_of same p cs) (owns p cs))

    module _ (means : Scope → Name → Answer N) (itself : Schema → Entity → N) where
      rule_on : (x : Schema) (e : Entity) (o : Option (Expr Name)) (cs : List (Combined N))
          → Follows (merged_onto same []) Any (rule_kept same means itself x e o cs) (ruled same means itself x e o (merged_onto same [] cs))
      unfolding rule_kept ruled
      rule_on x e none cs = has tt refl
      rule_on x e (some r) cs = by (resolved_expr means (scope_in x) r)
        where
          by : (a : Answer (Expr N)) → Follows (merged_onto same []) Any (a >>= λ d. vacant same e.place (find same (itself x e) cs) (behind cs (itself x e) d)) (a >>= λ d. entered same e.place (itself x e) d (merged_onto same [] cs))
          by (done d) = entered_on e.place (itself x e) d cs
          by (refused n place) = has_not refl

      constraint_on : (x : Schema) (c : Constraint) (o : Option (Expr Name)) (cs : List (Combined N))
          → Follows (merged_onto same []) Any (constraint_kept same means itself x c o cs) (constrained same means itself x c o (merged_onto same [] cs))
      unfolding constraint_kept constrained behind
      constraint_on x c none cs = has tt refl
      constraint_on x c (some e) cs = by (means (scope_in x) c.entity) (resolved_expr means (scope_in x) e)
        where
          by : (a : Answer N) (b : Answer (Expr N)) → Follows (merged_onto same []) Any (a >>= λ p. b >>= λ d. done (behind cs p d)) (a >>= λ p. b >>= λ d. done (merged same p d (merged_onto same [] cs)))
          by (done p) (done d) = has tt (ap done (sym (onto_more [] cs p d)))
          by (done p) (refused n place) = has_not refl
          by (refused n place) b = has_not refl

      rules_on : (rd : Reading) (xs : List Schema) → Follows (merged_onto same []) Any (through (rules_kept same means itself rd) xs []) (step_b same means itself rd xs [])
      unfolding step_b rules_kept merged_onto
      rules_on rd xs =
          follow_through (rules_kept same means itself rd) _ xs
          (λ x m g _. follow_through _ _ x.entities (λ e m k _. rule_on x e (rule_of rd e.mark) k) g tt) [] tt

      constraints_on : (xs : List Schema) (cs : List (Combined N)) → Follows (merged_onto same []) Any (through (constraints_kept same means itself) xs cs) (step_d same means itself xs (merged_onto same [] cs))
      unfolding step_d constraints_kept
      constraints_on xs cs =
          follow_through (constraints_kept same means itself) _ xs
          (λ x m g _. follow_through _ _ x.constraints (λ c m k _. constraint_on x c c.expr k) g tt) cs tt

      -- what the steps gather is what the records give
      pub gathers : (rd : Reading) (xs : List Schema) → gather same means itself rd xs ≡ mapped (λ both. gathered same both.0 both.1) (streams_of same means itself rd xs)
      unfolding gather streams_of gathered
      gathers rd xs =
          follow_mapped {P = Any} (follow_bind _ (rules_on rd xs) (λ cs _. follow_bind _ (constraints_on xs cs) (λ ds _. pairs_on ds (step_c same means itself xs []))))
        where
          pairs_on : (ds : List (Combined N)) (a : Answer (List (Pair N)))
              → Follows (λ (both : List (Combined N) × List (Pair N)). gathered same both.0 both.1) Any (a >>= λ ps. done (ds, ps)) (a >>= λ ps. done (with_subtypes same ps (merged_onto same [] ds)))
          pairs_on ds (done ps) = has tt refl
          pairs_on ds (refused n place) = has_not refl
