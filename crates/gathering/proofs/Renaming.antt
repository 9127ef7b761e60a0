-- Names replaced while they are resolved, or in the records: the same, where good names are told apart alike.
use mathlib.Core.Path.{◌≡◌, refl, ap}
use mathlib.Core.List.{List, [], ◌∷◌, ◌++◌, map}
use mathlib.Core.Bool.{Bool}
use mathlib.Core.Option.{Option, none, some}
use Rattle.refusal.specs.MeaningAnswer.{Answer, done, mapped, ◌>>=◌}
use Rattle.complex_entity.specs.MeaningRising.{◌∈◌}
use Rattle.grammar.specs.MeaningReading.{Reading}
use Rattle.sheet.specs.MeaningName.{Name}
use Rattle.schemas.specs.MeaningSchemas.{Entity, Constraint, Schema}
use Rattle.scope.specs.MeaningScope.{Scope}
use Rattle.expression.specs.MeaningExpression.{Expr, Terms}
use Rattle.expression.specs.MeaningExpression.Expr.{reference, andor, «and», oneof}
use Rattle.expression.specs.MeaningExpression.Terms.{end, ◌then◌}
use Rattle.declarations.specs.MeaningNamespace.{scope_in}
use Rattle.merging.specs.MeaningMerging.{Combined, Pair, find, vacant}
use Rattle.merging.specs.MeaningNumbering.{map_expr, map_terms}
use Rattle.merging.specs.MeaningRenaming.{map_combined, map_pair, map_found, GoodExpr, GoodTerms, GoodCombined, GoodPair, Each}
use Rattle.merging.proofs.Renaming.{mapped_find}
use Rattle.records.specs.MeaningResolving.{rule_of, resolved_expr, resolved_terms}
use Rattle.gathering.specs.MeaningGathering.{supers_of, subtype, step_c}
use Rattle.records.specs.MirrorRecords.{behind}
use Rattle.gathering.specs.MirrorGathering.{rule_kept, rules_kept, constraint_kept, constraints_kept, streams_of}
use Rattle.records.proofs.Following.{Follows, has, has_not, follow_by, follow_bind}
use Rattle.gathering.proofs.Following.{follow_through}

-- the last of a list
pub map_last : {A B : Type 0} (g : A → B) (l : List A) (a : A) → map g l ++ (g a ∷ []) ≡ map g (l ++ (a ∷ []))
map_last g [] a = refl
map_last {A} {B} g (b ∷ l) a = ap (λ (k : List B). g b ∷ k) (map_last g l a)

pub each_last : {A : Type 0} (P : A → Type 0) (l : List A) (a : A) → Each P l → P a → Each P (l ++ (a ∷ []))
unfolding Each
each_last P [] a G p = (p, tt)
each_last P (b ∷ l) a G p = (G.0, each_last P l a G.1 p)

module _ {N M : Type 0} (f : N → M) (same : N → N → Bool) (same' : M → M → Bool) (Good : N → Type 0) (agree : (p q : N) → Good p → Good q → same p q ≡ same' (f p) (f q))
    (means : Scope → Name → Answer N) (means' : Scope → Name → Answer M) (itself : Schema → Entity → N) (itself' : Schema → Entity → M)
    (meant : (sc : Scope) (x : Name) → Follows f Good (means sc x) (means' sc x)) (own : (x : Schema) (e : Entity) → itself' x e ≡ f (itself x e)) where
  mutual
    unfolding resolved_expr map_expr GoodExpr

    expr_renamed : (sc : Scope) (e : Expr Name) → Follows (map_expr f) (GoodExpr Good) (resolved_expr means sc e) (resolved_expr means' sc e)
    expr_renamed sc (reference x) = follow_by reference reference (meant sc x) (λ n g. (g, refl))
    expr_renamed sc (andor t) = follow_by andor andor (terms_renamed sc t) (λ u g. (g, refl))
    expr_renamed sc («and» t) = follow_by «and» «and» (terms_renamed sc t) (λ u g. (g, refl))
    expr_renamed sc (oneof t) = follow_by oneof oneof (terms_renamed sc t) (λ u g. (g, refl))

    terms_renamed : (sc : Scope) (t : Terms Name) → Follows (map_terms f) (GoodTerms Good) (resolved_terms means sc t) (resolved_terms means' sc t)
    terms_renamed sc end = has tt refl
    terms_renamed sc (e then t) = follow_bind (λ d. mapped (λ u. d then u) (resolved_terms means' sc t)) (expr_renamed sc e) (λ d g. follow_by (λ u. d then u) (λ u. map_expr f d then u) (terms_renamed sc t) (λ u h. ((g, h), refl)))

  behind_renamed : (cs : List (Combined N)) (p : N) (e : Expr N) → behind (map (map_combined f) cs) (f p) (map_expr f e) ≡ map (map_combined f) (behind cs p e)
  unfolding behind
  behind_renamed cs p e = map_last (map_combined f) cs (record { owner = p; expr = e })

  behind_good : (cs : List (Combined N)) (p : N) (e : Expr N) → Each (GoodCombined Good) cs → Good p → GoodExpr Good e → Each (GoodCombined Good) (behind cs p e)
  unfolding behind
  behind_good cs p e C P E = each_last (GoodCombined Good) cs (record { owner = p; expr = e }) C (P, E)

  abbrev Renamed : Answer (List (Combined N)) → Answer (List (Combined M)) → Type 0
  Renamed a b = Follows (map (map_combined f)) (Each (GoodCombined Good)) a b

  rule_renamed : (x : Schema) (e : Entity) → Good (itself x e) → (o : Option (Expr Name)) (cs : List (Combined N)) → Each (GoodCombined Good) cs
      → Renamed (rule_kept same means itself x e o cs) (rule_kept same' means' itself' x e o (map (map_combined f) cs))
  unfolding rule_kept vacant
  rule_renamed x e P none cs C = has C refl
  rule_renamed x e P (some r) cs C =
      follow_bind (λ d. vacant same' e.place (find same' (itself' x e) (map (map_combined f) cs)) (behind (map (map_combined f) cs) (itself' x e) d)) (expr_renamed (scope_in x) r)
      (λ d E. rw (own x e, mapped_find f same same' Good agree (itself x e) cs P C, behind_renamed cs (itself x e) d) (by (find same (itself x e) cs) (behind cs (itself x e) d) (behind_good cs (itself x e) d C P E)))
    where
      by : (o : Option (Expr N)) (g : List (Combined N)) → Each (GoodCombined Good) g → Renamed (vacant same e.place o g) (vacant same' e.place (map_found f o) (map (map_combined f) g))
      by none g G = has G refl
      by (some d) g G = has_not refl

  constraint_renamed : (x : Schema) (c : Constraint) (o : Option (Expr Name)) (cs : List (Combined N)) → Each (GoodCombined Good) cs
      → Renamed (constraint_kept same means itself x c o cs) (constraint_kept same' means' itself' x c o (map (map_combined f) cs))
  unfolding constraint_kept
  constraint_renamed x c none cs C = has C refl
  constraint_renamed x c (some r) cs C =
      follow_bind (λ p. resolved_expr means' (scope_in x) r >>= λ d. done (behind (map (map_combined f) cs) p d)) (meant (scope_in x) c.entity)
      (λ p P. follow_bind (λ d. done (behind (map (map_combined f) cs) (f p) d)) (expr_renamed (scope_in x) r) (λ d E. has (behind_good cs p d C P E) (ap done (behind_renamed cs p d))))

  subtype_renamed : (x : Schema) (e : Entity) → Good (itself x e) → (n : Name) (ps : List (Pair N)) → Each (GoodPair Good) ps
      → Follows (map (map_pair f)) (Each (GoodPair Good)) (subtype same means itself x e n ps) (subtype same' means' itself' x e n (map (map_pair f) ps))
  unfolding subtype
  subtype_renamed x e S n ps P =
      follow_bind (λ p. done (map (map_pair f) ps ++ (record { super = p; sub = itself' x e } ∷ []))) (meant (scope_in x) n)
      (λ p G. has (each_last (GoodPair Good) ps (record { super = p; sub = itself x e }) P (G, S)) (rw (own x e) (ap done (map_last (map_pair f) ps (record { super = p; sub = itself x e })))))

  module _ (rd : Reading) (xs : List Schema) (good_own : (x : Schema) → x ∈ xs → (e : Entity) → e ∈ x.entities → Good (itself x e)) where
    pub streams_renamed : Follows (λ (both : List (Combined N) × List (Pair N)). (map (map_combined f) both.0, map (map_pair f) both.1)) (λ both. Each (GoodCombined Good) both.0 × Each (GoodPair Good) both.1)
        (streams_of same means itself rd xs) (streams_of same' means' itself' rd xs)
    unfolding streams_of rules_kept constraints_kept step_c Each
    streams_renamed =
        follow_bind _ (follow_through (rules_kept same means itself rd) (rules_kept same' means' itself' rd) xs
        (λ x m cs C. follow_through _ _ x.entities (λ e k ds D. rule_renamed x e (good_own x m e k) (rule_of rd e.mark) ds D) cs C) [] tt)
        (λ cs C. follow_bind _ (follow_through (constraints_kept same means itself) (constraints_kept same' means' itself') xs
        (λ x m cs C. follow_through _ _ x.constraints (λ c k ds D. constraint_renamed x c c.expr ds D) cs C) cs C)
        (λ ds D. follow_bind _ (follow_through _ _ xs
        (λ x m ps P. follow_through _ _ x.entities (λ e k qs Q. follow_through _ _ (supers_of e.supertypes) (λ n j rs R. subtype_renamed x e (good_own x m e k) n rs R) qs Q) ps P) [] tt)
        (λ ps P. has (D, P) refl)))
