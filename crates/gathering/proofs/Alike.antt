-- What a schema's fields are read by its name alone, and field by field: the passes are the steps.
use mathlib.Core.Path.{◌≡◌, refl, sym, ap, ap₂, ◌∙◌}
use mathlib.Core.List.{List, [], ◌∷◌, ◌++◌, map, append_assoc, append-nil}
use mathlib.Core.Bool.{Bool, true, false, cond}
use mathlib.Core.Option.{Option, none, some}
use Prim.Native.Nat.{ℕ, ◌≤◌}
use native.Mathlib.Nat.{le_refl}
use native.Mathlib.Omega.{arith}
use borrow.Author.Tests.{eq-eqb}
use lib.Dec.{eqb}
use Rattle.refusal.specs.MeaningAnswer.{Answer, done, refused, mapped, ◌>>=◌}
use Rattle.grammar.specs.MeaningReading.{Reading}
use Rattle.sheet.specs.MeaningName.{Name}
use Rattle.schemas.specs.MeaningTree.{Tree}
use Rattle.schemas.specs.MeaningTree.Tree.{nil, leaf, node}
use Rattle.schemas.specs.MeaningSchemas.{Entity, Schema, expr_of, mark_of, supertypes_of, entity_of, constraint_of, each, schema_of, schemas_of}
use Rattle.scope.specs.MeaningScope.{Scope, same_scope, steps_equal, same_path}
use Rattle.scope.proofs.Equality.{two, name_refl, step_refl}
use Rattle.expression.specs.MeaningExpression.{Expr, Terms}
use Rattle.expression.specs.MeaningExpression.Expr.{reference, andor, «and», oneof}
use Rattle.expression.specs.MeaningExpression.Terms.{end, ◌then◌}
use Rattle.lookup.specs.MirrorLookup.{itself}
use Rattle.declarations.specs.MeaningNamespace.{scope_in, item_of, path_in, first, resolved}
use Rattle.declarations.specs.MirrorNamespace.{word_of, schema_scope}
use Rattle.declarations.specs.MeaningNamespace.Named.{an_entity}
use Rattle.declarations.proofs.Schemas.{named_so}
use Rattle.declarations.proofs.Scopes.{declaration_same, seen_same}
use Rattle.resolving.proofs.Reaching.{resolved_first}
use Rattle.merging.specs.MeaningMerging.{Combined, Pair}
use Rattle.merging.specs.MirrorStream.{paired}
use Rattle.records.specs.MeaningResolving.{rule_of, resolved_expr, resolved_terms, path_for, own_path, number_for, number_in}
use Rattle.gathering.specs.MeaningGathering.{through, supers_of, subtype, step_c}
use Rattle.records.specs.MirrorRecords.{behind, number_meant, own_number, schema_named}
use Rattle.gathering.specs.MirrorGathering.{sum, highest, rule_size, rule_level, super_size, constraint_size, constraint_level, rules_size, supers_size, constraints_size, schema_level, rule_kept, rules_kept, constraint_kept, constraints_kept}
use Rattle.gathering.specs.MirrorWalk.{super_kept, item_kept, all_kept, item_size, item_level, items_size, items_level, all_size, all_level}
use Rattle.gathering.specs.MirrorWalk.{Step}
use Rattle.gathering.specs.MirrorWalk.Step.{Rules, Constraints, Subtypes}
use Rattle.records.proofs.Following.{Follows, has, has_not, follow_mapped}
use Rattle.gathering.proofs.Following.{follow_through}
use Rattle.gathering.proofs.Renaming.{map_last}

-- ---- by the name alone

scope_named : (w : List ℕ) → scope_in (schema_named w) ≡ schema_scope w
unfolding scope_in schema_named schema_scope
scope_named w = refl

module _ (rd : Reading) (xs : List Schema) where
  module _ (sc sc' : Scope) (h : (n : Name) → number_meant rd xs sc n ≡ number_meant rd xs sc' n) where
    mutual
      unfolding resolved_expr

      expr_alike : (e : Expr Name) → resolved_expr (number_meant rd xs) sc e ≡ resolved_expr (number_meant rd xs) sc' e
      expr_alike (reference x) = ap (mapped reference) (h x)
      expr_alike (andor t) = ap (mapped andor) (terms_alike t)
      expr_alike («and» t) = ap (mapped «and») (terms_alike t)
      expr_alike (oneof t) = ap (mapped oneof) (terms_alike t)

      terms_alike : (t : Terms Name) → resolved_terms (number_meant rd xs) sc t ≡ resolved_terms (number_meant rd xs) sc' t
      terms_alike end = refl
      terms_alike (e then t) = ap₂ (λ (a : Answer (Expr ℕ)) (b : Answer (Terms ℕ)). a >>= λ d. mapped (λ u. d then u) b) (expr_alike e) (terms_alike t)

  module _ (x : Schema) where
    scope_alike : same_scope rd (scope_in x) (schema_scope x.name.bytes) ≡ true
    unfolding scope_in schema_scope word_of same_scope steps_equal
    scope_alike = two (two (eq-eqb 7 7 refl) (name_refl rd x.name.bytes)) refl

    resolved_alike : (w : List ℕ) → resolved rd xs (scope_in x) w ≡ resolved rd xs (schema_scope x.name.bytes) w
    unfolding scope_in schema_scope
    resolved_alike w = resolved_first rd xs w _ [] ∙ ap (first (named_so rd w)) (seen_same rd xs (scope_in x) (schema_scope x.name.bytes) scope_alike) ∙ sym (resolved_first rd xs w _ [])

    means_alike : (n : Name) → number_meant rd xs (scope_in x) n ≡ number_meant rd xs (schema_scope x.name.bytes) n
    unfolding number_meant path_for
    means_alike n = rw (resolved_alike n.bytes) refl

    path_alike : (e : Entity) → same_path rd (own_path x e) (own_path (schema_named x.name.bytes) e) ≡ true
    unfolding same_path own_path path_in scope_in schema_named word_of schema_scope
    path_alike e = two scope_alike (step_refl rd (item_of (an_entity e)))

    own_alike : (e : Entity) → own_number rd xs x e ≡ own_number rd xs (schema_named x.name.bytes) e
    unfolding own_number number_for
    own_alike e = ap number_in (declaration_same rd xs (own_path x e) (own_path (schema_named x.name.bytes) e) (path_alike e))

    exprs : (e : Expr Name) → resolved_expr (number_meant rd xs) (scope_in x) e ≡ resolved_expr (number_meant rd xs) (schema_scope x.name.bytes) e
    exprs e = expr_alike (scope_in x) (schema_scope x.name.bytes) means_alike e

    rule_alike : (p : ℕ) (g : Tree) (o : Option (Expr Name)) (cs : List (Combined ℕ))
        → rule_kept eqb (number_meant rd xs) (own_number rd xs) x (entity_of p g) o cs ≡ rule_kept eqb (number_meant rd xs) (own_number rd xs) (schema_named x.name.bytes) (entity_of p g) o cs
    unfolding rule_kept
    rule_alike p g none cs = refl
    rule_alike p g (some r) cs = rw (exprs r, own_alike (entity_of p g), scope_named x.name.bytes) refl

    constraint_alike : (p : ℕ) (g : Tree) (o : Option (Expr Name)) (cs : List (Combined ℕ))
        → constraint_kept eqb (number_meant rd xs) (own_number rd xs) x (constraint_of p g) o cs ≡ constraint_kept eqb (number_meant rd xs) (own_number rd xs) (schema_named x.name.bytes) (constraint_of p g) o cs
    unfolding constraint_kept
    constraint_alike p g none cs = refl
    constraint_alike p g (some r) cs = rw (exprs r, means_alike (constraint_of p g).entity, scope_named x.name.bytes) refl

    supers_alike : (own : ℕ) (ns : List Name) (cs : List (Combined ℕ)) → through (super_kept rd xs (scope_in x) own) ns cs ≡ through (super_kept rd xs (schema_scope x.name.bytes) own) ns cs
    unfolding through super_kept
    supers_alike own [] cs = refl
    supers_alike own (n ∷ ns) cs = rw (means_alike n) (by (number_meant rd xs (schema_scope x.name.bytes) n) (λ ds. supers_alike own ns ds))
      where
        by : (o : Answer ℕ) → ((ds : List (Combined ℕ)) → through (super_kept rd xs (scope_in x) own) ns ds ≡ through (super_kept rd xs (schema_scope x.name.bytes) own) ns ds) → ((o >>= λ p. done (behind cs p (reference own))) >>= λ h. through (super_kept rd xs (scope_in x) own) ns h) ≡ ((o >>= λ p. done (behind cs p (reference own))) >>= λ h. through (super_kept rd xs (schema_scope x.name.bytes) own) ns h)
        by (done p) i = i (behind cs p (reference own))
        by (refused n p) i = refl

    item_alike : (k : Step) (p : ℕ) (g : Tree) (cs : List (Combined ℕ)) → item_kept rd xs k x p g cs ≡ item_kept rd xs k (schema_named x.name.bytes) p g cs
    unfolding item_kept
    item_alike Rules p g cs = rule_alike p g (rule_of rd (mark_of g)) cs
    item_alike Constraints p g cs = constraint_alike p g (expr_of g) cs
    item_alike Subtypes p g cs = supers_alike (own_number rd xs x (entity_of p g)) (supers_of (supertypes_of g)) cs ∙ rw (own_alike (entity_of p g), scope_named x.name.bytes) refl

-- ---- field by field

module _ {A G : Type 0} (u : ℕ) (read : ℕ → Tree → A) (f : A → G → Answer G) (f' : ℕ × Tree → G → Answer G) (h : (p : ℕ) (g : Tree) (k : G) → f (read p g) k ≡ f' (p, g) k) where
  through_each : (T : Tree) (k : G) → through f (each u read T) k ≡ through f' (each u itself T) k
  unfolding through each itself
  through_each nil k = refl
  through_each (leaf t p v x) k = through_each x k
  through_each (node t p g x) k = by (eqb t u) (λ j. through_each x j)
    where
      one : ((j : G) → through f (each u read x) j ≡ through f' (each u itself x) j) → (o : Answer G) → (o >>= λ j. through f (each u read x) j) ≡ (o >>= λ j. through f' (each u itself x) j)
      one i (done j) = i j
      one i (refused n m) = refl

      by : (b : Bool) → ((j : G) → through f (each u read x) j ≡ through f' (each u itself x) j) → through f (cond b (read p g ∷ each u read x) (each u read x)) k ≡ through f' (cond b ((p, g) ∷ each u itself x) (each u itself x)) k
      by true i = ap (λ (o : Answer G). o >>= λ j. through f (each u read x) j) (h p g k) ∙ one i (f' (p, g) k)
      by false i = i k

module _ {A : Type 0} (u : ℕ) (read : ℕ → Tree → A) (c : A → ℕ) (c' : ℕ × Tree → ℕ) (h : (p : ℕ) (g : Tree) → c' (p, g) ≤ c (read p g)) where
  sum_each : (T : Tree) → sum c' (each u itself T) ≤ sum c (each u read T)
  unfolding sum each itself
  sum_each nil = le_refl 0
  sum_each (leaf t p v x) = sum_each x
  sum_each (node t p g x) = by (eqb t u) (sum_each x)
    where
      by : (b : Bool) → sum c' (each u itself x) ≤ sum c (each u read x) → sum c' (cond b ((p, g) ∷ each u itself x) (each u itself x)) ≤ sum c (cond b (read p g ∷ each u read x) (each u read x))
      by true i = omega (arith, h p g)
      by false i = i

  highest_each : (T : Tree) → highest c' (each u itself T) ≤ highest c (each u read T)
  unfolding highest each itself
  highest_each nil = le_refl 0
  highest_each (leaf t p v x) = highest_each x
  highest_each (node t p g x) = by (eqb t u) (highest_each x)
    where
      by : (b : Bool) → highest c' (each u itself x) ≤ highest c (each u read x) → highest c' (cond b ((p, g) ∷ each u itself x) (each u itself x)) ≤ highest c (cond b (read p g ∷ each u read x) (each u read x))
      by true i = omega (arith, h p g)
      by false i = i

-- ---- the passes are the steps

module _ (rd : Reading) (xs : List Schema) where
  pub all_rules : (T : Tree) (cs : List (Combined ℕ)) → through (rules_kept eqb (number_meant rd xs) (own_number rd xs) rd) (schemas_of T) cs ≡ all_kept rd xs Rules T cs
  unfolding schemas_of rules_kept schema_of item_kept entity_of
  all_rules T cs =
      through_each 0x01 schema_of (rules_kept eqb (number_meant rd xs) (own_number rd xs) rd) _
      (λ p g k. through_each 0x30 entity_of (λ e. rule_kept eqb (number_meant rd xs) (own_number rd xs) (schema_of p g) e (rule_of rd e.mark)) _ (λ q h j. item_alike rd xs (schema_of p g) Rules q h j) g k) T cs

  pub all_constraints : (T : Tree) (cs : List (Combined ℕ)) → through (constraints_kept eqb (number_meant rd xs) (own_number rd xs)) (schemas_of T) cs ≡ all_kept rd xs Constraints T cs
  unfolding schemas_of constraints_kept schema_of item_kept constraint_of
  all_constraints T cs =
      through_each 0x01 schema_of (constraints_kept eqb (number_meant rd xs) (own_number rd xs)) _
      (λ p g k. through_each 0x40 constraint_of (λ c. constraint_kept eqb (number_meant rd xs) (own_number rd xs) (schema_of p g) c c.expr) _ (λ q h j. item_alike rd xs (schema_of p g) Constraints q h j) g k) T cs

  unfoldable subs : Schema → List (Combined ℕ) → Answer (List (Combined ℕ))
  subs x cs = through (λ (e : Entity). through (super_kept rd xs (scope_in x) (own_number rd xs x e)) (supers_of e.supertypes)) x.entities cs

  all_subs : (T : Tree) (cs : List (Combined ℕ)) → through subs (schemas_of T) cs ≡ all_kept rd xs Subtypes T cs
  unfolding schemas_of schema_of item_kept entity_of subs
  all_subs T cs =
      through_each 0x01 schema_of subs _
      (λ p g k. through_each 0x30 entity_of (λ e. through (super_kept rd xs (scope_in (schema_of p g)) (own_number rd xs (schema_of p g) e)) (supers_of e.supertypes)) _ (λ q h j. item_alike rd xs (schema_of p g) Subtypes q h j) g k) T cs

  abbrev Any : List (Pair ℕ) → Type 0
  Any ps = Unit {0}

  paired_on : (cs : List (Combined ℕ)) (ys : List Schema) → Follows (λ (ps : List (Pair ℕ)). cs ++ map paired ps) Any (step_c eqb (number_meant rd xs) (own_number rd xs) ys []) (through subs ys (cs ++ map paired []))
  unfolding step_c behind subs subtype super_kept
  paired_on cs ys =
      follow_through _ subs ys (λ x m ps _. follow_through _ _ x.entities (λ e k qs _. follow_through _ _ (supers_of e.supertypes) (λ n i rs _. one x e n rs (number_meant rd xs (scope_in x) n)) qs tt) ps tt) [] tt
    where
      one : (x : Schema) (e : Entity) (n : Name) (rs : List (Pair ℕ)) (o : Answer ℕ)
          → Follows (λ (ps : List (Pair ℕ)). cs ++ map paired ps) Any (o >>= λ p. done (rs ++ (record { super = p; sub = own_number rd xs x e } ∷ []))) (o >>= λ p. done (behind (cs ++ map paired rs) p (reference (own_number rd xs x e))))
      one x e n rs (done p) = has tt (ap done (append_assoc cs (map paired rs) _ ∙ ap (λ (l : List (Combined ℕ)). cs ++ l) (map_last paired rs (record { super = p; sub = own_number rd xs x e }))))
      one x e n rs (refused m j) = has_not refl

  pub all_pairs : (T : Tree) (cs : List (Combined ℕ)) → all_kept rd xs Subtypes T cs ≡ mapped (λ ps. cs ++ map paired ps) (step_c eqb (number_meant rd xs) (own_number rd xs) (schemas_of T) [])
  all_pairs T cs = sym (all_subs T cs) ∙ ap (through subs (schemas_of T)) (sym (append-nil cs)) ∙ follow_mapped (paired_on cs (schemas_of T))

-- ---- and as large

pub rules_size_law : (T : Tree) → all_size Rules T ≤ sum rules_size (schemas_of T)
unfolding schemas_of rules_size schema_of all_size items_size item_size rule_size entity_of
rules_size_law T = sum_each 0x01 schema_of rules_size _ (λ p g. sum_each 0x30 entity_of rule_size _ (λ q h. le_refl _) g) T

pub constraints_size_law : (T : Tree) → all_size Constraints T ≤ sum constraints_size (schemas_of T)
unfolding schemas_of constraints_size schema_of all_size items_size item_size constraint_size constraint_of
constraints_size_law T = sum_each 0x01 schema_of constraints_size _ (λ p g. sum_each 0x40 constraint_of constraint_size _ (λ q h. le_refl _) g) T

pub supers_size_law : (T : Tree) → all_size Subtypes T ≤ sum supers_size (schemas_of T)
unfolding schemas_of supers_size schema_of all_size items_size item_size super_size entity_of
supers_size_law T = sum_each 0x01 schema_of supers_size _ (λ p g. sum_each 0x30 entity_of super_size _ (λ q h. le_refl _) g) T

items_level_law : (k : Step) (p : ℕ) (g : Tree) → items_level k g ≤ schema_level (schema_of p g)
unfolding schema_level schema_of items_level item_level rule_level constraint_level entity_of constraint_of
items_level_law Rules p g = omega (arith, highest_each 0x30 entity_of rule_level (λ i. item_level Rules i.1) (λ q h. le_refl _) g)
items_level_law Constraints p g = omega (arith, highest_each 0x40 constraint_of constraint_level (λ i. item_level Constraints i.1) (λ q h. le_refl _) g)
items_level_law Subtypes p g = omega (arith, highest_each 0x30 entity_of rule_level (λ i. item_level Subtypes i.1) (λ q h. (let z : 0 ≤ rule_level (entity_of q h) = omega arith in z)) g)

pub all_level_law : (k : Step) (T : Tree) → all_level k T ≤ highest schema_level (schemas_of T)
unfolding schemas_of all_level
all_level_law k T = highest_each 0x01 schema_of schema_level (λ i. items_level k i.1) (λ p g. items_level_law k p g) T
