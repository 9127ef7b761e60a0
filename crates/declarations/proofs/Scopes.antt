-- Scopes and paths: equal ones, and those that a schema and its declarations have.
use mathlib.Core.Path.{◌≡◌, refl, sym, ap, ◌∙◌}
use mathlib.Core.List.{List}
use mathlib.Core.Bool.{Bool, true, false}
use borrow.Author.Tests.{eq-eqb}
use Rattle.grammar.specs.MeaningReading.{Reading}
use Rattle.grammar.proofs.Choosing.{both}
use Rattle.schemas.specs.MeaningSchemas.{Schema}
use Rattle.scope.specs.MeaningScope.{place_of, Scope, Path, steps_equal, same_scope, same_path}
use Rattle.scope.proofs.Equality.{two, name_refl, step_refl, step_sym, step_trans, scope_refl, scope_sym, scope_trans}
use Rattle.declarations.specs.MeaningNamespace.{Named, scope_in, item_of, path_in, entries_from, declarations, declaration_for, items_of, seen}
use Rattle.declarations.specs.MirrorNamespace.{word_of, schema_scope, path_to}
use Rattle.declarations.proofs.Picking.{first_same, last_same}
use Rattle.declarations.proofs.Schemas.{one_scope}

-- ---- equal paths

alike : (a b : Bool) → (a ≡ true → b ≡ true) → (b ≡ true → a ≡ true) → a ≡ b
alike true b f g = sym (f refl)
alike false true f g = g refl
alike false false f g = refl

module _ (rd : Reading) where
  pub path_refl : (p : Path) → same_path rd p p ≡ true
  unfolding same_path
  path_refl p = two (scope_refl rd p.scope) (step_refl rd p.item)

  pub path_sym : (p q : Path) → same_path rd p q ≡ true → same_path rd q p ≡ true
  unfolding same_path
  path_sym p q e =
      let z = both (same_scope rd p.scope q.scope) (steps_equal rd p.item q.item) e in
      two (scope_sym rd p.scope q.scope z.0) (step_sym rd p.item q.item z.1)

  pub path_trans : (p q r : Path) → same_path rd p q ≡ true → same_path rd q r ≡ true → same_path rd p r ≡ true
  unfolding same_path
  path_trans p q r e f =
      let u = both (same_scope rd p.scope q.scope) (steps_equal rd p.item q.item) e in
      let v = both (same_scope rd q.scope r.scope) (steps_equal rd q.item r.item) f in
      two (scope_trans rd p.scope q.scope r.scope u.0 v.0) (step_trans rd p.item q.item r.item u.1 v.1)

  -- equal paths lead to the same declaration
  pub declaration_same : (xs : List Schema) (p q : Path) → same_path rd p q ≡ true → declaration_for rd xs p ≡ declaration_for rd xs q
  unfolding declaration_for
  declaration_same xs p q e =
      first_same (λ d. same_path rd d.path p) (λ d. same_path rd d.path q)
      (λ d. alike (same_path rd d.path p) (same_path rd d.path q) (λ u. path_trans d.path p q u e) (λ u. path_trans d.path q p u (path_sym p q e))) (declarations xs)

  -- the same is seen in equal scopes
  pub seen_same : (xs : List Schema) (a b : Scope) → same_scope rd a b ≡ true → seen rd xs a ≡ seen rd xs b
  unfolding seen
  seen_same xs a b e =
      ap items_of
      (last_same (λ z. same_scope rd z.scope a) (λ z. same_scope rd z.scope b)
      (λ z. alike (same_scope rd z.scope a) (same_scope rd z.scope b) (λ u. scope_trans rd z.scope a b u e) (λ u. scope_trans rd z.scope b a u (scope_sym rd a b e))) (entries_from 0 xs))

-- ---- a schema's own scope and its declarations' paths, by the bytes of their names alone

pub own_scope : (rd : Reading) (x : Schema) → same_scope rd (scope_in x) (schema_scope x.name.bytes) ≡ true
own_scope rd x = one_scope rd x x.name.bytes ∙ name_refl rd x.name.bytes

pub own_path_law : (rd : Reading) (x : Schema) (d : Named) → same_path rd (path_in x d) (path_to x.name.bytes (item_of d).kind (item_of d).name.bytes) ≡ true
unfolding same_path steps_equal path_in path_to word_of
own_path_law rd x d = two (own_scope rd x) (two (eq-eqb (place_of (item_of d).kind) (place_of (item_of d).kind) refl) (name_refl rd (item_of d).name.bytes))
