-- What a name means by number, and what an entity itself is: `number_at` and `own_number`.
use mathlib.Core.Path.{◌≡◌, refl, sym, ap, ◌∙◌}
use mathlib.Core.List.{List}
use mathlib.Core.Bool.{true}
use mathlib.Core.Option.{Option, none, some}
use Prim.Native.Nat.{ℕ, ◌-◌}
use lib.ListN.{take, drop}
use borrow.Author.Tests.{eq-eqb}
use Rattle.std.specs.Prelude.{Some, None, Ok, Err, ok_or, unwrap_or}
use Rattle.std.specs.Prelude as prelude
use Rattle.refusal.specs.Told.{told}
use Rattle.refusal.specs.declared.Reason.TheVariants.{Undeclared}
use Rattle.refusal.specs.declared.Refusal.{Refusal}
use Rattle.grammar.specs.MeaningReading.{Reading}
use Rattle.schemas.specs.MeaningTree.{tree_at}
use Rattle.schemas.specs.MeaningSchemas.{Schema, name_of, entity_of}
use Rattle.scope.specs.MeaningScope.{steps_equal, same_path}
use Rattle.scope.specs.MeaningScope.ScopeType.{entity}
use Rattle.scope.proofs.Equality.{two, name_refl, scope_refl}
use Rattle.lookup.specs.MirrorLookup.{span_of, Lies}
use Rattle.lookup.specs.declared.Span.{Span}
use Rattle.lookup.proofs.Names.{span_bytes}
use Rattle.declarations.specs.MeaningNamespace.{Declaration, scope_in, item_of, path_in, answered, declaration_for, resolved}
use Rattle.declarations.specs.MirrorNamespace.{word_of, schema_scope, path_to, sought_of, then_for, meant_in}
use Rattle.declarations.proofs.Scopes.{declaration_same}
use Rattle.declarations.proofs.Proved.{resolved_declared}
use Rattle.records.specs.MeaningResolving.{path_for, own_path, number_in, number_for}
use Rattle.records.specs.MirrorRecords.{number_meant, own_number, word_at, schema_named}
use Rattle.records.proofs.Declaring.{in_at, path_declared}

-- what `meant` answers
module _ (rd : Reading) (xs : List Schema) (w s : List ℕ) (a b : ℕ) (r : prelude.Option ℕ) (e : r ≡ sought_of (meant_in rd xs w (take (b - a) (drop a s)))) where
  -- the number, or 6 at the name
  pub number_is : (why : Refusal) → why ≡ record { reason = Undeclared; place = a } → told (ok_or r why) ≡ number_meant rd xs (schema_scope w) (word_at s a b)
  unfolding sought_of meant_in then_for number_meant path_for answered word_at number_for number_in
  number_is why u = rw (e, u) (by (resolved rd xs (schema_scope w) (take (b - a) (drop a s))) refl)
    where
      by : (o : Option Declaration) → resolved rd xs (schema_scope w) (take (b - a) (drop a s)) ≡ o → told (ok_or (sought_of (then_for rd xs o)) (record { reason = Undeclared; place = a })) ≡ number_meant rd xs (schema_scope w) (word_at s a b)
      by none q = rw q refl
      by (some d) q =
          let P = path_declared rd xs d d.path (in_at _ d.number d (resolved_declared rd xs (schema_scope w) (take (b - a) (drop a s)) d q).1) refl in
          rw P.1 (rw q (rw P.1 refl))

pub ruleset meaning = (number_is)

-- what `first_in` answers for the name of an entity
module _ (rd : Reading) (xs : List Schema) (w s : List ℕ) (at e : ℕ) (h : Span) (i : h ≡ span_of (name_of (tree_at s at e))) (l : Lies s (name_of (tree_at s at e)))
    (r : prelude.Option ℕ) (q : r ≡ sought_of (declaration_for rd xs (path_to w entity (take (h.stop - h.start) (drop h.start s))))) where
  same_path_law : same_path rd (own_path (schema_named w) (entity_of 0 (tree_at s at e))) (path_to w entity (name_of (tree_at s at e)).bytes) ≡ true
  unfolding same_path steps_equal own_path path_in item_of scope_in schema_named path_to schema_scope word_of entity_of
  same_path_law = two (scope_refl rd (schema_scope w)) (two (eq-eqb 0 0 refl) (name_refl rd (name_of (tree_at s at e)).bytes))

  own_found : r ≡ sought_of (declaration_for rd xs (own_path (schema_named w) (entity_of 0 (tree_at s at e))))
  own_found = q ∙ ap (λ (b : List ℕ). sought_of (declaration_for rd xs (path_to w entity b))) (span_bytes s (name_of (tree_at s at e)) h i l) ∙ ap sought_of (sym (declaration_same rd xs _ _ same_path_law))

  pub own_is : unwrap_or r 0 ≡ own_number rd xs (schema_named w) (entity_of 0 (tree_at s at e))
  unfolding own_number number_for number_in sought_of
  own_is = rw own_found (by (declaration_for rd xs (own_path (schema_named w) (entity_of 0 (tree_at s at e)))))
    where
      by : (o : Option Declaration) → unwrap_or (sought_of o) 0 ≡ number_in o
      by none = refl
      by (some d) = refl

pub ruleset owning = (own_is)
