-- What a path is, by its kind: the laws of `named` and `typed`.
use mathlib.Core.Path.{◌≡◌, refl, sym, ap, ◌∙◌, subst}
use mathlib.Core.List.{List}
use mathlib.Core.Bool.{Bool}
use Prim.Native.Nat.{ℕ, ◌-◌, ◌≤◌}
use lib.ListN.{length, get_elem?}
use Rattle.refusal.specs.MeaningAnswer.{Answer, done, refused, mapped}
use Rattle.std.specs.Prelude as prelude
use Rattle.std.specs.Prelude.{Some, None, Result, Ok, Err}
use Rattle.refusal.specs.Told.{told, number_of}
use Rattle.refusal.specs.declared.Refusal.{Refusal}
use Rattle.refusal.specs.declared.Reason.TheVariants.{NoDeclaration, NoType}
use Rattle.grammar.specs.MeaningReading.{Reading}
use Rattle.grammar.proofs.Choosing.{clash}
use Rattle.schemas.specs.MeaningSchemas.{Schema}
use Rattle.scope.specs.MeaningScope as meaning
use Rattle.scope.specs.MeaningScope.{ScopeType}
use Rattle.scope.specs.MeaningScope.ScopeType.{entity, type}
use Rattle.query.specs.MeaningQuery.{path_query}
use Rattle.scope.specs.Told.{told_kind, told_step, told_path}
use Rattle.scope.specs.Held.{path_in}
use Rattle.scope.specs.MirrorScope.{Spans}
use Rattle.scope.specs.declared.Path.{Path}
use Rattle.scope.specs.declared.ScopeType as kinds
use Rattle.scope.specs.declared.ScopeType.TheVariants as kind
use Rattle.query.specs.MirrorQuery.{asked_by}
use Rattle.namespace.proofs.Asking.{path_back, path_stands}
use Rattle.declarations.specs.MeaningNamespace.{schemas_in, declarations, declaration_for}
use Rattle.declarations.specs.MirrorNamespace.{sought_of}
use Rattle.constraints.specs.MeaningQuestions.{supertype_question}
use Rattle.named_types.specs.MeaningWalk.{Walks, is_enumeration}
use Rattle.named_types.specs.MirrorTypes.{walked_by}
use Rattle.named_types.proofs.Finding.{walks_nowhere, walks_there, enumerates_there}
use Rattle.named_types.proofs.Proved.{walks_on}
use Rattle.type_ref.specs.MeaningTypes.{an_entity_type, entity_at, type_at, by_kind}
use Rattle.type_ref.specs.Told.{told_type_ref}
use Rattle.type_ref.specs.MirrorCode.{GivenPath, NamedAs, TypedAs}
use Rattle.type_ref.specs.declared.TypeRef.{TypeRef}
use Rattle.type_ref.specs.declared.TypeRef.TheVariants.{Named, Entity, Refused}

-- ---- a type

module _ (rd : Reading) (s q : List ℕ) (x : Path) (v : prelude.Option ℕ) (vv : v ≡ sought_of (declaration_for rd (schemas_in s) (told_path q x))) where
  abbrev xs : List Schema
  xs = schemas_in s

  abbrev p : meaning.Path
  p = told_path q x

  pub named_none : v ≡ None → (why : Refusal) → why ≡ record { reason = NoDeclaration; place = 0 } → NamedAs rd (schemas_in s) q x (Refused why)
  unfolding told_type_ref type_at
  named_none e why k = record { walked = refused 7 0; walks = walks_nowhere rd xs p v vv e; is = tells; given = tt }
    where
      tells : told_type_ref q (Refused why) ≡ type_at rd xs p (refused 7 0)
      tells = rw k refl

  module _ (n m : ℕ) (e : v ≡ Some n) (j : m ≡ n) (k : Result Bool Refusal) (kk : told k ≡ walked_by rd (schemas_in s) (length (declarations (schemas_in s)) - 1) m) where
    there : v ≡ Some m
    there = e ∙ ap Some (sym j)

    walks : Walks rd xs p (told k)
    walks = walks_there rd xs p v vv m there k kk

    pub named_ends : (flag : Bool) → ((r : Reading) → flag ≡ is_enumeration r (schemas_in s) (get_elem? (declarations (schemas_in s)) m)) → (b : Bool) → k ≡ Ok b → NamedAs rd (schemas_in s) q x (Named (record { path = x; is_simple = b; is_enumerate = flag }))
    unfolding told_type_ref type_at
    named_ends flag f b z = record { walked = done b; walks = subst (Walks rd xs p) (ap told z) walks; is = tells; given = refl }
      where
        tells : told_type_ref q (Named (record { path = x; is_simple = b; is_enumerate = flag })) ≡ type_at rd xs p (done b)
        tells = rw (enumerates_there rd xs p v vv m there flag f) refl

    pub named_refused : (why : Refusal) → k ≡ Err why → NamedAs rd (schemas_in s) q x (Refused why)
    unfolding told_type_ref type_at
    named_refused why z = record { walked = refused (number_of why.reason) why.place; walks = subst (Walks rd xs p) (ap told z) walks; is = tells; given = tt }
      where
        tells : told_type_ref q (Refused why) ≡ type_at rd xs p (refused (number_of why.reason) why.place)
        tells = refl

pub ruleset naming = (named_none, named_ends, named_refused)

-- ---- by its kind

module _ (rd : Reading) (xs : List Schema) (p : meaning.Path) (w : Answer Bool) (k : ScopeType) where
  by_entity : k ≡ entity → by_kind rd xs p w k ≡ entity_at rd xs p
  unfolding by_kind
  by_entity e = rw e refl

  by_type : k ≡ type → by_kind rd xs p w k ≡ type_at rd xs p w
  unfolding by_kind
  by_type e = rw e refl

by_neither : (rd : Reading) (ds : List Schema) (p : meaning.Path) (w : Answer Bool) (k : kinds.ScopeType) → (k ≡ kind.Entity → ⊥) → (k ≡ kind.«Type» → ⊥) → by_kind rd ds p w (told_kind k) ≡ refused 14 0
unfolding by_kind
by_neither rd ds p w kind.Entity a b = absurd (a refl)
by_neither rd ds p w kind.Alias a b = refl
by_neither rd ds p w kind.Function a b = refl
by_neither rd ds p w kind.Procedure a b = refl
by_neither rd ds p w kind.Query a b = refl
by_neither rd ds p w kind.Repeat a b = refl
by_neither rd ds p w kind.Rule a b = refl
by_neither rd ds p w kind.Schema a b = refl
by_neither rd ds p w kind.SubType a b = refl
by_neither rd ds p w kind.«Type» a b = absurd (b refl)

module _ (q : List ℕ) (asked : Result Path Refusal) (h : asked ≡ asked_by path_in (path_query q)) where
  pub typed_lost : (rd : Reading) (s : List ℕ) (why : Refusal) → asked ≡ Err why → (b : Bool) (p : meaning.Path) → path_query q ≡ done p → TypedAs rd (schemas_in s) q b p (Refused why)
  unfolding asked_by
  typed_lost rd s why i b p e = let z : ◌≡◌ {A = Result Path Refusal} (Err why) (Ok (path_in p)) = sym i ∙ h ∙ ap (asked_by path_in) e in clash (cc)

  module _ (x : Path) (i : asked ≡ Ok x) where
    pub typed_stands : (s : List ℕ) → length s ≤ 65535 → (length s ≤ 65535) × Spans q x.scope.one × Spans q x.item
    typed_stands s n = let f = path_stands q asked h x (ap told i) in (n, f.0, f.1)

    module _ (p : meaning.Path) (e : path_query q ≡ done p) where
      path_is : x ≡ path_in p
      unfolding asked_by
      path_is = let z : ◌≡◌ {A = Result Path Refusal} (Ok x) (Ok (path_in p)) = sym i ∙ h ∙ ap (asked_by path_in) e in cc

      told_back : told_path q x ≡ p
      told_back = ap (told_path q) path_is ∙ path_back q p e

      kind_is : told_kind x.item.kind ≡ p.item.kind
      unfolding told_path told_step
      kind_is = ap (λ (z : meaning.Path). z.item.kind) told_back

    module _ (rd : Reading) (s : List ℕ) where
      pub typed_entity : x.item.kind ≡ kind.Entity → (b : Bool) (p : meaning.Path) → path_query q ≡ done p → TypedAs rd (schemas_in s) q b p (Entity (record { path = x; is_supertype = b }))
      unfolding told_type_ref entity_at
      typed_entity z b p e = let w = walks_on rd (schemas_in s) p in record { walked = w.0; walks = w.1; is = tells w.0; given = path_is p e }
        where
          tells : (w : Answer Bool) → supertype_question rd (schemas_in s) p ≡ done b → told_type_ref q (Entity (record { path = x; is_supertype = b })) ≡ by_kind rd (schemas_in s) p w p.item.kind
          tells w f =
              ap (λ (y : meaning.Path). done (an_entity_type (record { path = y; is_supertype = b }))) (told_back p e)
              ∙ sym (by_entity rd (schemas_in s) p w p.item.kind (sym (kind_is p e) ∙ ap told_kind z) ∙ ap (mapped (λ (c : Bool). an_entity_type (record { path = p; is_supertype = c }))) f)

      pub typed_named : x.item.kind ≡ kind.«Type» → (r : TypeRef) → NamedAs rd (schemas_in s) q x r → (b : Bool) (p : meaning.Path) → path_query q ≡ done p → TypedAs rd (schemas_in s) q b p r
      typed_named z r N b p e =
          record {
            walked = N.walked;
            walks = subst (λ (y : meaning.Path). Walks rd (schemas_in s) y N.walked) (told_back p e) N.walks;
            is = λ f. N.is ∙ ap (λ (y : meaning.Path). type_at rd (schemas_in s) y N.walked) (told_back p e) ∙ sym (by_type rd (schemas_in s) p N.walked p.item.kind (sym (kind_is p e) ∙ ap told_kind z));
            given = subst (λ (y : Path). GivenPath y r) (path_is p e) N.given;
          }

      pub typed_neither : (x.item.kind ≡ kind.Entity → ⊥) → (x.item.kind ≡ kind.«Type» → ⊥) → (why : Refusal) → why ≡ record { reason = NoType; place = 0 } → (b : Bool) (p : meaning.Path) → path_query q ≡ done p → TypedAs rd (schemas_in s) q b p (Refused why)
      unfolding told_type_ref
      typed_neither y z why j b p e =
          let w = walks_on rd (schemas_in s) p in
          record { walked = w.0; walks = w.1; is = λ f. rw j (sym (ap (by_kind rd (schemas_in s) p w.0) (sym (kind_is p e)) ∙ by_neither rd (schemas_in s) p w.0 x.item.kind y z)); given = tt }

pub ruleset typing = (typed_lost, typed_stands, typed_entity, typed_named, typed_neither)
