-- What stands at the declaration with a number: the laws of `step_from`.
use mathlib.Core.Path.{◌≡◌, refl, sym, ap, ◌∙◌, subst}
use mathlib.Core.List.{List}
use mathlib.Core.Bool.{Bool, true, false}
use mathlib.Core.Option.{Option, none, some}
use Prim.Native.Nat.{ℕ, ◌-◌, ◌≤◌}
use lib.Dec.{eqb}
use borrow.Author.Tests.{eq-eqb, ne_eqb}
use lib.ListN.{length, take, drop, get_elem?}
use Rattle.refusal.specs.MeaningAnswer.{Answer, done, refused, mapped}
use Rattle.refusal.specs.declared.Refusal.{Refusal}
use Rattle.grammar.specs.MeaningReading.{Reading}
use Rattle.grammar.proofs.Choosing.{clash}
use Rattle.schemas.specs.MeaningTree.{tree_at}
use Rattle.schemas.specs.MeaningSchemas.{Body, Schema, name_of, body_of, type_of, schema_of}
use Rattle.scope.specs.MeaningScope.{Scope}
use Rattle.lookup.specs.MirrorLookup.{span_of, Lies}
use Rattle.lookup.specs.declared.Span.{Span}
use Rattle.std.specs.Prelude as prelude
use Rattle.std.specs.Prelude.{Some, None, Result, Ok, Err, IsErrAnd}
use Rattle.std.specs.Option.{ok_or}
use Rattle.std.proofs.lemmas.Result.{err_from_is_err_and}
use Rattle.refusal.specs.declared.Reason.TheVariants.{NoDeclaration, Undeclared}
use Rattle.lookup.proofs.Names.{span_order, span_in, span_bytes}
use Rattle.declarations.specs.MeaningNamespace.{schemas_in, Declaration, Named, a_type, scope_in, path_in, declarations, answered, declaration_for, resolved}
use Rattle.declarations.specs.MirrorNamespace.{sought_of, then_for, meant_in}
use Rattle.standing.specs.MirrorDeclared.{named_at, Stands, StandsAt}
use Rattle.standing.specs.declared.Declared.{Declared}
use Rattle.declarations.proofs.Proved.{resolved_declared}
use Rattle.resolving.proofs.Reaching.{own_meant}
use Rattle.records.specs.MeaningResolving.{path_for, number_in, number_for}
use Rattle.records.proofs.Declaring.{in_at, path_declared}
use Rattle.named_types.specs.MeaningWalk.{goes, body_step, named_step, is_enumeration}
use Rattle.named_types.specs.MirrorTypes.{Turn, onto, turn_of, turn_from, turn_at}
use Rattle.named_types.specs.MirrorCode.{name_within, BodyIs, told_turn}
use Rattle.named_types.specs.declared.Body as body
use Rattle.named_types.specs.declared.Body.TheVariants as bodies
use Rattle.named_types.specs.declared.Step.{Step}
use Rattle.named_types.specs.declared.Step.TheVariants.{Ends, Goes}
use Rattle.named_types.proofs.Answered.{ok_or_some, ok_or_none}

-- ---- what a name means, by number

module _ (rd : Reading) (xs : List Schema) (sc : Scope) (place : ℕ) (w : List ℕ) where
  abbrev onward : Option Declaration → Answer Turn
  onward o = mapped (turn_of rd xs) (mapped goes (mapped (λ (d : Declaration). d.path) (answered 6 place o)))

  means : (n : ℕ) → Some n ≡ sought_of (then_for rd xs (resolved rd xs sc w)) → done (onto n) ≡ onward (resolved rd xs sc w)
  unfolding sought_of then_for answered turn_of number_for number_in
  means n e = by (resolved rd xs sc w) e
    where
      on : (m : Option Declaration) → Some n ≡ sought_of m → done (onto n) ≡ done (onto (number_in m))
      on none e = clash (cc)
      on (some d) e = let z : n ≡ d.number = cc in rw z refl

      by : (o : Option Declaration) → Some n ≡ sought_of (then_for rd xs o) → done (onto n) ≡ onward o
      by none e = clash (cc)
      by (some d) e = on (declaration_for rd xs d.path) e

  means_nothing : None ≡ sought_of (then_for rd xs (resolved rd xs sc w)) → refused 6 place ≡ onward (resolved rd xs sc w)
  unfolding sought_of then_for answered
  means_nothing e = by (resolved rd xs sc w) refl e
    where
      by : (o : Option Declaration) → resolved rd xs sc w ≡ o → None ≡ sought_of (then_for rd xs o) → refused 6 place ≡ onward o
      by none k e = refl
      by (some d) k e =
          let D = path_declared rd xs d d.path (in_at (declarations xs) d.number d (resolved_declared rd xs sc w d k).1) refl in
          let z : ◌≡◌ {A = prelude.Option ℕ} None (Some D.0.number) = e ∙ ap sought_of D.1 in
          clash (cc)

-- ---- from the declaration that stands there

module _ (s : List ℕ) (ds : List Declaration) (index : ℕ) (o : Result Declared ℕ) (w : StandsAt s ds index o) (d : Declared) (g : o ≡ Ok d) where
  it_stands : StandsAt s ds index (Ok d)
  it_stands = subst (StandsAt s ds index) g w

  pub its_schema_order : d.schema.start ≤ d.schema.stop
  its_schema_order = it_stands.schema_order

  pub its_schema_in : d.schema.stop ≤ length s
  its_schema_in = it_stands.schema_in

  pub its_order : d.item.start ≤ d.item.stop
  its_order = it_stands.order

  pub its_in : d.item.stop ≤ length s
  its_in = it_stands.inside

module _ (s : List ℕ) (x : Body) (v : body.Body) (u : BodyIs s x v) (n : Span) (e : v ≡ bodies.Named n) where
  its_name_law : BodyIs s x (bodies.Named n)
  its_name_law = subst (BodyIs s x) e u

  pub name_order : n.start ≤ n.stop
  name_order = its_name_law.1

  pub name_in : n.stop ≤ length s
  name_in = its_name_law.2

module _ (rd : Reading) (s : List ℕ) (index : ℕ) (o : Result Declared ℕ) (w : StandsAt s (declarations (schemas_in s)) index o) where
  pub turn_none : (m : ℕ) → o ≡ Err m → (why : Refusal) → why ≡ record { reason = NoDeclaration; place = 0 } → told_turn (Err why) ≡ turn_at rd (schemas_in s) index
  unfolding turn_at turn_from answered
  turn_none m e why k = rw (k, (subst (StandsAt s (declarations (schemas_in s)) index) e w).0) refl

  module _ (d : Declared) (g : o ≡ Ok d) where
    abbrev it : Stands s (declarations (schemas_in s)) index d.schema.start d.schema.stop d.tag d.item.start d.item.stop
    it = it_stands s (declarations (schemas_in s)) index o w d g

    abbrev schema : Schema
    schema = schema_of it.schema_place (tree_at s d.schema.start d.schema.stop)

    stepped : turn_at rd (schemas_in s) index ≡ mapped (turn_of rd (schemas_in s)) (named_step rd (schemas_in s) (scope_in schema) (named_at d.tag it.place (tree_at s d.item.start d.item.stop)))
    unfolding turn_at turn_from answered path_in
    stepped =
        ap (turn_from rd (schemas_in s)) it.there
        ∙ ap (λ (sc : Scope). mapped (turn_of rd (schemas_in s)) (named_step rd (schemas_in s) sc it.it.named)) (ap (λ (p : Rattle.scope.specs.MeaningScope.Path). p.scope) it.path_is)
        ∙ ap (λ (k : Named). mapped (turn_of rd (schemas_in s)) (named_step rd (schemas_in s) (scope_in schema) k)) it.named_is

    pub turn_entity : (d.tag ≡ 0x20 → ⊥) → told_turn (Ok (Ends false)) ≡ turn_at rd (schemas_in s) index
    unfolding named_at named_step turn_of
    turn_entity k = sym (stepped ∙ rw (ne_eqb d.tag 0x20 k) refl)

    module _ (k : d.tag ≡ 0x20) where
      typed : turn_at rd (schemas_in s) index ≡ mapped (turn_of rd (schemas_in s)) (body_step rd (schemas_in s) (scope_in schema) (body_of (tree_at s d.item.start d.item.stop)))
      unfolding named_at named_step type_of
      typed = stepped ∙ rw (eq-eqb d.tag 0x20 k) refl

      module _ (v : body.Body) (u : BodyIs s (body_of (tree_at s d.item.start d.item.stop)) v) where
        pub turn_simple : v ≡ bodies.Simple → told_turn (Ok (Ends true)) ≡ turn_at rd (schemas_in s) index
        unfolding turn_of body_step
        turn_simple e = let z = subst (BodyIs s (body_of (tree_at s d.item.start d.item.stop))) e u in sym (typed ∙ rw z.1 refl)

        pub turn_enumeration : v ≡ bodies.Enumeration → told_turn (Ok (Ends true)) ≡ turn_at rd (schemas_in s) index
        unfolding turn_of body_step
        turn_enumeration e = let z = subst (BodyIs s (body_of (tree_at s d.item.start d.item.stop))) e u in sym (typed ∙ rw z refl)

        pub turn_other : v ≡ bodies.Other → told_turn (Ok (Ends false)) ≡ turn_at rd (schemas_in s) index
        unfolding turn_of body_step
        turn_other e = let z = subst (BodyIs s (body_of (tree_at s d.item.start d.item.stop))) e u in sym (typed ∙ rw z refl)

        module _ (n : Span) (e : v ≡ bodies.Named n) where
          abbrev word : List ℕ
          word = take (n.stop - n.start) (drop n.start s)

          goes_on : turn_at rd (schemas_in s) index ≡ onward rd (schemas_in s) (scope_in schema) n.start word (resolved rd (schemas_in s) (scope_in schema) word)
          unfolding body_step path_for name_within
          goes_on = typed ∙ rw (its_name_law s (body_of (tree_at s d.item.start d.item.stop)) v u n e).0 refl

          module _ (h : Span) (i : h ≡ span_of (name_of (tree_at s d.schema.start d.schema.stop))) (l : Lies s (name_of (tree_at s d.schema.start d.schema.stop))) (m : prelude.Option ℕ) (j : m ≡ sought_of (meant_in rd (schemas_in s) (take (h.stop - h.start) (drop h.start s)) word)) where
            found : m ≡ sought_of (then_for rd (schemas_in s) (resolved rd (schemas_in s) (scope_in schema) word))
            unfolding schema_of
            found = j ∙ ap (λ (z : List ℕ). sought_of (meant_in rd (schemas_in s) z word)) (span_bytes s (name_of (tree_at s d.schema.start d.schema.stop)) h i l) ∙ sym (ap sought_of (own_meant rd (schemas_in s) schema word))

            pub turn_on : (to k : ℕ) (e : Refusal) → Ok to ≡ ok_or m e → k ≡ to → told_turn (Ok (Goes k)) ≡ turn_at rd (schemas_in s) index
            turn_on to k e q z = rw z (sym (goes_on ∙ sym (means rd (schemas_in s) (scope_in schema) n.start word to (sym (ok_or_some m e to q) ∙ found))))

            pub turn_unknown : (why e : Refusal) → Err why ≡ ok_or m e → e ≡ record { reason = Undeclared; place = n.start } → (t : Result Step Refusal) → IsErrAnd t (λ y. y ≡ why) → told_turn t ≡ turn_at rd (schemas_in s) index
            turn_unknown why e q z t k =
                let p = ok_or_none m e why q in
                let i = err_from_is_err_and t k in
                sym (goes_on ∙ sym (means_nothing rd (schemas_in s) (scope_in schema) n.start word (sym p.0 ∙ found)) ∙ rw (i.1, i.2, p.1, z) refl)

pub ruleset stepping = (turn_none, its_schema_order, its_schema_in, its_order, its_in, turn_entity, turn_simple, turn_enumeration, turn_other, name_order, name_in, turn_on, turn_unknown, span_order, span_in)

-- ---- whether it is an enumeration

module _ (s : List ℕ) (index : ℕ) (o : Result Declared ℕ) (w : StandsAt s (declarations (schemas_in s)) index o) where
  abbrev Enumerates : Bool → Type 0
  Enumerates b = (rd : Reading) → b ≡ is_enumeration rd (schemas_in s) (get_elem? (declarations (schemas_in s)) index)

  pub enumerates_none : (m : ℕ) → o ≡ Err m → Enumerates false
  unfolding is_enumeration
  enumerates_none m e rd = rw (subst (StandsAt s (declarations (schemas_in s)) index) e w).0 refl

  module _ (d : Declared) (g : o ≡ Ok d) where
    stands : Stands s (declarations (schemas_in s)) index d.schema.start d.schema.stop d.tag d.item.start d.item.stop
    stands = it_stands s (declarations (schemas_in s)) index o w d g

    pub enumerates_entity : (d.tag ≡ 0x20 → ⊥) → Enumerates (eqb d.tag 0x20)
    unfolding is_enumeration named_at
    enumerates_entity k rd = rw (stands.there, stands.named_is, ne_eqb d.tag 0x20 k) refl

    module _ (k : d.tag ≡ 0x20) (v : body.Body) (u : BodyIs s (body_of (tree_at s d.item.start d.item.stop)) v) where
      by_body : (c : Bool) → ((rd : Reading) → c ≡ is_enumeration rd (schemas_in s) (some (record { number = 0; path = stands.it.path; named = a_type (type_of 0 (tree_at s d.item.start d.item.stop)) }))) → Enumerates c
      unfolding is_enumeration named_at type_of
      by_body c f rd = rw (stands.there, stands.named_is, eq-eqb d.tag 0x20 k) (f rd)

      pub enumerates_enumeration : v ≡ bodies.Enumeration → Enumerates true
      unfolding is_enumeration type_of
      enumerates_enumeration e = by_body true (λ rd. (let z = subst (BodyIs s (body_of (tree_at s d.item.start d.item.stop))) e u in rw z refl))

      pub enumerates_other : (v ≡ bodies.Enumeration → ⊥) → Enumerates false
      unfolding is_enumeration type_of
      enumerates_other e = by_body false (λ rd. by rd v refl u)
        where
          by : (rd : Reading) (b : body.Body) → v ≡ b → BodyIs s (body_of (tree_at s d.item.start d.item.stop)) b → false ≡ is_enumeration rd (schemas_in s) (some (record { number = 0; path = stands.it.path; named = a_type (type_of 0 (tree_at s d.item.start d.item.stop)) }))
          by rd bodies.Simple i z = rw z.1 refl
          by rd bodies.Enumeration i z = absurd (e i)
          by rd (bodies.Named n) i z = rw z.0 refl
          by rd bodies.Other i z = rw z refl

pub ruleset enumerating = (enumerates_none, its_order, its_in, enumerates_entity, enumerates_enumeration, enumerates_other)
