-- What a name in a scope or a path leads to: the laws of `resolved_for`, `number_for` and `meant`.
use mathlib.Core.Path.{◌≡◌, refl, sym, ap, ◌∙◌, subst}
use mathlib.Core.List.{List, [], ◌∷◌, map}
use mathlib.Core.Option.{Option, none, some}
use mathlib.Core.Bool.{true}
use Prim.Native.Nat.{ℕ, zero, suc, ◌+◌, ◌-◌}
use native.Mathlib.Omega.{arith}
use borrow.Author.Tests.{eq-eqb, eqb-true}
use lib.Dec.{eqb}
use lib.ListN.{length, take, drop}
use Rattle.std.specs.Prelude as prelude
use Rattle.std.specs.Prelude.{Some, None, Result, Ok, Err}
use Rattle.std.specs.Result.{result_ok}
use Rattle.grammar.specs.MeaningReading.{Reading}
use Rattle.grammar.proofs.Choosing.{clash}
use Rattle.schemas.specs.MeaningTree.{Tree, tree_at}
use Rattle.schemas.specs.MeaningSchemas.{Schema, name_of, schema_of}
use Rattle.scope.specs.MeaningNames.{same_name}
use Rattle.scope.specs.MeaningScope.{ScopeType, Step, place_of, steps_equal, same_scope, same_path}
use Rattle.scope.specs.MeaningScope.ScopeType.{entity, schema, type}
use Rattle.scope.specs.Told.{told_kind, told_step, told_scope, told_path}
use Rattle.scope.specs.declared.ScopeType as code
use Rattle.scope.specs.declared.Rung.{Rung}
use Rattle.scope.specs.declared.Scope.{Scope}
use Rattle.scope.specs.declared.Path.{Path}
use Rattle.scope.proofs.Equality.{name_refl, two}
use Rattle.declarations.specs.MeaningNamespace.{schemas_in, Named, a_type, an_entity, Declaration, scope_in, item_of, declared_by, numbered, Entry, entries_from, declarations, first, or, last, declaration_for, items_of, seen, resolved}
use Rattle.declarations.specs.MeaningNamespace as meant
use Rattle.declarations.specs.MirrorNamespace.{word_of, schema_scope, path_to, sought_of, in_schema, in_kind, NumbersIn, entry_of, LastIs, namesakes, Alone, LastSchemaOf, then_for, meant_in}
use Rattle.declarations.specs.declared.LastSchema.{LastSchema}
use Rattle.declarations.proofs.Picking.{or_none, first_found, last_found}
use Rattle.declarations.proofs.Schemas.{named_so, among_types, among_entities, halves, found_there, types_means, entities_means, in_schema_means, one_scope, led_to, in_kind_means}
use Rattle.declarations.proofs.Scopes.{declaration_same, seen_same}
use Rattle.declarations.proofs.Walks.{so_named, found_at, lost_at}
use Rattle.resolving.proofs.Reaching.{Foreign, foreign_root, foreign_deep, foreign_other, nowhere, resolved_root, resolved_first, resolved_other}
use Rattle.resolving.proofs.Namesakes.{unnamed, sole}

-- ---- a number found

found_is : (v : Result ℕ ℕ) (m : Option Declaration) → result_ok v ≡ sought_of m → (j : ℕ) → v ≡ Ok j → Some j ≡ sought_of m
found_is v m e j f = found_at v m e j f none ∙ ap sought_of (or_none m)

-- ---- the last schema of a name, and so what is seen in its scope

module _ (rd : Reading) (s sc : List ℕ) (o : prelude.Option LastSchema) (H : LastSchemaOf rd s sc o) where
  abbrev lastly : Option Entry
  lastly = last (so_named rd sc) (entries_from 0 (schemas_in s))

  none_seen : o ≡ None → seen rd (schemas_in s) (schema_scope sc) ≡ []
  unfolding seen items_of
  none_seen e = ap items_of (subst (λ (i : prelude.Option LastSchema). LastIs s i lastly) e H.holds)

  module _ (l : LastSchema) (e : o ≡ Some l) where
    last_there : LastIs s (Some l) lastly
    last_there = subst (λ (i : prelude.Option LastSchema). LastIs s i lastly) e H.holds

    pub numbers_here : NumbersIn s l.numbers
    numbers_here = last_there.2

    abbrev inner : Tree
    inner = tree_at s l.numbers.start l.numbers.stop

    abbrev schema_place : ℕ
    schema_place = last_there.0

    abbrev x : Schema
    x = schema_of schema_place inner

    this_scope : same_scope rd (scope_in x) (schema_scope sc) ≡ true
    unfolding entry_of
    this_scope = (last_found (so_named rd sc) (entries_from 0 (schemas_in s)) (entry_of l.numbers.first x) last_there.1).1

    seen_last : seen rd (schemas_in s) (schema_scope sc) ≡ numbered x l.numbers.first (declared_by x)
    unfolding seen items_of entry_of
    seen_last = ap items_of last_there.1

    -- a search there
    searched : (w : List ℕ) → result_ok (in_schema rd w inner l.numbers.first) ≡ sought_of (first (named_so rd w) (seen rd (schemas_in s) (schema_scope sc)))
    searched w = in_schema_means rd w schema_place inner l.numbers.first ∙ sym (ap (λ (ds : List Declaration). sought_of (first (named_so rd w) ds)) seen_last)

    -- if there is no other, what is declared there is all that is declared in the scope
    module _ (only : l.alone ≡ true) (kind : ScopeType) (w : List ℕ) where
      declared_here : declaration_for rd (schemas_in s) (path_to sc kind w) ≡ first (led_to rd sc kind w) (numbered x l.numbers.first (declared_by x))
      unfolding declaration_for declarations entry_of
      declared_here =
          let k : l.alone ≡ eqb (namesakes rd sc (schemas_in s)) 1 = subst (Alone (namesakes rd sc (schemas_in s))) e H.only in
          sole rd sc kind w 0 (schemas_in s) (eqb-true (namesakes rd sc (schemas_in s)) 1 (sym k ∙ only)) (entry_of l.numbers.first x) last_there.1

      name_same : same_name rd (name_of inner).bytes sc ≡ true
      unfolding schema_of
      name_same = sym (one_scope rd x sc) ∙ this_scope

      kind_here : result_ok (in_kind rd kind w inner l.numbers.first) ≡ sought_of (declaration_for rd (schemas_in s) (path_to sc kind w))
      kind_here = in_kind_means rd sc kind w schema_place inner l.numbers.first name_same ∙ ap sought_of (sym declared_here)

-- ---- `first_in`

module _ (rd : Reading) (s sc : List ℕ) (o : prelude.Option LastSchema) (H : LastSchemaOf rd s sc o) (kind : ScopeType) (w : List ℕ) where
  pub first_nowhere : o ≡ None → (x : prelude.Option ℕ) → x ≡ None → x ≡ sought_of (declaration_for rd (schemas_in s) (path_to sc kind w))
  unfolding sought_of declaration_for declarations
  first_nowhere e x i = i ∙ sym (ap sought_of (unnamed rd sc kind w 0 (schemas_in s) (subst (λ (i : prelude.Option LastSchema). LastIs s i (lastly rd s sc o H)) e H.holds)))

  module _ (l : LastSchema) (e : o ≡ Some l) (only : l.alone ≡ true) (v : Result ℕ ℕ) (vv : v ≡ in_kind rd kind w (tree_at s l.numbers.start l.numbers.stop) l.numbers.first) where
    in_alone : (x : prelude.Option ℕ) → x ≡ result_ok v → x ≡ sought_of (declaration_for rd (schemas_in s) (path_to sc kind w))
    in_alone x q = q ∙ ap result_ok vv ∙ kind_here rd s sc o H l e only kind w

    first_there : (j : ℕ) → v ≡ Ok j → Some j ≡ sought_of (declaration_for rd (schemas_in s) (path_to sc kind w))
    first_there j g = found_is v (declaration_for rd (schemas_in s) (path_to sc kind w)) (ap result_ok vv ∙ kind_here rd s sc o H l e only kind w) j g

-- with its premises in an order in which each says of what the next one speaks
pub first_alone : (rd : Reading) (s sc : List ℕ) (kind : ScopeType) (w : List ℕ) (x : prelude.Option ℕ) (v : Result ℕ ℕ) → x ≡ result_ok v → (l : LastSchema) → v ≡ in_kind rd kind w (tree_at s l.numbers.start l.numbers.stop) l.numbers.first
    → (o : prelude.Option LastSchema) → o ≡ Some l → LastSchemaOf rd s sc o → l.alone ≡ true → x ≡ sought_of (declaration_for rd (schemas_in s) (path_to sc kind w))
first_alone rd s sc kind w x v q l vv o e H only = in_alone rd s sc o H kind w l e only v vv x q

pub ruleset firsts = (first_nowhere, first_alone, numbers_here)

-- ---- a step of the kind schema

schema_at : (k : code.ScopeType) → place_of (told_kind k) ≡ 7 → k ≡ code.TheVariants.Schema
schema_at code.TheVariants.Entity e = absurd (let z : ⊥ = omega arith in z)
schema_at code.TheVariants.Alias e = absurd (let z : ⊥ = omega arith in z)
schema_at code.TheVariants.Function e = absurd (let z : ⊥ = omega arith in z)
schema_at code.TheVariants.Procedure e = absurd (let z : ⊥ = omega arith in z)
schema_at code.TheVariants.Query e = absurd (let z : ⊥ = omega arith in z)
schema_at code.TheVariants.Repeat e = absurd (let z : ⊥ = omega arith in z)
schema_at code.TheVariants.Rule e = absurd (let z : ⊥ = omega arith in z)
schema_at code.TheVariants.Schema e = refl
schema_at code.TheVariants.SubType e = absurd (let z : ⊥ = omega arith in z)
schema_at code.TheVariants.«Type» e = absurd (let z : ⊥ = omega arith in z)

-- its scope
step_scope : (rd : Reading) (q : List ℕ) (x : Rung) → x.kind ≡ code.TheVariants.Schema → same_scope rd (told_step q x ∷ []) (schema_scope (take (x.stop - x.start) (drop x.start q))) ≡ true
unfolding same_scope steps_equal told_step schema_scope word_of
step_scope rd q x e = two (two (rw e refl) (name_refl rd (take (x.stop - x.start) (drop x.start q)))) refl

-- ---- `resolved_for`

take_on : {A : Type 0} (n : ℕ) (x : A) (l : List A) → (n ≡ 0 → ⊥) → take n (x ∷ l) ≡ x ∷ take (n - 1) l
take_on zero x l d = absurd (d refl)
take_on (suc n) x l d = let z : suc n - 1 ≡ n = omega arith in rw z refl

module _ (rd : Reading) (s q : List ℕ) (sc : Scope) (w : List ℕ) where
  pub resolve_root : sc.count ≡ 0 → None ≡ sought_of (resolved rd (schemas_in s) (told_scope q sc) w)
  unfolding told_scope sought_of
  resolve_root e = sym (rw e (ap sought_of (resolved_root rd (schemas_in s) w)))

  abbrev behind : List Step
  behind = take (sc.count - 1) (told_step q sc.two ∷ told_step q sc.three ∷ [])

  outer : (sc.count ≡ 0 → ⊥) → told_scope q sc ≡ told_step q sc.one ∷ behind
  unfolding told_scope
  outer d = take_on sc.count (told_step q sc.one) (told_step q sc.two ∷ told_step q sc.three ∷ []) d

  pub resolve_other : (sc.one.kind ≡ code.TheVariants.Schema → ⊥) → None ≡ sought_of (resolved rd (schemas_in s) (told_scope q sc) w)
  unfolding sought_of told_step
  resolve_other e = by sc.count refl
    where
      by : (n : ℕ) → sc.count ≡ n → None ≡ sought_of (resolved rd (schemas_in s) (told_scope q sc) w)
      by zero k = resolve_root k
      by (suc n) k =
          sym (ap sought_of (ap (λ sc'. resolved rd (schemas_in s) sc' w) (outer (λ z. let u : ⊥ = omega (arith, k, z) in u)) ∙ resolved_other rd (schemas_in s) w (told_step q sc.one) behind (λ z. e (schema_at sc.one.kind z))))

  module _ (e : sc.one.kind ≡ code.TheVariants.Schema) (d : sc.count ≡ 0 → ⊥) where
    abbrev bytes : List ℕ
    bytes = take (sc.one.stop - sc.one.start) (drop sc.one.start q)

    seen_there : resolved rd (schemas_in s) (told_scope q sc) w ≡ first (named_so rd w) (seen rd (schemas_in s) (schema_scope bytes))
    seen_there =
        ap (λ sc'. resolved rd (schemas_in s) sc' w) (outer d)
        ∙ resolved_first rd (schemas_in s) w (told_step q sc.one) behind
        ∙ ap (first (named_so rd w)) (seen_same rd (schemas_in s) (told_step q sc.one ∷ []) (schema_scope bytes) (step_scope rd q sc.one e))

    module _ (o : prelude.Option LastSchema) (H : LastSchemaOf rd s bytes o) where
      pub resolve_nowhere : o ≡ None → (x : prelude.Option ℕ) → x ≡ None → x ≡ sought_of (resolved rd (schemas_in s) (told_scope q sc) w)
      unfolding sought_of first
      resolve_nowhere z x k = k ∙ sym (ap sought_of (seen_there ∙ ap (first (named_so rd w)) (none_seen rd s bytes o H z)))

      in_last : (l : LastSchema) → o ≡ Some l → (v : Result ℕ ℕ) → v ≡ in_schema rd w (tree_at s l.numbers.start l.numbers.stop) l.numbers.first → (x : prelude.Option ℕ) → x ≡ result_ok v → x ≡ sought_of (resolved rd (schemas_in s) (told_scope q sc) w)
      in_last l z v vv x k = k ∙ ap result_ok vv ∙ searched rd s bytes o H l z w ∙ ap sought_of (sym seen_there)

-- in such an order too
pub resolve_found : (rd : Reading) (s q : List ℕ) (sc : Scope) (w : List ℕ) (x : prelude.Option ℕ) (v : Result ℕ ℕ) → x ≡ result_ok v → (l : LastSchema) → v ≡ in_schema rd w (tree_at s l.numbers.start l.numbers.stop) l.numbers.first
    → (o : prelude.Option LastSchema) → o ≡ Some l → LastSchemaOf rd s (take (sc.one.stop - sc.one.start) (drop sc.one.start q)) o → sc.one.kind ≡ code.TheVariants.Schema → (sc.count ≡ 0 → ⊥) → x ≡ sought_of (resolved rd (schemas_in s) (told_scope q sc) w)
resolve_found rd s q sc w x v k l vv o z H e d = in_last rd s q sc w e d o H l z v vv x k

pub ruleset reaching_names = (resolve_root, resolve_other, resolve_nowhere, resolve_found, numbers_here)

-- ---- `number_for`

not_one : (rd : Reading) (n : ℕ) (x y z : Step) → (n ≡ 1 → ⊥) → Foreign rd (take n (x ∷ y ∷ z ∷ []))
not_one rd zero x y z d = foreign_root rd
not_one rd (suc zero) x y z d = absurd (d refl)
not_one rd (suc (suc n)) x y z d = foreign_deep rd x y (take n (z ∷ []))

module _ (rd : Reading) (s q : List ℕ) (p : Path) where
  pub get_long : (p.scope.count ≡ 1 → ⊥) → None ≡ sought_of (declaration_for rd (schemas_in s) (told_path q p))
  unfolding sought_of told_path told_scope
  get_long d = sym (ap sought_of (nowhere rd (told_path q p) (not_one rd p.scope.count (told_step q p.scope.one) (told_step q p.scope.two) (told_step q p.scope.three) d) (schemas_in s)))

  module _ (c : p.scope.count ≡ 1) where
    one_step : told_scope q p.scope ≡ told_step q p.scope.one ∷ []
    unfolding told_scope
    one_step = rw c refl

    pub get_other : (p.scope.one.kind ≡ code.TheVariants.Schema → ⊥) → None ≡ sought_of (declaration_for rd (schemas_in s) (told_path q p))
    unfolding sought_of told_path told_step
    get_other d = sym (ap sought_of (nowhere rd (told_path q p) (rw one_step (foreign_other rd (told_step q p.scope.one) [] (λ z. d (schema_at p.scope.one.kind z)))) (schemas_in s)))

    abbrev scope_bytes : List ℕ
    scope_bytes = take (p.scope.one.stop - p.scope.one.start) (drop p.scope.one.start q)

    abbrev item_bytes : List ℕ
    item_bytes = take (p.item.stop - p.item.start) (drop p.item.start q)

    same_item : steps_equal rd (told_step q p.item) (record { kind = told_kind p.item.kind; name = word_of item_bytes }) ≡ true
    unfolding steps_equal told_step word_of
    same_item = two (eq-eqb (place_of (told_kind p.item.kind)) (place_of (told_kind p.item.kind)) refl) (name_refl rd item_bytes)

    same_there : p.scope.one.kind ≡ code.TheVariants.Schema → same_path rd (told_path q p) (path_to scope_bytes (told_kind p.item.kind) item_bytes) ≡ true
    unfolding same_path told_path path_to
    same_there e = let z : same_scope rd (told_scope q p.scope) (schema_scope scope_bytes) ≡ true = rw one_step (step_scope rd q p.scope.one e) in two z same_item

    pub get_there : p.scope.one.kind ≡ code.TheVariants.Schema → (r : prelude.Option ℕ) → r ≡ sought_of (declaration_for rd (schemas_in s) (path_to scope_bytes (told_kind p.item.kind) item_bytes)) → r ≡ sought_of (declaration_for rd (schemas_in s) (told_path q p))
    get_there e r h = h ∙ sym (ap sought_of (declaration_same rd (schemas_in s) (told_path q p) (path_to scope_bytes (told_kind p.item.kind) item_bytes) (same_there e)))

pub ruleset routing = (get_long, get_other, get_there)

-- ---- `meant`

some_of : (m : Option Declaration) (j : ℕ) → sought_of m ≡ Some j → (d : Declaration) × (m ≡ some d)
unfolding sought_of
some_of (some d) j e = (d, refl)
some_of none j e = clash (cc)

module _ (rd : Reading) (s sc w : List ℕ) (o : prelude.Option LastSchema) (H : LastSchemaOf rd s sc o) where
  seen_here : resolved rd (schemas_in s) (schema_scope sc) w ≡ first (named_so rd w) (seen rd (schemas_in s) (schema_scope sc))
  unfolding schema_scope
  seen_here = resolved_first rd (schemas_in s) w (record { kind = schema; name = word_of sc }) []

  pub meant_nowhere : o ≡ None → (x : prelude.Option ℕ) → x ≡ None → x ≡ sought_of (meant_in rd (schemas_in s) sc w)
  unfolding meant_in then_for sought_of first
  meant_nowhere z x i = i ∙ sym (ap (λ (m : Option Declaration). sought_of (then_for rd (schemas_in s) m)) (seen_here ∙ ap (first (named_so rd w)) (none_seen rd s sc o H z)))

  module _ (l : LastSchema) (z : o ≡ Some l) where
    abbrev place : ℕ
    place = schema_place rd s sc o H l z

    abbrev g : Tree
    g = tree_at s l.numbers.start l.numbers.stop

    abbrev n : ℕ
    n = l.numbers.first

    abbrev y : Schema
    y = schema_of place g

    parts : resolved rd (schemas_in s) (schema_scope sc) w ≡ or (among_types (named_so rd w) y n) (among_entities (named_so rd w) y n)
    parts = seen_here ∙ ap (first (named_so rd w)) (seen_last rd s sc o H l z) ∙ halves (named_so rd w) y n

    -- a declaration of the schema with the name has the path to it
    path_there : (m : Named) (d : Declaration) → d.path ≡ meant.path_in y m → named_so rd w d ≡ true → same_path rd d.path (path_to sc (item_of m).kind w) ≡ true
    unfolding same_path steps_equal meant.path_in path_to word_of
    path_there m d e f =
        let i : same_name rd (item_of m).name.bytes w ≡ true = rw e at f in
        rw e (two (this_scope rd s sc o H l z) (two (eq-eqb (place_of (item_of m).kind) (place_of (item_of m).kind) refl) i))

    module _ (v : Result ℕ ℕ) (vv : v ≡ in_kind rd type w g n) where
      among : result_ok v ≡ sought_of (among_types (named_so rd w) y n)
      unfolding in_kind
      among = ap result_ok vv ∙ sym (types_means rd w place g n)

      pub meant_type : (j : ℕ) → v ≡ Ok j → (r : prelude.Option ℕ) → r ≡ sought_of (declaration_for rd (schemas_in s) (path_to sc type w)) → r ≡ sought_of (meant_in rd (schemas_in s) sc w)
      unfolding meant_in then_for or item_of
      meant_type j f r h =
          let m = some_of (among_types (named_so rd w) y n) j (sym among ∙ ap result_ok f) in
          let u = first_found (named_so rd w) (numbered y n (map a_type y.types)) m.0 m.1 in
          let t = found_there a_type y n y.types m.0 u.0 in
          let p = path_there (a_type t.0) m.0 t.1 u.1 in
          h ∙ sym (ap sought_of (ap (then_for rd (schemas_in s)) (parts ∙ ap (λ (k : Option Declaration). or k (among_entities (named_so rd w) y n)) m.1) ∙ declaration_same rd (schemas_in s) m.0.path (path_to sc type w) p))

      pub meant_type_here : l.alone ≡ true → (j : ℕ) → v ≡ Ok j → Some j ≡ sought_of (meant_in rd (schemas_in s) sc w)
      meant_type_here only j f = meant_type j f (Some j) (first_there rd s sc o H type w l z only v vv j f)

      module _ (k : ℕ) (f : v ≡ Err k) (v2 : Result ℕ ℕ) (vv2 : v2 ≡ in_kind rd entity w g n) where
        no_types : among_types (named_so rd w) y n ≡ none
        no_types = lost_at v (among_types (named_so rd w) y n) among k f

        among_2 : result_ok v2 ≡ sought_of (among_entities (named_so rd w) y n)
        unfolding in_kind
        among_2 = ap result_ok vv2 ∙ sym (entities_means rd w place g n)

        only_entities : resolved rd (schemas_in s) (schema_scope sc) w ≡ among_entities (named_so rd w) y n
        unfolding or
        only_entities = parts ∙ ap (λ (i : Option Declaration). or i (among_entities (named_so rd w) y n)) no_types

        pub meant_none : (j : ℕ) → v2 ≡ Err j → None ≡ sought_of (meant_in rd (schemas_in s) sc w)
        unfolding meant_in then_for sought_of
        meant_none j e = sym (ap (λ (m : Option Declaration). sought_of (then_for rd (schemas_in s) m)) (only_entities ∙ lost_at v2 (among_entities (named_so rd w) y n) among_2 j e))

        pub meant_entity : (j : ℕ) → v2 ≡ Ok j → (r : prelude.Option ℕ) → r ≡ sought_of (declaration_for rd (schemas_in s) (path_to sc entity w)) → r ≡ sought_of (meant_in rd (schemas_in s) sc w)
        unfolding meant_in then_for item_of
        meant_entity j e r h =
            let m = some_of (among_entities (named_so rd w) y n) j (sym among_2 ∙ ap result_ok e) in
            let u = first_found (named_so rd w) (numbered y (n + length y.types) (map an_entity y.entities)) m.0 m.1 in
            let t = found_there an_entity y (n + length y.types) y.entities m.0 u.0 in
            let p = path_there (an_entity t.0) m.0 t.1 u.1 in
            h ∙ sym (ap sought_of (ap (then_for rd (schemas_in s)) (only_entities ∙ m.1) ∙ declaration_same rd (schemas_in s) m.0.path (path_to sc entity w) p))

        pub meant_entity_here : l.alone ≡ true → (j : ℕ) → v2 ≡ Ok j → Some j ≡ sought_of (meant_in rd (schemas_in s) sc w)
        meant_entity_here only j e = meant_entity j e (Some j) (first_there rd s sc o H entity w l z only v2 vv2 j e)

pub ruleset meaning_names = (meant_nowhere, meant_type, meant_type_here, meant_none, meant_entity, meant_entity_here, numbers_here)
