-- Where the names of the declaration with an index stand, and so the questions of `as_path`.
use mathlib.Core.Path.{◌≡◌, refl, sym, ap, ◌∙◌, subst}
use mathlib.Core.List.{List, []}
use mathlib.Core.Option.{Option}
use mathlib.Core.Bool.{true}
use Prim.Native.Nat.{ℕ, ◌-◌, ◌≤◌}
use lib.ListN.{length, take, drop}
use Rattle.std.specs.Prelude.{Result, Ok, Err}
use Rattle.refusal.specs.MeaningAnswer.{Answer, done, refused, mapped}
use Rattle.refusal.specs.Told.{told_refusal, told}
use Rattle.refusal.specs.declared.Reason.TheVariants.{Malformed}
use Rattle.refusal.specs.declared.Refusal.{Refusal}
use Rattle.grammar.specs.MeaningReading.{Reading}
use Rattle.schemas.specs.MeaningTree.{tree_at}
use Rattle.schemas.specs.MeaningSchemas.{name_of, schema_of}
use Rattle.scope.specs.MeaningScope.{Path}
use Rattle.lookup.specs.MirrorLookup.{span_of, Lies}
use Rattle.lookup.specs.declared.Span.{Span}
use Rattle.lookup.proofs.Names.{span_order, span_in, span_bytes}
use Rattle.declarations.specs.MeaningNamespace.{schemas_in, Declaration, scope_in, path_in, declarations, answered, path_at, outermost, schema_name, item_name}
use Rattle.standing.specs.MirrorDeclared.{Stands, StandsAt}
use Rattle.standing.specs.declared.Declared.{Declared}
use Rattle.standing.proofs.Standing.{item_named}
use Rattle.namespace.specs.MeaningOrder.{Answers}
use Rattle.namespace.specs.Promises.{Asked, part_of, PromisePart, PromisePath}
use Rattle.namespace.specs.MirrorNames.{name_within, NameSpells, NameStands}
use Rattle.namespace.specs.declared.PathName.{PathName}
use Rattle.namespace.specs.declared.PathName.TheVariants.{Schema, Item}
use Rattle.namespace.proofs.Clearing.{refused_first, cleared_asked, cleared_own}

-- ---- `name_place`

module _ (rd : Reading) (s : List ℕ) (index : ℕ) (r : Result ℕ Refusal) (c : Answers rd s true (told {A = ℕ} (Ok index)) done (told r)) where
  pub place_refused : (which : PathName) (why : Refusal) → r ≡ Err why → (x : Result Span Refusal) → x ≡ Err why → NameStands rd s index which x
  unfolding Asked
  place_refused which why e x f = rw f (refused_first rd s true (done index) (told r) c (done index) (λ i. i) refl (path_at (schemas_in s)) _ why.place (ap told e))

  module _ (i : ℕ) (e : r ≡ Ok i) (o : Result Declared ℕ) (w : StandsAt s (declarations (schemas_in s)) index o) where
    own : (b : Answer Path) → b ≡ path_at (schemas_in s) index → Asked rd s index b
    unfolding Asked
    own b f =
        let z : i ≡ index = let y : done index ≡ done i = cleared_asked rd s true (done index) (told r) c i (ap told e) in cc in
        cleared_own rd s true (done index) (told r) c i (ap told e) (done index) (λ i. i) refl (path_at (schemas_in s)) b (f ∙ ap (path_at (schemas_in s)) (sym z))

    pub place_undeclared : (m : ℕ) → o ≡ Err m → (why : Refusal) → why ≡ record { reason = Malformed; place = 0 } → Asked rd s index (told_refusal why)
    unfolding path_at answered
    place_undeclared m g why k = rw k (own (refused 15 0) (sym (ap (λ (d : Option Declaration). mapped (λ (x : Declaration). x.path) (answered 15 0 d)) (subst (StandsAt s (declarations (schemas_in s)) index) g w).0)))

    module _ (d : Declared) (g : o ≡ Ok d) where
      it_stands : Stands s (declarations (schemas_in s)) index d.schema.start d.schema.stop d.tag d.item.start d.item.stop
      it_stands = subst (StandsAt s (declarations (schemas_in s)) index) g w

      pub schema_order : d.schema.start ≤ d.schema.stop
      schema_order = it_stands.schema_order

      pub schema_in : d.schema.stop ≤ length s
      schema_in = it_stands.schema_in

      pub item_order : d.item.start ≤ d.item.stop
      item_order = it_stands.order

      pub item_in : d.item.stop ≤ length s
      item_in = it_stands.inside

      path_of_law : Asked rd s index (done it_stands.it.path)
      unfolding path_at answered
      path_of_law = own (done it_stands.it.path) (sym (ap (λ (e : Option Declaration). mapped (λ (x : Declaration). x.path) (answered 15 0 e)) it_stands.there))

      module _ (which : PathName) (v : Span) where
        pub schema_placed : which ≡ Schema → v ≡ span_of (name_of (tree_at s d.schema.start d.schema.stop)) → Lies s (name_of (tree_at s d.schema.start d.schema.stop)) → NameStands rd s index which (Ok v)
        unfolding name_within schema_name outermost path_in scope_in schema_of
        schema_placed h k l =
            let z : name_within which it_stands.it.path ≡ name_of (tree_at s d.schema.start d.schema.stop) = rw h (ap (name_within Schema) it_stands.path_is) in
            record { path = it_stands.it.path; asked = path_of_law; spans = k ∙ ap span_of (sym z); lies = subst (Lies s) (sym z) l }

        pub item_placed : which ≡ Item → v ≡ span_of (name_of (tree_at s d.item.start d.item.stop)) → Lies s (name_of (tree_at s d.item.start d.item.stop)) → NameStands rd s index which (Ok v)
        unfolding name_within item_name path_in
        item_placed h k l =
            let z : name_within which it_stands.it.path ≡ name_of (tree_at s d.item.start d.item.stop) = rw h (ap (name_within Item) it_stands.path_is ∙ item_named d.tag it_stands.place (tree_at s d.item.start d.item.stop)) in
            record { path = it_stands.it.path; asked = path_of_law; spans = k ∙ ap span_of (sym z); lies = subst (Lies s) (sym z) l }

pub ruleset placing = (place_refused, place_undeclared, schema_order, schema_in, item_order, item_in, schema_placed, item_placed)

-- ---- the questions, by where the name stands

module _ (rd : Reading) (s : List ℕ) (index : ℕ) (which : PathName) (r : Result Span Refusal) (f : NameStands rd s index which r) where
  module _ (why : Refusal) (e : r ≡ Err why) where
    unasked : Asked rd s index (told_refusal why)
    unasked = subst (NameStands rd s index which) e f

    pub part_refused : PromisePart (name_within which) rd s index []
    unfolding PromisePart part_of
    part_refused = (told_refusal why, unasked, refl)

    pub path_refused : (x : Result (Unit {0}) Refusal) → x ≡ Err why → PromisePath rd s index x
    unfolding PromisePath
    path_refused x k = (told_refusal why, unasked, rw k refl)

  module _ (v : Span) (e : r ≡ Ok v) where
    spells : NameSpells rd s index which v
    spells = subst (NameStands rd s index which) e f

    pub name_order : v.start ≤ v.stop
    name_order = span_order s (name_within which spells.path) v spells.spans

    pub name_in : v.stop ≤ length s
    name_in = span_in s (name_within which spells.path) v spells.spans spells.lies

    pub path_declared : PromisePath rd s index (Ok tt)
    unfolding PromisePath
    path_declared = (done spells.path, spells.asked, refl)

    pub part_named : PromisePart (name_within which) rd s index (take (v.stop - v.start) (drop v.start s))
    unfolding PromisePart part_of
    part_named = (done spells.path, spells.asked, span_bytes s (name_within which spells.path) v spells.spans spells.lies)

pub ruleset telling = (part_refused, path_refused, name_order, name_in, path_declared, part_named)

-- the two names
pub schema_part : (rd : Reading) (s : List ℕ) (index : ℕ) (b : List ℕ) → PromisePart (name_within Schema) rd s index b → PromisePart schema_name rd s index b
unfolding name_within
schema_part rd s index b f = f

pub item_part : (rd : Reading) (s : List ℕ) (index : ℕ) (b : List ℕ) → PromisePart (name_within Item) rd s index b → PromisePart item_name rd s index b
unfolding name_within
item_part rd s index b f = f
