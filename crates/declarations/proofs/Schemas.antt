-- One schema: what its fields say, and what a search in it finds, by number.
use mathlib.Core.Path.{◌≡◌, refl, sym, ap, ap₂, ◌∙◌}
use mathlib.Core.List.{List, [], ◌∷◌, map}
use mathlib.Core.Option.{Option, none, some}
use mathlib.Core.Bool.{Bool, true, false, cond, ◌&&◌, and-false}
use Prim.Native.Nat.{ℕ, suc, ◌+◌, ◌-◌, ◌≤◌}
use native.Mathlib.Omega.{arith}
use native.Mathlib.Numerals.{add-one}
use borrow.Author.Tests.{ne_eqb, eqb-true, eqb-false}
use lib.Dec.{eqb}
use lib.ListN.{length, length-map}
use Rattle.std.specs.Prelude as prelude
use Rattle.std.specs.Prelude.{Some, None, Result, Ok, Err}
use Rattle.std.specs.Result.{result_ok}
use Rattle.complex_entity.specs.MeaningRising.{◌∈◌}
use Rattle.complex_entity.specs.MeaningRising.◌∈◌.{here, there}
use Rattle.grammar.specs.MeaningReading.{Reading}
use Rattle.sheet.specs.MeaningName.{Name}
use Rattle.schemas.specs.MeaningTree.{Tree, tree_at}
use Rattle.schemas.specs.MeaningSchemas.{TypeDecl, Entity, Schema, name_of, type_of, entity_of, each, schema_of}
use Rattle.scope.specs.MeaningNames.{same_name}
use Rattle.scope.specs.MeaningScope.{ScopeType, place_of, steps_equal, same_scope, same_path}
use Rattle.lookup.specs.MirrorLookup.{its_name, itself, look_in}
use Rattle.lookup.proofs.Fields.{each_map, each_length}
use Rattle.lookup.proofs.Few.{few}
use Rattle.declarations.specs.MeaningNamespace.{Named, a_type, an_entity, Declaration, scope_in, item_of, path_in, declared_by, numbered, first, or}
use Rattle.declarations.specs.MirrorNamespace.{word_of, schema_scope, path_to, sought_of, types_in, size_in, type_in, entity_in, or_sought, in_schema, in_kind}
use Rattle.declarations.proofs.Picking.{or_none, first_append}
use Rattle.declarations.proofs.Numbering.{numbered_append, length_declared}

-- ---- the fields and the schema that they are

abbrev type_name : TypeDecl → Name
type_name t = t.name

abbrev entity_name : Entity → Name
entity_name t = t.name

module _ (p : ℕ) (g : Tree) where
  type_names : map type_name (schema_of p g).types ≡ each 0x20 its_name g
  unfolding schema_of type_of its_name
  type_names = each_map type_name 0x20 type_of g

  entity_names : map entity_name (schema_of p g).entities ≡ each 0x30 its_name g
  unfolding schema_of entity_of its_name
  entity_names = each_map entity_name 0x30 entity_of g

  pub many_types : length (schema_of p g).types ≡ length (each 0x20 itself g)
  unfolding schema_of
  many_types = each_length 0x20 type_of itself g

  pub many_entities : length (schema_of p g).entities ≡ length (each 0x30 itself g)
  unfolding schema_of
  many_entities = each_length 0x30 entity_of itself g

  pub size_is : size_in g ≡ length (declared_by (schema_of p g))
  unfolding size_in types_in
  size_is = sym (length_declared (schema_of p g) ∙ ap₂ (λ (a b : ℕ). a + b) many_types many_entities)

pub size_few : (s : List ℕ) (at e : ℕ) → size_in (tree_at s at e) ≤ e - at
unfolding size_in types_in
size_few s at e = few s at e 0x20 0x30

-- ---- a search by name and one by a test on declarations

-- the first of two numbers
abbrev either_number : prelude.Option ℕ → prelude.Option ℕ → prelude.Option ℕ
either_number None o = o
either_number (Some k) o = Some k

number_or : (a b : Option Declaration) → sought_of (or a b) ≡ either_number (sought_of a) (sought_of b)
unfolding or sought_of
number_or none b = refl
number_or (some d) b = refl

number_none : (a : Option Declaration) → sought_of (or a none) ≡ sought_of a
number_none a = ap sought_of (or_none a)

abbrev pub declare : Schema → ℕ → Named → Declaration
declare x n d = record { number = n; path = path_in x d; named = d }

module _ (rd : Reading) (w : List ℕ) where
  -- where the test is that the name is equal
  looked : {A : Type 0} (t : Declaration → Bool) (x : Schema) (mk : A → Named) (name : A → Name) → ((n : ℕ) (a : A) → t (declare x n (mk a)) ≡ same_name rd (name a).bytes w)
      → (l : List A) (n : ℕ) → sought_of (first t (numbered x n (map mk l))) ≡ result_ok (look_in rd w (map name l) n)
  unfolding first numbered look_in sought_of
  looked t x mk name h [] n = refl
  looked t x mk name h (a ∷ l) n = rw (h n a, add-one n) (by (same_name rd (name a).bytes w) (looked t x mk name h l (suc n)))
    where
      by : (b : Bool) → sought_of (first t (numbered x (suc n) (map mk l))) ≡ result_ok (look_in rd w (map name l) (suc n)) → sought_of (cond b (some (declare x n (mk a))) (first t (numbered x (suc n) (map mk l)))) ≡ result_ok (cond b (Ok n) (look_in rd w (map name l) (suc n)))
      by true e = refl
      by false e = e

found_or : (a b : Result ℕ ℕ) → result_ok (or_sought a b) ≡ either_number (result_ok a) (result_ok b)
unfolding or_sought
found_or (Ok k) b = refl
found_or (Err k) b = refl

-- what is found there is one of those
pub found_there : {A : Type 0} (mk : A → Named) (x : Schema) (n : ℕ) (l : List A) (d : Declaration) → d ∈ numbered x n (map mk l) → (a : A) × (d.path ≡ path_in x (mk a))
unfolding numbered
found_there {A = A} mk x n [] d x'' = elim x'' [ ]
found_there mk x n (a ∷ l) d (here q) = (a, ap (λ (z : Declaration). z.path) q)
found_there mk x n (a ∷ l) d (there m) = found_there mk x (suc n) l d m

-- where none passes
module _ (t : Declaration → Bool) where
  pub numbered_none : (x : Schema) → ((n : ℕ) (d : Named) → t (declare x n d) ≡ false) → (n : ℕ) (ds : List Named) → first t (numbered x n ds) ≡ none
  unfolding first numbered
  numbered_none x h n [] = refl
  numbered_none x h n (d ∷ ds) = rw (h n d) (numbered_none x h (suc n) ds)

  map_none : {A : Type 0} (mk : A → Named) (x : Schema) → ((n : ℕ) (a : A) → t (declare x n (mk a)) ≡ false) → (n : ℕ) (l : List A) → first t (numbered x n (map mk l)) ≡ none
  unfolding first numbered
  map_none mk x h n [] = refl
  map_none mk x h n (a ∷ l) = rw (h n a) (map_none mk x h (suc n) l)

-- types and entities apart
module _ (t : Declaration → Bool) (x : Schema) (n : ℕ) where
  abbrev pub among_types : Option Declaration
  among_types = first t (numbered x n (map a_type x.types))

  abbrev pub among_entities : Option Declaration
  among_entities = first t (numbered x (n + length x.types) (map an_entity x.entities))

  pub halves : first t (numbered x n (declared_by x)) ≡ or among_types among_entities
  unfolding declared_by
  halves =
      ap (first t) (numbered_append x n (map a_type x.types) (map an_entity x.entities))
      ∙ first_append t (numbered x n (map a_type x.types)) (numbered x (n + length (map a_type x.types)) (map an_entity x.entities))
      ∙ ap (λ (k : ℕ). or among_types (first t (numbered x (n + k) (map an_entity x.entities)))) (length-map x.types a_type)

-- ---- the first equal name

module _ (rd : Reading) (w : List ℕ) where
  abbrev pub named_so : Declaration → Bool
  named_so d = same_name rd d.path.item.name.bytes w

  module _ (p : ℕ) (g : Tree) (n : ℕ) where
    abbrev that : Schema
    that = schema_of p g

    pub types_means : sought_of (among_types named_so that n) ≡ result_ok (type_in rd w g n)
    unfolding path_in item_of type_in
    types_means = looked rd w named_so that a_type type_name (λ m a. refl) that.types n ∙ ap (λ (l : List Name). result_ok (look_in rd w l n)) (type_names p g)

    pub entities_means : sought_of (among_entities named_so that n) ≡ result_ok (entity_in rd w g n)
    unfolding path_in item_of entity_in types_in
    entities_means =
        looked rd w named_so that an_entity entity_name (λ m a. refl) that.entities (n + length that.types)
        ∙ ap₂ (λ (l : List Name) (k : ℕ). result_ok (look_in rd w l (n + k))) (entity_names p g) (many_types p g)

    pub in_schema_means : result_ok (in_schema rd w g n) ≡ sought_of (first named_so (numbered that n (declared_by that)))
    unfolding in_schema
    in_schema_means =
        found_or (type_in rd w g n) (entity_in rd w g n)
        ∙ ap₂ either_number (sym types_means) (sym entities_means)
        ∙ sym (ap sought_of (halves named_so that n) ∙ number_or (among_types named_so that n) (among_entities named_so that n))

-- ---- the first equal path

pub one_scope : (rd : Reading) (x : Schema) (sc : List ℕ) → same_scope rd (scope_in x) (schema_scope sc) ≡ same_name rd x.name.bytes sc
unfolding same_scope steps_equal scope_in schema_scope word_of
one_scope rd x sc = by (same_name rd x.name.bytes sc)
  where
    by : (b : Bool) → b && true ≡ b
    by true = refl
    by false = refl

module _ (rd : Reading) (sc : List ℕ) (k : ScopeType) (w : List ℕ) where
  abbrev pub led_to : Declaration → Bool
  led_to d = same_path rd d.path (path_to sc k w)

  leads : (x : Schema) (d : Named) → same_path rd (path_in x d) (path_to sc k w) ≡ same_name rd x.name.bytes sc && (eqb (place_of (item_of d).kind) (place_of k) && same_name rd (item_of d).name.bytes w)
  unfolding same_path path_in path_to steps_equal word_of
  leads x d = ap (λ (b : Bool). b && (eqb (place_of (item_of d).kind) (place_of k) && same_name rd (item_of d).name.bytes w)) (one_scope rd x sc)

  -- in a schema with another name there is none
  pub other_schema : (x : Schema) (n : ℕ) → same_name rd x.name.bytes sc ≡ false → first led_to (numbered x n (declared_by x)) ≡ none
  other_schema x n e = numbered_none led_to x (λ m d. leads x d ∙ rw e refl) n (declared_by x)

  module _ (p : ℕ) (g : Tree) (n : ℕ) (same : same_name rd (name_of g).bytes sc ≡ true) where
    abbrev this : Schema
    this = schema_of p g

    this_same : same_name rd this.name.bytes sc ≡ true
    unfolding schema_of
    this_same = same

    no_types : (place_of k ≡ 9 → ⊥) → among_types led_to this n ≡ none
    unfolding item_of
    no_types d = map_none led_to a_type this (λ m a. leads this (a_type a) ∙ rw (ne_eqb 9 (place_of k) (λ e. d (sym e)), and-false (same_name rd this.name.bytes sc)) refl) n this.types

    no_entities : (place_of k ≡ 0 → ⊥) → among_entities led_to this n ≡ none
    unfolding item_of
    no_entities d = map_none led_to an_entity this (λ m a. leads this (an_entity a) ∙ rw (ne_eqb 0 (place_of k) (λ e. d (sym e)), and-false (same_name rd this.name.bytes sc)) refl) (n + length this.types) this.entities

    some_types : place_of k ≡ 9 → sought_of (among_types led_to this n) ≡ result_ok (type_in rd w g n)
    unfolding item_of type_in
    some_types e = looked rd w led_to this a_type type_name (λ m a. leads this (a_type a) ∙ rw (this_same, e) refl) this.types n ∙ ap (λ (l : List Name). result_ok (look_in rd w l n)) (type_names p g)

    some_entities : place_of k ≡ 0 → sought_of (among_entities led_to this n) ≡ result_ok (entity_in rd w g n)
    unfolding item_of entity_in types_in
    some_entities e =
        looked rd w led_to this an_entity entity_name (λ m a. leads this (an_entity a) ∙ rw (this_same, e) refl) this.entities (n + length this.types)
        ∙ ap₂ (λ (l : List Name) (k : ℕ). result_ok (look_in rd w l (n + k))) (entity_names p g) (many_types p g)

    pub in_kind_means : result_ok (in_kind rd k w g n) ≡ sought_of (first led_to (numbered this n (declared_by this)))
    unfolding in_kind or sought_of
    in_kind_means = nine (eqb (place_of k) 9) refl ∙ sym (ap sought_of (halves led_to this n))
      where
        nought : (c : Bool) → eqb (place_of k) 0 ≡ c → (place_of k ≡ 9 → ⊥) → result_ok (cond c (entity_in rd w g n) (Err 0)) ≡ sought_of (or (among_types led_to this n) (among_entities led_to this n))
        nought true e d = sym (rw (no_types d) (some_entities (eqb-true (place_of k) 0 e)))
        nought false e d = sym (rw (no_types d, no_entities (eqb-false (place_of k) 0 e)) refl)

        nine : (c : Bool) → eqb (place_of k) 9 ≡ c → result_ok (cond c (type_in rd w g n) (cond (eqb (place_of k) 0) (entity_in rd w g n) (Err 0))) ≡ sought_of (or (among_types led_to this n) (among_entities led_to this n))
        nine true e =
            let z = eqb-true (place_of k) 9 e in
            sym (rw (no_entities (λ u. omega (arith, z, u))) (number_none (among_types led_to this n) ∙ some_types z))
        nine false e = nought (eqb (place_of k) 0) refl (eqb-false (place_of k) 9 e)
