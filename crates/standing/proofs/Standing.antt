-- The declaration with a number: where it stands.
use mathlib.Core.Path.{◌≡◌, refl, sym, ap, ◌∙◌, subst}
use mathlib.Core.List.{List, ◌++◌, map}
use mathlib.Core.Option.{some}
use mathlib.Core.Bool.{Bool, true, false, cond}
use Prim.Native.Nat.{ℕ, ◌+◌, ◌≤◌}
use native.Mathlib.Omega.{arith}
use lib.Dec.{eqb}
use lib.ListN.{length, get_elem?, length-append, length-map}
use Rattle.std.specs.Prelude.{Option, Some, None, Result, Ok, Err}
use Rattle.sheet.specs.MirrorField.{field_at}
use Rattle.sheet.specs.declared.Field.{Field}
use Rattle.schemas.specs.MeaningTree.{Tree, tree_at, tree_of}
use Rattle.schemas.specs.MeaningSchemas.{Schema, name_of, type_of, entity_of, each, schema_of, schemas_of}
use Rattle.lookup.specs.MirrorLookup.{itself, Picks}
use Rattle.lookup.specs.declared.Span.{Span}
use Rattle.lookup.proofs.Fields.{each_map, field_in, nests_type, nests_entity}
use Rattle.declarations.specs.MeaningNamespace.{schemas_in, a_type, an_entity, Declaration, item_of, path_in, declared_by, numbered, entries_from, all_of, declarations}
use Rattle.standing.specs.MirrorDeclared.{named_at, declaring_tag, Stands, StandsAt, InFields}
use Rattle.standing.specs.declared.Declared.{Declared}
use Rattle.declarations.proofs.Picking.{nth_left, nth_right, nth_past, nth_map}
use Rattle.declarations.proofs.Numbering.{length_numbered, nth_numbered, length_declared}
use Rattle.declarations.proofs.Schemas.{many_types, many_entities}
use Rattle.declarations.proofs.Walks.{no_schemas, schema_here, no_schema_here}

-- ---- among the fields of one schema

-- a field by number, however it is read
read_at : {A : Type 0} (read : ℕ → Tree → A) (u : ℕ) (g : Tree) (k p : ℕ) (v : Tree) → get_elem? (each u itself g) k ≡ some (p, v) → get_elem? (each u read g) k ≡ some (read p v)
unfolding itself
read_at {A} read u g k p v e = ap (λ (l : List A). get_elem? l k) (sym (each_map (λ (z : ℕ × Tree). read z.0 z.1) u itself g)) ∙ nth_map (λ (z : ℕ × Tree). read z.0 z.1) (each u itself g) k (p, v) e

module _ (s : List ℕ) (at e k : ℕ) (i : at ≤ e) (j : e ≤ length s) where
  -- the k-th that the schema declares stands there
  stands : (p n t q a b : ℕ) → get_elem? (declared_by (schema_of p (tree_at s at e))) k ≡ some (named_at t q (tree_at s a b)) → t ≡ declaring_tag (named_at t q (tree_at s a b)) → a ≤ b → b ≤ length s
      → Stands s (numbered (schema_of p (tree_at s at e)) n (declared_by (schema_of p (tree_at s at e)))) k at e t a b
  stands p n t q a b h z x y =
      record {
        schema_place = p;
        place = q;
        it = record { number = n + k; path = path_in (schema_of p (tree_at s at e)) (named_at t q (tree_at s a b)); named = named_at t q (tree_at s a b) };
        there = nth_numbered (schema_of p (tree_at s at e)) n (declared_by (schema_of p (tree_at s at e))) k (named_at t q (tree_at s a b)) h;
        named_is = refl;
        tag_is = z;
        path_is = refl;
        schema_order = i;
        schema_in = j;
        order = x;
        inside = y;
      }

  module _ (o : Result Span ℕ) (w : Picks s (each 0x20 itself (tree_at s at e)) k o) where
    pub fields_type : (v : Span) → o ≡ Ok v → InFields s at e k (Ok (record { schema = record { start = at; stop = e }; tag = 0x20; item = v }))
    unfolding declared_by named_at declaring_tag schema_of
    fields_type v g p n =
        let u : Picks s (each 0x20 itself (tree_at s at e)) k (Ok v) = rw g at w in
        let x = schema_of p (tree_at s at e) in
        stands p n 0x20 u.0 v.start v.stop (nth_left (map a_type x.types) (map an_entity x.entities) k (a_type (type_of u.0 (tree_at s v.start v.stop))) (nth_map a_type x.types k (type_of u.0 (tree_at s v.start v.stop)) (read_at type_of 0x20 (tree_at s at e) k u.0 (tree_at s v.start v.stop) u.1))) refl u.2 u.3

    module _ (m : ℕ) (g : o ≡ Err m) (o2 : Result Span ℕ) (w2 : Picks s (each 0x30 itself (tree_at s at e)) m o2) where
      behind_types : (p : ℕ) → k ≡ length (map a_type (schema_of p (tree_at s at e)).types) + m
      behind_types p =
          let u : Picks s (each 0x20 itself (tree_at s at e)) k (Err m) = rw g at w in
          let y = many_types p (tree_at s at e) in
          let z = length-map (schema_of p (tree_at s at e)).types a_type in
          omega (arith, u.1)

      pub fields_entity : (v : Span) → o2 ≡ Ok v → InFields s at e k (Ok (record { schema = record { start = at; stop = e }; tag = 0x30; item = v }))
      unfolding declared_by named_at declaring_tag schema_of
      fields_entity v h p n =
          let u : Picks s (each 0x30 itself (tree_at s at e)) m (Ok v) = rw h at w2 in
          let x = schema_of p (tree_at s at e) in
          stands p n 0x30 u.0 v.start v.stop (ap (get_elem? (map a_type x.types ++ map an_entity x.entities)) (behind_types p) ∙ nth_right (map a_type x.types) (map an_entity x.entities) m ∙ nth_map an_entity x.entities m (entity_of u.0 (tree_at s v.start v.stop)) (read_at entity_of 0x30 (tree_at s at e) m u.0 (tree_at s v.start v.stop) u.1)) refl u.2 u.3

      pub fields_past : (l : ℕ) → o2 ≡ Err l → InFields s at e k (Err l)
      fields_past l h p n =
          let u : Picks s (each 0x30 itself (tree_at s at e)) m (Err l) = rw h at w2 in
          let x = schema_of p (tree_at s at e) in
          let a = behind_types p in
          let b = length-map x.types a_type in
          let c = many_entities p (tree_at s at e) in
          let d = length_declared x in
          let f = length_numbered x n (declared_by x) in
          let y : k ≡ length (numbered x n (declared_by x)) + l = omega (arith, u.1) in
          (nth_past (numbered x n (declared_by x)) k (omega arith), y)

pub ruleset fielding = (fields_type, fields_entity, fields_past, nests_type, nests_entity)

-- ---- from schema to schema: what stands among the declarations left stands among them all

-- in another list, where it is found too
moved : (s : List ℕ) (ds es : List Declaration) (i j x y t a b : ℕ) → ((d : Declaration) → get_elem? ds i ≡ some d → get_elem? es j ≡ some d) → Stands s ds i x y t a b → Stands s es j x y t a b
moved s ds es i j x y t a b go f =
    record {
      schema_place = f.schema_place;
      place = f.place;
      it = f.it;
      there = go f.it f.there;
      named_is = f.named_is;
      tag_is = f.tag_is;
      path_is = f.path_is;
      schema_order = f.schema_order;
      schema_in = f.schema_in;
      order = f.order;
      inside = f.inside;
    }

stands_left : (s : List ℕ) (ds es : List Declaration) (i x y t a b : ℕ) → Stands s ds i x y t a b → Stands s (ds ++ es) i x y t a b
stands_left s ds es i x y t a b f = moved s ds (ds ++ es) i i x y t a b (λ d e. nth_left ds es i d e) f

stands_right : (s : List ℕ) (ds es : List Declaration) (i m : ℕ) → i ≡ length ds + m → (r : Result Declared ℕ) → StandsAt s es m r → StandsAt s (ds ++ es) i r
stands_right s ds es i m e (Ok d) f = moved s es (ds ++ es) m i d.schema.start d.schema.stop d.tag d.item.start d.item.stop (λ it k. ap (get_elem? (ds ++ es)) e ∙ nth_right ds es m ∙ k) f
stands_right s ds es i m e (Err n) f = (ap (get_elem? (ds ++ es)) e ∙ nth_right ds es m ∙ f.0, (let l = length-append ds es in omega (arith, f.1)))

pub record Going (s : List ℕ) (e left from i : ℕ) (all : List Declaration) : Type 0 where
  pub within : from ≤ e
  pub whole : e ≡ length s
  pub number : ℕ
  pub rest : (r : Result Declared ℕ) → StandsAt s (all_of (entries_from number (schemas_of (tree_at s from e)))) left r → StandsAt s all i r

pub go_start : (s : List ℕ) (i b : ℕ) → b ≡ 0 → Going s (length s) i b i (declarations (schemas_in s))
unfolding declarations schemas_in tree_of
go_start s i b z = rw z (record { within = omega arith; whole = refl; number = 0; rest = λ r p. p })

module _ (s : List ℕ) (e left from i : ℕ) (all : List Declaration) (f : Going s e left from i all) where
  pub go_end : e ≤ length s
  go_end = omega (arith, f.whole)

  module _ (h : Option Field) (y : h ≡ field_at s from e) where
    pub go_none : h ≡ None → StandsAt s all i (Err left)
    unfolding all_of entries_from
    go_none q = f.rest (Err left) (subst (λ (l : List Schema). StandsAt s (all_of (entries_from f.number l)) left (Err left)) (sym (no_schemas s from e h y q)) (refl, omega arith))

    module _ (fd : Field) (q : h ≡ Some fd) where
      pub go_there : fd.stop ≤ length s
      go_there = let z = field_in s from e h y fd q in omega (arith, f.whole)

      pub go_skip : (fd.tag ≡ 1 → ⊥) → (b : ℕ) → b ≡ fd.stop → Going s e left b i all
      go_skip d b z = rw z (record { within = field_in s from e h y fd q; whole = f.whole; number = f.number; rest = λ r p. f.rest r (subst (λ (l : List Schema). StandsAt s (all_of (entries_from f.number l)) left r) (sym (no_schema_here s from e h y fd q d)) p) })

      module _ (k : fd.tag ≡ 1) (o : Result Declared ℕ) (w : InFields s fd.start fd.stop left o) where
        abbrev x : Schema
        x = schema_of from (tree_at s fd.start fd.stop)

        abbrev next : ℕ
        next = f.number + length (declared_by x)

        goes : (r : Result Declared ℕ) → StandsAt s (numbered x f.number (declared_by x) ++ all_of (entries_from next (schemas_of (tree_at s fd.stop e)))) left r → StandsAt s all i r
        unfolding all_of entries_from
        goes r p = f.rest r (subst (λ (l : List Schema). StandsAt s (all_of (entries_from f.number l)) left r) (sym (schema_here s from e h y fd q k)) p)

        pub go_found : (d : Declared) → o ≡ Ok d → StandsAt s all i (Ok d)
        go_found d g = goes (Ok d) (stands_left s (numbered x f.number (declared_by x)) (all_of (entries_from next (schemas_of (tree_at s fd.stop e)))) left d.schema.start d.schema.stop d.tag d.item.start d.item.stop (subst (StandsAt s (numbered x f.number (declared_by x)) left) g (w from f.number)))

        pub go_next : (m : ℕ) → o ≡ Err m → (b : ℕ) → b ≡ fd.stop → Going s e m b i all
        go_next m g b z =
            let u : StandsAt s (numbered x f.number (declared_by x)) left (Err m) = subst (StandsAt s (numbered x f.number (declared_by x)) left) g (w from f.number) in
            rw z (record { within = field_in s from e h y fd q; whole = f.whole; number = next; rest = λ r p. goes r (stands_right s (numbered x f.number (declared_by x)) (all_of (entries_from next (schemas_of (tree_at s fd.stop e)))) left m u.1 r p) })

pub ruleset going = (go_start, go_end, go_none, go_there, go_skip, go_found, go_next)

-- its own name begins its fields
pub item_named : (t p : ℕ) (g : Tree) → (item_of (named_at t p g)).name ≡ name_of g
unfolding named_at item_of type_of entity_of
item_named t p g = by (eqb t 0x20)
  where
    by : (b : Bool) → (item_of (cond b (a_type (type_of p g)) (an_entity (entity_of p g)))).name ≡ name_of g
    by true = refl
    by false = refl
