-- The names of the declaration with a number: where they stand in the sheet.
use mathlib.Core.Path.{◌≡◌, refl, sym, ap, ◌∙◌, subst}
use mathlib.Core.List.{List, []}
use mathlib.Core.Option.{Option}
use Prim.Native.Nat.{ℕ, ◌≤◌}
use native.Mathlib.Omega.{arith}
use lib.ListN.{length}
use Rattle.std.specs.Prelude.{Result, Ok, Err}
use Rattle.sheet.specs.MeaningName.{Name}
use Rattle.schemas.specs.MeaningTree.{tree_at}
use Rattle.schemas.specs.MeaningSchemas.{name_of, schema_of}
use Rattle.lookup.specs.MirrorLookup.{span_of, Lies}
use Rattle.lookup.specs.declared.Span.{Span}
use Rattle.lookup.proofs.Names.{span_order, span_in, span_bytes}
use Rattle.declarations.specs.MeaningNamespace.{schemas_in, Declaration, scope_in, path_in, declarations, outermost, schema_name, item_name}
use Rattle.standing.specs.MirrorDeclared.{Stands, StandsAt}
use Rattle.standing.specs.declared.Declared.{Declared}
use Rattle.standing.proofs.Standing.{item_named}
use Rattle.noting.specs.MeaningNames.{Names, names_at, names_of}
use Rattle.noting.specs.MirrorNoted.{Spells}

module _ (s : List ℕ) (index : ℕ) (o : Result Declared ℕ) (w : StandsAt s (declarations (schemas_in s)) index o) where
  abbrev its : Names
  its = names_of (schemas_in s) index

  module _ (m : ℕ) (g : o ≡ Err m) where
    none_there : its ≡ record { schema = []; item = [] }
    unfolding names_of names_at
    none_there = ap names_at (subst (StandsAt s (declarations (schemas_in s)) index) g w).0

    pub schema_empty : Spells s its.schema (record { start = 0; stop = 0 })
    schema_empty = rw none_there (record { order = omega arith; within = omega arith; there = refl })

    pub item_empty : Spells s its.item (record { start = 0; stop = 0 })
    item_empty = rw none_there (record { order = omega arith; within = omega arith; there = refl })

  module _ (d : Declared) (g : o ≡ Ok d) where
    it_stands : Stands s (declarations (schemas_in s)) index d.schema.start d.schema.stop d.tag d.item.start d.item.stop
    it_stands = subst (StandsAt s (declarations (schemas_in s)) index) g w

    pub schema_order : d.schema.start ≤ d.schema.stop
    schema_order = it_stands.schema_order

    pub schema_in : d.schema.stop ≤ length s
    schema_in = it_stands.schema_in

    pub item_order : d.item.start ≤ d.item.stop
    item_order = it_stands.order

    pub item_in : d.item.stop ≤ length s
    item_in = it_stands.inside

    schema_is : its.schema ≡ (name_of (tree_at s d.schema.start d.schema.stop)).bytes
    unfolding names_of names_at schema_name outermost path_in scope_in schema_of
    schema_is = ap (λ (e : Option Declaration). (names_at e).schema) it_stands.there ∙ ap (λ p. (schema_name p).bytes) it_stands.path_is

    item_is : its.item ≡ (name_of (tree_at s d.item.start d.item.stop)).bytes
    unfolding names_of names_at item_name path_in
    item_is =
        ap (λ (e : Option Declaration). (names_at e).item) it_stands.there ∙ ap (λ p. (item_name p).bytes) it_stands.path_is
        ∙ ap (λ (n : Name). n.bytes) (item_named d.tag it_stands.place (tree_at s d.item.start d.item.stop))

    module _ (v : Span) where
      pub schema_spelt : v ≡ span_of (name_of (tree_at s d.schema.start d.schema.stop)) → Lies s (name_of (tree_at s d.schema.start d.schema.stop)) → Spells s its.schema v
      schema_spelt k l = let n = name_of (tree_at s d.schema.start d.schema.stop) in record { order = span_order s n v k; within = span_in s n v k l; there = span_bytes s n v k l ∙ sym schema_is }

      pub item_spelt : v ≡ span_of (name_of (tree_at s d.item.start d.item.stop)) → Lies s (name_of (tree_at s d.item.start d.item.stop)) → Spells s its.item v
      item_spelt k l = let n = name_of (tree_at s d.item.start d.item.stop) in record { order = span_order s n v k; within = span_in s n v k l; there = span_bytes s n v k l ∙ sym item_is }

pub ruleset spelling = (schema_empty, item_empty, schema_order, schema_in, item_order, item_in, schema_spelt, item_spelt)
