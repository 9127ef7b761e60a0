-- Where the declaration with a number stands.
use Rattle.std.specs.Prelude.{ℕ, ◌+◌, ◌≤◌, ◌≡◌, List, Result, Ok, Err, cond, length, eqb}
use Rattle.std.proofs.Math.Option.{none, some}
use Rattle.std.proofs.Math.ListN.{get_elem?}
use Rattle.schemas.specs.MeaningTree.{Tree, tree_at}
use Rattle.schemas.specs.MeaningSchemas.{type_of, entity_of, schema_of}
use Rattle.declarations.specs.MeaningNamespace.{Named, a_type, an_entity, path_in, Declaration, declared_by, numbered}
use Rattle.standing.specs.declared.Declared.{Declared}

-- what a field with the tag declares, 20 or 30, at this place and with these fields
unfoldable pub named_at : ℕ → ℕ → Tree → Named
named_at t p g = cond (eqb t 0x20) (a_type (type_of p g)) (an_entity (entity_of p g))

-- the tag of the field that declares it
unfoldable pub declaring_tag : Named → ℕ
declaring_tag (a_type t) = 0x20
declaring_tag (an_entity e) = 0x30

-- the i-th of these declarations is a schema's, of which the fields stand from x to y, and its own from a to b
pub record Stands (s : List ℕ) (ds : List Declaration) (i x y t a b : ℕ) : Type 0 where
  pub schema_place : ℕ
  pub place : ℕ
  pub it : Declaration
  pub there : get_elem? ds i ≡ some it
  pub named_is : it.named ≡ named_at t place (tree_at s a b)
  pub tag_is : t ≡ declaring_tag it.named
  pub path_is : it.path ≡ path_in (schema_of schema_place (tree_at s x y)) (named_at t place (tree_at s a b))
  pub schema_order : x ≤ y
  pub schema_in : y ≤ length s
  pub order : a ≤ b
  pub inside : b ≤ length s

-- or there are fewer declarations, by so many
abbrev pub StandsAt : List ℕ → List Declaration → ℕ → Result Declared ℕ → Type 0
StandsAt s ds i (Ok d) = Stands s ds i d.schema.start d.schema.stop d.tag d.item.start d.item.stop
StandsAt s ds i (Err m) = (get_elem? ds i ≡ none) × (i ≡ length ds + m)

-- the same among the declarations of one schema, whatever its place and its first number
abbrev pub InFields : List ℕ → (at end i : ℕ) → Result Declared ℕ → Type 0
InFields s at e i r = (p n : ℕ) → StandsAt s (numbered (schema_of p (tree_at s at e)) n (declared_by (schema_of p (tree_at s at e)))) i r
