-- The names of a declaration, by its number.
use Rattle.std.specs.Prelude.{ℕ, List, []}
use Rattle.std.proofs.Math.Option.{Option, none, some}
use Rattle.std.proofs.Math.ListN.{get_elem?}
use Rattle.schemas.specs.MeaningSchemas.{Schema}
use Rattle.declarations.specs.MeaningNamespace.{Declaration, declarations, schema_name, item_name}

-- the schema's and the item's name of a declaration
pub record Names : Type 0 where
  pub schema : List ℕ
  pub item : List ℕ

unfoldable pub names_at : Option Declaration → Names
names_at none = record { schema = []; item = [] }
names_at (some d) = record { schema = (schema_name d.path).bytes; item = (item_name d.path).bytes }

module _ (xs : List Schema) where
  unfoldable pub names_of : ℕ → Names
  names_of i = names_at (get_elem? (declarations xs) i)
