-- The way back from schemas to the fields that say them: by the names' bytes, without the places.
use Rattle.std.specs.Prelude.{List, [], ◌∷◌, ℕ}
use Rattle.std.proofs.Math.Option.{Option, none, some}
use Rattle.sheet.specs.MeaningName.{Name}
use Rattle.expression.specs.MeaningExpression.{Expr, Terms}
use Rattle.expression.specs.MeaningExpression.Expr.{reference, andor, «and», oneof}
use Rattle.expression.specs.MeaningExpression.Terms.{end, ◌then◌}
use Rattle.forest.specs.MeaningForest.{Forest}
use Rattle.forest.specs.MeaningForest.Forest.{nil, leaf, node}
use Rattle.schemas.specs.MeaningSchemas.{Body, TypeDecl, Mark, Entity, Constraint, Schema}
use Rattle.schemas.specs.MeaningSchemas.Body.{simple, enumeration, named, other}
use Rattle.schemas.specs.MeaningSchemas.Mark.{unmarked, rule, abstract_entity, abstract_supertype}

-- ---- each with the fields that come after it

unfoldable pub name_then : Name → Forest → Forest
name_then x f = leaf 0x10 x.bytes f

unfoldable pub names_back : List Name → Forest
names_back [] = nil
names_back (x ∷ xs) = name_then x (names_back xs)

unfoldable mutual
  pub expr_then : Expr Name → Forest → Forest
  expr_then (reference x) f = leaf 0x50 x.bytes f
  expr_then (andor t) f = node 0x51 (terms_back t) f
  expr_then («and» t) f = node 0x52 (terms_back t) f
  expr_then (oneof t) f = node 0x53 (terms_back t) f

  pub terms_back : Terms Name → Forest
  terms_back end = nil
  terms_back (e then t) = expr_then e (terms_back t)

unfoldable pub expr_back : Option (Expr Name) → Forest
expr_back none = nil
expr_back (some e) = expr_then e nil

unfoldable pub body_encoded : Body → Forest
body_encoded (simple k) = leaf 0x21 (k ∷ []) nil
body_encoded enumeration = leaf 0x22 [] nil
body_encoded (named x) = leaf 0x23 x.bytes nil
body_encoded other = leaf 0x24 [] nil

unfoldable pub mark_then : Mark → Forest → Forest
mark_then unmarked f = f
mark_then (rule e) f = node 0x31 (expr_then e nil) f
mark_then abstract_entity f = leaf 0x32 [] f
mark_then (abstract_supertype o) f = node 0x33 (expr_back o) f

unfoldable pub supertypes_back : Option (List Name) → Forest
supertypes_back none = nil
-- a field 34 without names is a field
supertypes_back (some xs) = node 0x34 (names_back xs) nil

-- ---- the fields in a declaration

unfoldable pub type_back : TypeDecl → Forest
type_back x = name_then x.name (body_encoded x.body)

unfoldable pub entity_back : Entity → Forest
entity_back x = name_then x.name (mark_then x.mark (supertypes_back x.supertypes))

unfoldable pub constraint_back : Constraint → Forest
constraint_back x = name_then x.entity (expr_back x.expr)

-- fields with the tag, one for each, and those after them
unfoldable pub each_then : {A : Type 0} → ℕ → (A → Forest) → List A → Forest → Forest
each_then u back [] f = f
each_then u back (x ∷ xs) f = node u (back x) (each_then u back xs f)

unfoldable pub schema_back : Schema → Forest
schema_back x = name_then x.name (each_then 0x20 type_back x.types (each_then 0x30 entity_back x.entities (each_then 0x40 constraint_back x.constraints nil)))

unfoldable pub forest_of_schemas : List Schema → Forest
forest_of_schemas xs = each_then 0x01 schema_back xs nil
