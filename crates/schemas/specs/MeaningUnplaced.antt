-- Schemas without their places: two that say the same are then equal.
use Rattle.std.specs.Prelude.{List, [], ◌∷◌}
use Rattle.std.proofs.Math.Option.{Option, none, some}
use Rattle.sheet.specs.MeaningName.{Name}
use Rattle.expression.specs.MeaningExpression.{Expr, Terms}
use Rattle.expression.specs.MeaningExpression.Expr.{reference, andor, «and», oneof}
use Rattle.expression.specs.MeaningExpression.Terms.{end, ◌then◌}
use Rattle.forest.specs.MeaningForest.{Forest}
use Rattle.forest.specs.MeaningForest.Forest.{nil as no_fields, leaf as plain, node as nested}
use Rattle.schemas.specs.MeaningTree.{Tree}
use Rattle.schemas.specs.MeaningTree.Tree.{nil, leaf, node}
use Rattle.schemas.specs.MeaningSchemas.{Body, TypeDecl, Mark, Entity, Constraint, Schema}
use Rattle.schemas.specs.MeaningSchemas.Body.{simple, enumeration, named, other}
use Rattle.schemas.specs.MeaningSchemas.Mark.{unmarked, rule, abstract_entity, abstract_supertype}

-- fields that stand nowhere, all of them at 0
abbrev pub nowhere : Forest → Tree
nowhere no_fields = nil
nowhere (plain t v f) = leaf t 0 v (nowhere f)
nowhere (nested t g f) = node t 0 (nowhere g) (nowhere f)

abbrev pub name0 : Name → Name
name0 x = record { at = 0; bytes = x.bytes }

abbrev pub map0 : {A : Type 0} → (A → A) → List A → List A
map0 f [] = []
map0 f (x ∷ xs) = f x ∷ map0 f xs

abbrev pub option0 : {A : Type 0} → (A → A) → Option A → Option A
option0 f none = none
option0 f (some x) = some (f x)

unfoldable mutual
  pub expr0 : Expr Name → Expr Name
  expr0 (reference x) = reference (name0 x)
  expr0 (andor t) = andor (terms0 t)
  expr0 («and» t) = «and» (terms0 t)
  expr0 (oneof t) = oneof (terms0 t)

  pub terms0 : Terms Name → Terms Name
  terms0 end = end
  terms0 (e then t) = expr0 e then terms0 t

abbrev pub body0 : Body → Body
body0 (simple k) = simple k
body0 enumeration = enumeration
body0 (named x) = named (name0 x)
body0 other = other

abbrev pub mark0 : Mark → Mark
mark0 unmarked = unmarked
mark0 (rule e) = rule (expr0 e)
mark0 abstract_entity = abstract_entity
mark0 (abstract_supertype o) = abstract_supertype (option0 expr0 o)

abbrev pub type0 : TypeDecl → TypeDecl
type0 x = record { place = 0; name = name0 x.name; body = body0 x.body }

abbrev pub entity0 : Entity → Entity
entity0 x = record { place = 0; name = name0 x.name; mark = mark0 x.mark; supertypes = option0 (map0 name0) x.supertypes }

abbrev pub constraint0 : Constraint → Constraint
constraint0 x = record { place = 0; entity = name0 x.entity; expr = option0 expr0 x.expr }

abbrev pub schema0 : Schema → Schema
schema0 x = record { place = 0; name = name0 x.name; types = map0 type0 x.types; entities = map0 entity0 x.entities; constraints = map0 constraint0 x.constraints }

abbrev pub unplaced : List Schema → List Schema
unplaced xs = map0 schema0 xs
