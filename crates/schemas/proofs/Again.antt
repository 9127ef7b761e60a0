-- Back and there: what is read of the fields that the way back gives is what they were made of, but for the places.
use mathlib.Core.Path.{◌≡◌, refl, ap, ap₂, ◌∙◌}
use mathlib.Core.List.{List, [], ◌∷◌}
use mathlib.Core.Bool.{false}
use mathlib.Core.Option.{Option, none, some}
use Prim.Native.Nat.{ℕ}
use borrow.Author.Tests.{eq-eqb}
use lib.Dec.{eqb}
use Rattle.sheet.specs.MeaningName.{Name}
use Rattle.grammar.proofs.Choosing.{clash}
use Rattle.expression.specs.MeaningExpression.{Expr, Terms}
use Rattle.expression.specs.MeaningExpression.Expr.{reference, andor, «and», oneof}
use Rattle.expression.specs.MeaningExpression.Terms.{end, ◌then◌}
use Rattle.forest.specs.MeaningForest.{Forest}
use Rattle.forest.specs.MeaningForest.Forest.{nil as no_fields}
use Rattle.schemas.specs.MeaningTree.{Tree}
use Rattle.schemas.specs.MeaningSchemas.{Body, TypeDecl, Mark, Entity, Constraint, Schema, name_at, name_of, names_of, terms_of, first_of, expr_of, body_of, ruled, mark_of, supertypes_of, type_of, entity_of, constraint_of, each, schema_of, schemas_of}
use Rattle.schemas.specs.MeaningSchemas.Body.{simple, enumeration, named, other}
use Rattle.schemas.specs.MeaningSchemas.Mark.{unmarked, rule, abstract_entity, abstract_supertype}
use Rattle.schemas.specs.MeaningBack.{name_then, names_back, expr_then, terms_back, expr_back, body_encoded, mark_then, supertypes_back, type_back, entity_back, constraint_back, each_then, schema_back, forest_of_schemas}
use Rattle.schemas.specs.MeaningUnplaced.{nowhere, name0, map0, option0, expr0, terms0, body0, mark0, type0, entity0, constraint0, schema0, unplaced}

names_again : (xs : List Name) → map0 name0 (names_of (nowhere (names_back xs))) ≡ map0 name0 xs
unfolding names_of names_back name_then name_at
names_again [] = refl
names_again (x ∷ xs) = ap (λ (ys : List Name). name0 x ∷ ys) (names_again xs)

mutual
  unfolding terms_of terms_back terms0 name_at

  expr_again : (e : Expr Name) (f : Forest) → terms0 (terms_of (nowhere (expr_then e f))) ≡ expr0 e then terms0 (terms_of (nowhere f))
  expr_again (reference x) f = refl
  expr_again (andor t) f = ap (λ (u : Terms Name). andor u then terms0 (terms_of (nowhere f))) (terms_again t)
  expr_again («and» t) f = ap (λ (u : Terms Name). «and» u then terms0 (terms_of (nowhere f))) (terms_again t)
  expr_again (oneof t) f = ap (λ (u : Terms Name). oneof u then terms0 (terms_of (nowhere f))) (terms_again t)

  terms_again : (t : Terms Name) → terms0 (terms_of (nowhere (terms_back t))) ≡ terms0 t
  terms_again end = refl
  terms_again (e then t) = expr_again e (terms_back t) ∙ ap (λ (u : Terms Name). expr0 e then u) (terms_again t)

first0 : (t : Terms Name) → option0 expr0 (first_of t) ≡ first_of (terms0 t)
unfolding first_of terms0
first0 end = refl
first0 (e then t) = refl

option_again : (o : Option (Expr Name)) → option0 expr0 (expr_of (nowhere (expr_back o))) ≡ option0 expr0 o
unfolding expr_of expr_back first_of terms_of terms0
option_again none = refl
option_again (some e) = first0 (terms_of (nowhere (expr_then e no_fields))) ∙ ap first_of (expr_again e no_fields)

rule0 : (o : Option (Expr Name)) (e : Expr Name) → option0 expr0 o ≡ some (expr0 e) → mark0 (ruled o) ≡ rule (expr0 e)
unfolding ruled
rule0 none e q = clash (cc)
rule0 (some d) e q = ap (λ (o : Option (Expr Name)). ruled o) q

body_again : (b : Body) → body0 (body_of (nowhere (body_encoded b))) ≡ body0 b
unfolding body_of body_encoded name_at
body_again (simple k) = refl
body_again enumeration = refl
body_again (named x) = refl
body_again other = refl

supers_none : (o : Option (List Name)) → mark_of (nowhere (supertypes_back o)) ≡ unmarked
unfolding mark_of supertypes_back
supers_none none = refl
supers_none (some []) = refl
supers_none (some (x ∷ xs)) = refl

mark_again : (m : Mark) (o : Option (List Name)) → mark0 (mark_of (nowhere (mark_then m (supertypes_back o)))) ≡ mark0 m
unfolding mark_of mark_then expr_back
mark_again unmarked o = ap mark0 (supers_none o)
mark_again (rule e) o = rule0 (expr_of (nowhere (expr_then e no_fields))) e (option_again (some e))
mark_again abstract_entity o = refl
mark_again (abstract_supertype e) o = ap abstract_supertype (option_again e)

-- a field 34 without names is read as no names, not as no field
supers_only : (o : Option (List Name)) → option0 (map0 name0) (supertypes_of (nowhere (supertypes_back o))) ≡ option0 (map0 name0) o
unfolding supertypes_of supertypes_back names_of names_back
supers_only none = refl
supers_only (some []) = refl
supers_only (some (x ∷ xs)) = ap some (names_again (x ∷ xs))

supers_again : (m : Mark) (o : Option (List Name)) → option0 (map0 name0) (supertypes_of (nowhere (mark_then m (supertypes_back o)))) ≡ option0 (map0 name0) o
unfolding supertypes_of mark_then
supers_again unmarked o = supers_only o
supers_again (rule e) o = supers_only o
supers_again abstract_entity o = supers_only o
supers_again (abstract_supertype e) o = supers_only o

a_type : Name → Body → TypeDecl
a_type n b = record { place = 0; name = n; body = b }

an_entity : Name → Mark → Option (List Name) → Entity
an_entity n m o = record { place = 0; name = n; mark = m; supertypes = o }

a_constraint : Name → Option (Expr Name) → Constraint
a_constraint n o = record { place = 0; entity = n; expr = o }

a_schema : Name → List TypeDecl → List Entity → List Constraint → Schema
a_schema n ts es cs = record { place = 0; name = n; types = ts; entities = es; constraints = cs }

type_again : (x : TypeDecl) → type0 (type_of 0 (nowhere (type_back x))) ≡ type0 x
unfolding type_of type_back name_of body_of name_at name_then a_type
type_again x = ap (a_type (name0 x.name)) (body_again x.body)

entity_again : (x : Entity) → entity0 (entity_of 0 (nowhere (entity_back x))) ≡ entity0 x
unfolding entity_of entity_back name_of mark_of supertypes_of name_at name_then an_entity
entity_again x = ap₂ (an_entity (name0 x.name)) (mark_again x.mark x.supertypes) (supers_again x.mark x.supertypes)

constraint_again : (x : Constraint) → constraint0 (constraint_of 0 (nowhere (constraint_back x))) ≡ constraint0 x
unfolding constraint_of constraint_back name_of expr_of terms_of name_at name_then a_constraint
constraint_again x = ap (a_constraint (name0 x.entity)) (option_again x.expr)

-- fields with another tag are passed over; those with the tag are read one by one
passed : {A B : Type 0} (u w : ℕ) (read : ℕ → Tree → A) (back : B → Forest) → eqb w u ≡ false → (xs : List B) (f : Forest) → each u read (nowhere (each_then w back xs f)) ≡ each u read (nowhere f)
unfolding each each_then
passed u w read back q [] f = refl
passed u w read back q (x ∷ xs) f = rw q (passed u w read back q xs f)

taken : {A : Type 0} (z : A → A) (u : ℕ) (read : ℕ → Tree → A) (back : A → Forest) → ((x : A) → z (read 0 (nowhere (back x))) ≡ z x) → (xs : List A) (f : Forest) → each u read (nowhere f) ≡ [] → map0 z (each u read (nowhere (each_then u back xs f))) ≡ map0 z xs
unfolding each each_then
taken z u read back k [] f q = ap (map0 z) q
taken z u read back k (x ∷ xs) f q = rw (eq-eqb u u refl) (ap₂ ◌∷◌ (k x) (taken z u read back k xs f q))

schema_again : (x : Schema) → schema0 (schema_of 0 (nowhere (schema_back x))) ≡ schema0 x
unfolding schema_of schema_back name_of each name_at name_then a_schema
schema_again x =
    let c0 = each_then 0x40 constraint_back x.constraints no_fields in
    let e0 = each_then 0x30 entity_back x.entities c0 in
    let t1 : map0 type0 (each 0x20 type_of (nowhere (each_then 0x20 type_back x.types e0))) ≡ map0 type0 x.types
    = taken type0 0x20 type_of type_back type_again x.types e0 (passed 0x20 0x30 type_of entity_back refl x.entities c0 ∙ passed 0x20 0x40 type_of constraint_back refl x.constraints no_fields) in
    let e1 : map0 entity0 (each 0x30 entity_of (nowhere (each_then 0x20 type_back x.types e0))) ≡ map0 entity0 x.entities
    = ap (map0 entity0) (passed 0x30 0x20 entity_of type_back refl x.types e0) ∙ taken entity0 0x30 entity_of entity_back entity_again x.entities c0 (passed 0x30 0x40 entity_of constraint_back refl x.constraints no_fields) in
    let c1 : map0 constraint0 (each 0x40 constraint_of (nowhere (each_then 0x20 type_back x.types e0))) ≡ map0 constraint0 x.constraints
    = ap (map0 constraint0) (passed 0x40 0x20 constraint_of type_back refl x.types e0 ∙ passed 0x40 0x30 constraint_of entity_back refl x.entities c0) ∙ taken constraint0 0x40 constraint_of constraint_back constraint_again x.constraints no_fields refl in
    ap₂ (λ (ts : List TypeDecl) (es : List Entity). a_schema (name0 x.name) ts es (map0 constraint0 (each 0x40 constraint_of (nowhere (each_then 0x20 type_back x.types e0))))) t1 e1
    ∙ ap (a_schema (name0 x.name) (map0 type0 x.types) (map0 entity0 x.entities)) c1

pub whole_again : (xs : List Schema) → unplaced (schemas_of (nowhere (forest_of_schemas xs))) ≡ unplaced xs
unfolding schemas_of forest_of_schemas each
whole_again xs = taken schema0 0x01 schema_of schema_back schema_again xs no_fields refl
