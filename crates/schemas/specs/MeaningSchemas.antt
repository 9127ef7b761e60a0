-- The schemas of a sheet, as a person reads them. Nothing that stands in a sheet is lost here, whether the base uses it or not.
use Rattle.std.specs.Prelude.{ℕ, ◌+◌, List, [], ◌∷◌, cond, get_or, eqb}
use Rattle.std.proofs.Math.Option.{Option, none, some}
use Rattle.sheet.specs.MeaningName.{Name}
use Rattle.expression.specs.MeaningExpression.{Expr, Terms}
use Rattle.expression.specs.MeaningExpression.Expr.{reference, andor, «and», oneof}
use Rattle.expression.specs.MeaningExpression.Terms.{end, ◌then◌}
use Rattle.schemas.specs.MeaningTree.{Tree}
use Rattle.schemas.specs.MeaningTree.Tree.{nil, leaf, node}

-- ---- what a sheet declares. A place is that of the field

-- what a type is: "one of 21 to 24"
pub data Body : Type 0 where
  -- "21 simple: one byte 0 to 6"
  simple : ℕ → Body
  -- "22 enumeration"
  enumeration : Body
  -- "23 named: a name's bytes"
  named : Name → Body
  -- "24 any other type"
  other : Body

-- "20 type: one 10, then one of 21 to 24"
pub record TypeDecl : Type 0 where
  pub place : ℕ
  pub name : Name
  pub body : Body

-- what marks an entity: "at most one of 31, 32, 33"
pub data Mark : Type 0 where
  unmarked : Mark
  -- "31 supertype rule: one expression"
  rule : Expr Name → Mark
  -- "32 abstract entity"
  abstract_entity : Mark
  -- "33 abstract supertype: nothing or one expression"
  abstract_supertype : Option (Expr Name) → Mark

-- "30 entity: one 10, then at most one of 31, 32, 33, then at most one 34"; "34 SUBTYPE OF: any number of 10s", so that an empty 34 is not the same as none
pub record Entity : Type 0 where
  pub place : ℕ
  pub name : Name
  pub mark : Mark
  pub supertypes : Option (List Name)

-- "40 subtype constraint: one 10 (the entity), then nothing or one expression"
pub record Constraint : Type 0 where
  pub place : ℕ
  pub entity : Name
  pub expr : Option (Expr Name)

-- "01 schema: one 10, then any 20s, then any 30s, then any 40s"
pub record Schema : Type 0 where
  pub place : ℕ
  pub name : Name
  pub types : List TypeDecl
  pub entities : List Entity
  pub constraints : List Constraint

-- ---- the reading: total, by the tags; a field that has no business where it stands is passed over

-- the name in a field at this place: its bytes stand behind the header
unfoldable pub name_at : ℕ → List ℕ → Name
name_at p v = record { at = p + 3; bytes = v }

unfoldable pub no_name : Name
no_name = record { at = 0; bytes = [] }

-- the name that the fields begin with
unfoldable pub name_of : Tree → Name
name_of nil = no_name
name_of (leaf t p v f) = cond (eqb t 0x10) (name_at p v) no_name
name_of (node t p g f) = no_name

-- all their names
unfoldable pub names_of : Tree → List Name
names_of nil = []
names_of (leaf t p v f) = cond (eqb t 0x10) (name_at p v ∷ names_of f) (names_of f)
names_of (node t p g f) = names_of f

-- all their expressions
unfoldable pub terms_of : Tree → Terms Name
terms_of nil = end
terms_of (leaf t p v f) = cond (eqb t 0x50) (reference (name_at p v) then terms_of f) (terms_of f)
terms_of (node t p g f) =
    cond (eqb t 0x51) (andor (terms_of g) then terms_of f)
    (cond (eqb t 0x52) («and» (terms_of g) then terms_of f)
    (cond (eqb t 0x53) (oneof (terms_of g) then terms_of f) (terms_of f)))

unfoldable pub first_of : Terms Name → Option (Expr Name)
first_of end = none
first_of (e then t) = some e

-- the first of their expressions
unfoldable pub expr_of : Tree → Option (Expr Name)
expr_of f = first_of (terms_of f)

unfoldable pub body_of : Tree → Body
body_of nil = other
body_of (leaf t p v f) =
    cond (eqb t 0x21) (simple (get_or v 0 0)) (cond (eqb t 0x22) enumeration (cond (eqb t 0x23) (named (name_at p v)) (cond (eqb t 0x24) other (body_of f))))
body_of (node t p g f) = body_of f

unfoldable pub ruled : Option (Expr Name) → Mark
ruled none = unmarked
ruled (some e) = rule e

unfoldable pub mark_of : Tree → Mark
mark_of nil = unmarked
mark_of (leaf t p v f) = cond (eqb t 0x32) abstract_entity (mark_of f)
mark_of (node t p g f) = cond (eqb t 0x31) (ruled (expr_of g)) (cond (eqb t 0x33) (abstract_supertype (expr_of g)) (mark_of f))

unfoldable pub supertypes_of : Tree → Option (List Name)
supertypes_of nil = none
supertypes_of (leaf t p v f) = supertypes_of f
supertypes_of (node t p g f) = cond (eqb t 0x34) (some (names_of g)) (supertypes_of f)

-- a declaration at this place, from its fields
unfoldable pub type_of : ℕ → Tree → TypeDecl
type_of p g = record { place = p; name = name_of g; body = body_of g }

unfoldable pub entity_of : ℕ → Tree → Entity
entity_of p g = record { place = p; name = name_of g; mark = mark_of g; supertypes = supertypes_of g }

unfoldable pub constraint_of : ℕ → Tree → Constraint
constraint_of p g = record { place = p; entity = name_of g; expr = expr_of g }

-- all fields with the tag, each read from its place and its fields
unfoldable pub each : {A : Type 0} → ℕ → (ℕ → Tree → A) → Tree → List A
each u read nil = []
each u read (leaf t p v f) = each u read f
each u read (node t p g f) = cond (eqb t u) (read p g ∷ each u read f) (each u read f)

unfoldable pub schema_of : ℕ → Tree → Schema
schema_of p g = record { place = p; name = name_of g; types = each 0x20 type_of g; entities = each 0x30 entity_of g; constraints = each 0x40 constraint_of g }

unfoldable pub schemas_of : Tree → List Schema
schemas_of f = each 0x01 schema_of f
