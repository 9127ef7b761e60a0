-- How given schemas stand in given bytes, line by line of document 01's table: which field begins where, and where it ends. Nothing is read here.
-- Every field begins where the one before it ends or its parent's value begins, so marks and the field 34 have a place without naming it.
use Rattle.std.specs.Prelude.{ℕ, ◌+◌, ◌≡◌, List, [], ◌∷◌, length, take, drop}
use Rattle.std.proofs.Math.Option.{Option, none, some}
use Rattle.sheet.specs.MeaningName.{Name}
use Rattle.sheet.specs.MeaningSheet.{tag_of, end_of}
use Rattle.expression.specs.MeaningExpression.{Expr, Terms}
use Rattle.expression.specs.MeaningExpression.Expr.{reference, andor, «and», oneof}
use Rattle.expression.specs.MeaningExpression.Terms.{end, ◌then◌}
use Rattle.schemas.specs.MeaningSchemas.{Body, TypeDecl, Mark, Entity, Constraint, Schema}
use Rattle.schemas.specs.MeaningSchemas.Body.{simple, enumeration, named, other}
use Rattle.schemas.specs.MeaningSchemas.Mark.{unmarked, rule, abstract_entity, abstract_supertype}

-- what stands from one place to another
abbrev pub Span : Type 1
Span = ℕ → ℕ → Type 0

abbrev pub Nothing : Span
Nothing from to = from ≡ to

infixr 20 ◌and_then◌
abbrev pub ◌and_then◌ : Span → Span → Span
(P and_then Q) from to = (between : ℕ) × P from between × Q between to

-- one after the other
abbrev pub Row : {A : Type 0} → (A → Span) → List A → Span
Row P [] = Nothing
Row P (x ∷ xs) = P x and_then Row P xs

-- nothing or one
abbrev pub Perhaps : {A : Type 0} → (A → Span) → Option A → Span
Perhaps P none = Nothing
Perhaps P (some x) = P x

-- it begins at the place that is told
abbrev pub At : ℕ → Span → Span
At place P from to = (place ≡ from) × P from to

module _ (s : List ℕ) where
  abbrev pub Bytes : List ℕ → Span
  Bytes b from to = (take (length b) (drop from s) ≡ b) × (from + length b ≡ to)

  -- "A field is one tag byte, two length bytes (high byte first), then the value."
  abbrev pub Field : ℕ → Span → Span
  Field tag Value from to = (tag_of s from ≡ tag) × (end_of s from ≡ to) × Value (from + 3) to

  -- a field with a name: the name's place is that of its first byte
  abbrev pub Named : ℕ → Name → Span
  Named tag x = Field tag (At x.at (Bytes x.bytes))

  unfoldable mutual
    pub ExprStands : Expr Name → Span
    ExprStands (reference x) = Named 0x50 x
    ExprStands (andor t) = Field 0x51 (TermsStand t)
    ExprStands («and» t) = Field 0x52 (TermsStand t)
    ExprStands (oneof t) = Field 0x53 (TermsStand t)

    pub TermsStand : Terms Name → Span
    TermsStand end = Nothing
    TermsStand (e then t) = ExprStands e and_then TermsStand t

  abbrev pub BodyStands : Body → Span
  BodyStands (simple k) = Field 0x21 (Bytes (k ∷ []))
  BodyStands enumeration = Field 0x22 Nothing
  BodyStands (named x) = Named 0x23 x
  BodyStands other = Field 0x24 Nothing

  abbrev pub MarkStands : Mark → Span
  MarkStands unmarked = Nothing
  MarkStands (rule e) = Field 0x31 (ExprStands e)
  MarkStands abstract_entity = Field 0x32 Nothing
  MarkStands (abstract_supertype o) = Field 0x33 (Perhaps ExprStands o)

  abbrev pub SubtypeOf : List Name → Span
  SubtypeOf xs = Field 0x34 (Row (Named 0x10) xs)

  -- a declaration's place is its field's, "its tag's offset"
  abbrev pub TypeStands : TypeDecl → Span
  TypeStands x = At x.place (Field 0x20 (Named 0x10 x.name and_then BodyStands x.body))

  abbrev pub EntityStands : Entity → Span
  EntityStands x = At x.place (Field 0x30 (Named 0x10 x.name and_then MarkStands x.mark and_then Perhaps SubtypeOf x.supertypes))

  abbrev pub ConstraintStands : Constraint → Span
  ConstraintStands x = At x.place (Field 0x40 (Named 0x10 x.entity and_then Perhaps ExprStands x.expr))

  abbrev pub SchemaStands : Schema → Span
  SchemaStands x = At x.place (Field 0x01 (Named 0x10 x.name and_then Row TypeStands x.types and_then Row EntityStands x.entities and_then Row ConstraintStands x.constraints))
