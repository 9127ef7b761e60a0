-- What is read of the counted fields of some schemas stands as the table lays it out, line by line.
use mathlib.Core.Path.{◌≡◌, refl, subst, ◌∙◌}
use mathlib.Core.List.{List, [], ◌∷◌}
use mathlib.Core.Bool.{false}
use mathlib.Core.Option.{Option, none, some}
use Prim.Native.Nat.{ℕ, ◌+◌}
use native.Mathlib.Omega.{arith}
use borrow.Author.Tests.{eq-eqb}
use lib.Dec.{eqb}
use lib.ListN.{length}
use Rattle.sheet.specs.MeaningName.{Name}
use Rattle.sheet.specs.MeaningSheet.{tag_of, end_of}
use Rattle.expression.specs.MeaningExpression.{Expr, Terms}
use Rattle.expression.specs.MeaningExpression.Expr.{reference, andor, «and», oneof}
use Rattle.expression.specs.MeaningExpression.Terms.{end, ◌then◌}
use Rattle.forest.specs.MeaningForest.{Forest, encode}
use Rattle.forest.specs.MeaningForest.Forest.{nil as no_fields, leaf as plain}
use Rattle.schemas.specs.MeaningTree.{Tree}
use Rattle.schemas.specs.MeaningSchemas.{Body, Mark, Schema, name_at, name_of, names_of, terms_of, first_of, expr_of, body_of, ruled, mark_of, supertypes_of, type_of, entity_of, constraint_of, each, schema_of, schemas_of}
use Rattle.schemas.specs.MeaningSchemas.Body.{simple, enumeration, named, other}
use Rattle.schemas.specs.MeaningSchemas.Mark.{unmarked, rule, abstract_entity, abstract_supertype}
use Rattle.schemas.specs.MeaningBack.{name_then, names_back, expr_then, terms_back, expr_back, body_encoded, mark_then, supertypes_back, type_back, entity_back, constraint_back, each_then, schema_back, forest_of_schemas}
use Rattle.schemas.specs.MeaningLayout.{Span, Nothing, ◌and_then◌, Row, Perhaps, Named, ExprStands, TermsStand, BodyStands, MarkStands, SubtypeOf, TypeStands, EntityStands, ConstraintStands, SchemaStands}
use Rattle.schemas.proofs.Counted.{place, Laid}

supers_unmarked : (o : Option (List Name)) (at : ℕ) → mark_of (place at (supertypes_back o)) ≡ unmarked
unfolding mark_of supertypes_back
supers_unmarked none at = refl
supers_unmarked (some xs) at = refl

-- the place after some fields with a tag
abbrev after : {A : Type 0} → (A → Forest) → List A → ℕ → ℕ
after back [] at = at
after back (x ∷ xs) at = after back xs (at + 3 + length (encode (back x)))

passed : {A B : Type 0} (u w : ℕ) (read : ℕ → Tree → A) (back : B → Forest) → eqb w u ≡ false → (xs : List B) (f : Forest) (at : ℕ) → each u read (place at (each_then w back xs f)) ≡ each u read (place (after back xs at) f)
unfolding each each_then
passed u w read back q [] f at = refl
passed u w read back q (x ∷ xs) f at = rw q (passed u w read back q xs f (at + 3 + length (encode (back x))))

module _ (s : List ℕ) where
  -- ---- names

  name_laid : (t : ℕ) (v : List ℕ) (f : Forest) (at e : ℕ) → Laid s (plain t v f) at e → Named s t (name_at at v) at (at + 3 + length v)
  unfolding name_at
  name_laid t v f at e L = (L.0, L.1, (refl, (L.2, refl)))

  names_laid : (xs : List Name) (at e : ℕ) → Laid s (names_back xs) at e → Row (Named s 0x10) (names_of (place at (names_back xs))) at e
  unfolding names_of names_back name_then
  names_laid [] at e L = L
  names_laid (x ∷ xs) at e L = (at + 3 + length x.bytes, name_laid 0x10 x.bytes (names_back xs) at e L, names_laid xs (at + 3 + length x.bytes) e L.3)

  -- ---- expressions

  mutual
    unfolding terms_of expr_then terms_back ExprStands TermsStand

    -- one, and the fields after it
    expr_laid : (d : Expr Name) (f : Forest) (at e : ℕ) → Laid s (expr_then d f) at e → ((m : ℕ) → Laid s f m e → TermsStand s (terms_of (place m f)) m e) → TermsStand s (terms_of (place at (expr_then d f))) at e
    expr_laid (reference x) f at e L k = (at + 3 + length x.bytes, name_laid 0x50 x.bytes f at e L, k (at + 3 + length x.bytes) L.3)
    expr_laid (andor t) f at e L k = let z = at + 3 + length (encode (terms_back t)) in (z, (L.0, L.1, terms_laid t (at + 3) z L.2), k z L.3)
    expr_laid («and» t) f at e L k = let z = at + 3 + length (encode (terms_back t)) in (z, (L.0, L.1, terms_laid t (at + 3) z L.2), k z L.3)
    expr_laid (oneof t) f at e L k = let z = at + 3 + length (encode (terms_back t)) in (z, (L.0, L.1, terms_laid t (at + 3) z L.2), k z L.3)

    terms_laid : (t : Terms Name) (at e : ℕ) → Laid s (terms_back t) at e → TermsStand s (terms_of (place at (terms_back t))) at e
    terms_laid end at e L = L
    terms_laid (d then t) at e L = expr_laid d (terms_back t) at e L (λ m. terms_laid t m e)

  ended : (P : Span) (at e : ℕ) → (P and_then Nothing) at e → P at e
  ended P at e x = subst (P at) x.2 x.1

  -- one alone
  one_laid : (d : Expr Name) (at e : ℕ) → Laid s (expr_then d no_fields) at e → (c : Expr Name) × (expr_of (place at (expr_then d no_fields)) ≡ some c) × ExprStands s c at e
  unfolding expr_of first_of terms_of expr_then TermsStand
  one_laid (reference x) at e L = (_, refl, ended (ExprStands s (reference (name_at at x.bytes))) at e (expr_laid (reference x) no_fields at e L (λ m q. q)))
  one_laid (andor t) at e L = (_, refl, ended (ExprStands s (andor (terms_of (place (at + 3) (terms_back t))))) at e (expr_laid (andor t) no_fields at e L (λ m q. q)))
  one_laid («and» t) at e L = (_, refl, ended (ExprStands s («and» (terms_of (place (at + 3) (terms_back t))))) at e (expr_laid («and» t) no_fields at e L (λ m q. q)))
  one_laid (oneof t) at e L = (_, refl, ended (ExprStands s (oneof (terms_of (place (at + 3) (terms_back t))))) at e (expr_laid (oneof t) no_fields at e L (λ m q. q)))

  option_laid : (o : Option (Expr Name)) (at e : ℕ) → Laid s (expr_back o) at e → Perhaps (ExprStands s) (expr_of (place at (expr_back o))) at e
  unfolding expr_back expr_of first_of terms_of
  option_laid none at e L = L
  option_laid (some d) at e L = let x = one_laid d at e L in rw x.1 x.2

  -- ---- declarations: from what stands at a place to what is read there

  body_laid : (b : Body) (at e : ℕ) → Laid s (body_encoded b) at e → BodyStands s (body_of (place at (body_encoded b))) at e
  unfolding body_of body_encoded name_at
  body_laid (simple k) at e L = (L.0, L.1 ∙ L.3, (L.2, L.3))
  body_laid enumeration at e L = (L.0, L.1 ∙ L.3, omega (arith, L.3))
  body_laid (named x) at e L = (L.0, L.1 ∙ L.3, (refl, (L.2, L.3)))
  body_laid other at e L = (L.0, L.1 ∙ L.3, omega (arith, L.3))

  supers_laid : (o : Option (List Name)) (at e : ℕ) → Laid s (supertypes_back o) at e → Perhaps (SubtypeOf s) (supertypes_of (place at (supertypes_back o))) at e
  unfolding supertypes_of supertypes_back
  supers_laid none at e L = L
  supers_laid (some xs) at e L = subst (SubtypeOf s (names_of (place (at + 3) (names_back xs))) at) L.3 (L.0, L.1, names_laid xs (at + 3) (at + 3 + length (encode (names_back xs))) L.2)

  marks_laid : (m : Mark) (o : Option (List Name)) (at e : ℕ) → Laid s (mark_then m (supertypes_back o)) at e
      → (MarkStands s (mark_of (place at (mark_then m (supertypes_back o)))) and_then Perhaps (SubtypeOf s) (supertypes_of (place at (mark_then m (supertypes_back o))))) at e
  unfolding mark_of mark_then supertypes_of ruled encode
  marks_laid unmarked o at e L = (at, rw (supers_unmarked o at) refl, supers_laid o at e L)
  marks_laid (rule d) o at e L =
      let z = at + 3 + length (encode (expr_then d no_fields)) in
      let x = one_laid d (at + 3) z L.2 in
      (z, rw x.1 (L.0, L.1, x.2), supers_laid o z e L.3)
  marks_laid abstract_entity o at e L = (at + 3 + 0, (L.0, L.1, omega arith), supers_laid o (at + 3 + 0) e L.3)
  marks_laid (abstract_supertype p) o at e L =
      let z = at + 3 + length (encode (expr_back p)) in
      (z, (L.0, L.1, option_laid p (at + 3) z L.2), supers_laid o z e L.3)

  -- a field with this tag, read so, stands so
  abbrev ReadStands : {A : Type 0} → ℕ → (A → Forest) → (ℕ → Tree → A) → (A → Span) → Type 0
  ReadStands {A} u back read P = (x : A) (at e : ℕ) → tag_of s at ≡ u → end_of s at ≡ e → Laid s (back x) (at + 3) e → P (read at (place (at + 3) (back x))) at e

  type_laid : ReadStands 0x20 type_back type_of (TypeStands s)
  unfolding type_back type_of name_of body_of name_then
  type_laid x at e q r L = (refl, (q, r, (_, name_laid 0x10 x.name.bytes (body_encoded x.body) (at + 3) e L, body_laid x.body _ e L.3)))

  entity_laid : ReadStands 0x30 entity_back entity_of (EntityStands s)
  unfolding entity_back entity_of name_of mark_of supertypes_of name_then
  entity_laid x at e q r L = (refl, (q, r, (_, name_laid 0x10 x.name.bytes (mark_then x.mark (supertypes_back x.supertypes)) (at + 3) e L, marks_laid x.mark x.supertypes _ e L.3)))

  constraint_laid : ReadStands 0x40 constraint_back constraint_of (ConstraintStands s)
  unfolding constraint_back constraint_of name_of expr_of terms_of name_then
  constraint_laid x at e q r L = (refl, (q, r, (_, name_laid 0x10 x.entity.bytes (expr_back x.expr) (at + 3) e L, option_laid x.expr _ e L.3)))

  -- ---- rows of declarations

  rest_laid : {A : Type 0} (u : ℕ) (back : A → Forest) (xs : List A) (f : Forest) (at e : ℕ) → Laid s (each_then u back xs f) at e → Laid s f (after back xs at) e
  unfolding each_then
  rest_laid u back [] f at e L = L
  rest_laid u back (x ∷ xs) f at e L = rest_laid u back xs f (at + 3 + length (encode (back x))) e L.3

  taken : {A : Type 0} (u : ℕ) (back : A → Forest) (read : ℕ → Tree → A) (P : A → Span) → ReadStands u back read P → (xs : List A) (f : Forest) (at e : ℕ)
      → each u read (place (after back xs at) f) ≡ [] → Laid s (each_then u back xs f) at e → Row P (each u read (place at (each_then u back xs f))) at (after back xs at)
  unfolding each each_then
  taken u back read P k [] f at e q L = rw q refl
  taken u back read P k (x ∷ xs) f at e q L = let z = at + 3 + length (encode (back x)) in rw (eq-eqb u u refl) (z, k x at z L.0 L.1 L.2, taken u back read P k xs f z e q L.3)

  schema_laid : ReadStands 0x01 schema_back schema_of (SchemaStands s)
  unfolding schema_back schema_of name_of each name_then
  schema_laid x at e q r L =
      let cs = each_then 0x40 constraint_back x.constraints no_fields in
      let es = each_then 0x30 entity_back x.entities cs in
      let ts = each_then 0x20 type_back x.types es in
      let m0 = at + 3 + 3 + length x.name.bytes in
      let m1 = after type_back x.types m0 in
      let m2 = after entity_back x.entities m1 in
      let m3 = after constraint_back x.constraints m2 in
      let L1 = rest_laid 0x20 type_back x.types es m0 e L.3 in
      let L2 = rest_laid 0x30 entity_back x.entities cs m1 e L1 in
      let L3 : m3 ≡ e = rest_laid 0x40 constraint_back x.constraints no_fields m2 e L2 in
      let t1 = taken 0x20 type_back type_of (TypeStands s) type_laid x.types es m0 e (passed 0x20 0x30 type_of entity_back refl x.entities cs m1 ∙ passed 0x20 0x40 type_of constraint_back refl x.constraints no_fields m2) L.3 in
      let e1 : Row (EntityStands s) (each 0x30 entity_of (place m0 ts)) m1 m2
      = rw (passed 0x30 0x20 entity_of type_back refl x.types es m0) (taken 0x30 entity_back entity_of (EntityStands s) entity_laid x.entities cs m1 e (passed 0x30 0x40 entity_of constraint_back refl x.constraints no_fields m2) L1) in
      let c1 : Row (ConstraintStands s) (each 0x40 constraint_of (place m0 ts)) m2 m3
      = rw (passed 0x40 0x20 constraint_of type_back refl x.types es m0, passed 0x40 0x30 constraint_of entity_back refl x.entities cs m1) (taken 0x40 constraint_back constraint_of (ConstraintStands s) constraint_laid x.constraints no_fields m2 e refl L2) in
      (refl, (q, r, (m0, name_laid 0x10 x.name.bytes ts (at + 3) e L, (m1, t1, (m2, e1, subst (Row (ConstraintStands s) (each 0x40 constraint_of (place m0 ts)) m2) L3 c1)))))

  pub sheet_laid : (xs : List Schema) (e : ℕ) → Laid s (forest_of_schemas xs) 0 e → Row (SchemaStands s) (schemas_of (place 0 (forest_of_schemas xs))) 0 e
  unfolding forest_of_schemas schemas_of each
  sheet_laid xs e L = subst (Row (SchemaStands s) (schemas_of (place 0 (forest_of_schemas xs))) 0) (rest_laid 0x01 schema_back xs no_fields 0 e L) (taken 0x01 schema_back schema_of (SchemaStands s) schema_laid xs no_fields 0 e refl L)
