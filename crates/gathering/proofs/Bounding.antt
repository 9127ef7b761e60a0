-- The limits of a sheet bound what there is to gather.
use mathlib.Core.Path.{◌≡◌, refl, sym, ◌∙◌, subst}
use mathlib.Core.List.{List, [], ◌∷◌}
use mathlib.Core.Bool.{Bool, true, false, cond}
use mathlib.Core.Option.{Option, none, some}
use Prim.Native.Nat.{ℕ, ◌+◌, ◌≤◌}
use native.Mathlib.Nat.{le_refl}
use native.Mathlib.Omega.{arith}
use borrow.Author.Tests.{eqb-true, leb-true, leb-false}
use lib.Dec.{eqb, leb}
use lib.ListN.{length}
use Rattle.refusal.specs.MeaningAnswer.{done}
use Rattle.grammar.specs.MeaningReading.{Reading}
use Rattle.sheet.specs.MeaningName.{Name}
use Rattle.grammar.specs.MeaningGrammar.{one_of, expressions, counts}
use Rattle.grammar.specs.MeaningGrammar.Limit.{terms}
use Rattle.sheet.specs.MeaningSheet.{Is}
use Rattle.sheet.specs.Claims.{AllBytes}
use Rattle.grammar.proofs.Choosing.{either}
use Rattle.expression.specs.MeaningExpression.{Expr, Terms}
use Rattle.expression.specs.MeaningExpression.Terms.{end, ◌then◌}
use Rattle.forest.specs.MeaningForest.{total, larger, height}
use Rattle.forest.proofs.Proved.{has_its_forest}
use Rattle.schemas.specs.MeaningTree.{Tree, tree_of}
use Rattle.schemas.specs.MeaningBare.{bare}
use Rattle.schemas.specs.MeaningTree.Tree.{nil, leaf, node}
use Rattle.schemas.specs.MeaningSchemas.{Mark, name_at, names_of, terms_of, first_of, expr_of, ruled, mark_of, supertypes_of, entity_of, constraint_of, each, schema_of, schemas_of}
use Rattle.schemas.specs.MeaningSchemas.Mark.{abstract_supertype}
use Rattle.schemas.proofs.Proved.{bare_tree}
use Rattle.declarations.specs.MeaningNamespace.{schemas_in}
use Rattle.gathering.specs.MeaningGathering.{supers_of}
use Rattle.records.specs.MirrorRecords.{size, sizes, level, levels}
use Rattle.gathering.specs.MirrorGathering.{given, sum, highest, marked_by, rule_size, rule_level, super_size, constraint_size, constraint_level, rules_size, supers_size, constraints_size, schema_level, Bounded}

-- ---- what counts

larger_left : (a b : ℕ) → a ≤ larger a b
larger_left a b = either (λ (x : ℕ). a ≤ x) (leb a b) b a (λ e. leb-true a b e) (λ e. le_refl a)

larger_right : (a b : ℕ) → b ≤ larger a b
larger_right a b = either (λ (x : ℕ). b ≤ x) (leb a b) b a (λ e. le_refl b) (λ e. omega (arith, leb-false a b e))

expr_counts : (q t : ℕ) → one_of expressions t ≡ true → ◌≡◌ {A = ℕ} (cond (counts terms q t) 1 0) 1
unfolding counts
expr_counts q t h = rw h

name_counts : (t : ℕ) → eqb t 0x10 ≡ true → ◌≡◌ {A = ℕ} (cond (counts terms 0x34 t) 1 0) 1
unfolding counts one_of expressions
name_counts t e = rw (eqb-true t 0x10 e)

-- a tag is that of an expression
an_expr : (t u : ℕ) → one_of expressions u ≡ true → eqb t u ≡ true → one_of expressions t ≡ true
an_expr t u h e = subst (λ (x : ℕ). one_of expressions x ≡ true) (sym (eqb-true t u e)) h

-- ---- how many

terms_few : (q : ℕ) (T : Tree) → sizes (terms_of T) ≤ total terms q (bare T)
unfolding sizes terms_of one_of expressions
terms_few q nil = le_refl 0
terms_few q (leaf t p v f) =
    let i = terms_few q f in
    either (λ (x : Terms Name). sizes x ≤ cond (counts terms q t) 1 0 + total terms q (bare f)) (eqb t 0x50) _ (terms_of f)
    (λ e. omega (arith, expr_counts q t (an_expr t 0x50 refl e))) (λ e. omega arith)
terms_few q (node t p g f) =
    let i = terms_few q f in
    let j = terms_few t g in
    either (λ (x : Terms Name). sizes x ≤ cond (counts terms q t) 1 0 + total terms t (bare g) + total terms q (bare f)) (eqb t 0x51) _ _
    (λ e. omega (arith, expr_counts q t (an_expr t 0x51 refl e)))
    (λ _. either (λ (x : Terms Name). sizes x ≤ cond (counts terms q t) 1 0 + total terms t (bare g) + total terms q (bare f)) (eqb t 0x52) _ _
    (λ e. omega (arith, expr_counts q t (an_expr t 0x52 refl e)))
    (λ _. either (λ (x : Terms Name). sizes x ≤ cond (counts terms q t) 1 0 + total terms t (bare g) + total terms q (bare f)) (eqb t 0x53) _ (terms_of f)
    (λ e. omega (arith, expr_counts q t (an_expr t 0x53 refl e))) (λ e. omega arith)))

first_few : (T : Terms Name) → given size (first_of T) ≤ sizes T
unfolding first_of given sizes
first_few end = le_refl 0
first_few (e then t) = omega arith

expr_few : (q : ℕ) (T : Tree) → given size (expr_of T) ≤ total terms q (bare T)
unfolding expr_of
expr_few q T = omega (arith, first_few (terms_of T), terms_few q T)

names_few : (T : Tree) → length (names_of T) ≤ total terms 0x34 (bare T)
unfolding names_of
names_few nil = le_refl 0
names_few (leaf t p v f) =
    let i = names_few f in
    either (λ (x : List Name). length x ≤ cond (counts terms 0x34 t) 1 0 + total terms 0x34 (bare f)) (eqb t 0x10) (name_at p v ∷ names_of f) (names_of f)
    (λ e. omega (arith, name_counts t e)) (λ e. omega arith)
names_few (node t p g f) = omega (arith, names_few f)

names_under : (t : ℕ) (T : Tree) → eqb t 0x34 ≡ true → length (names_of T) ≤ total terms t (bare T)
names_under t T e = subst (λ (x : ℕ). length (names_of T) ≤ total terms x (bare T)) (sym (eqb-true t 0x34 e)) (names_few T)

rule_marks : (o : Option (Expr Name)) → marked_by (ruled o) ≡ o
unfolding ruled marked_by
rule_marks none = refl
rule_marks (some e) = refl

-- its mark and its names in SUBTYPE OF
entity_few : (q : ℕ) (T : Tree) → given size (marked_by (mark_of T)) + length (supers_of (supertypes_of T)) ≤ total terms q (bare T)
unfolding mark_of supertypes_of supers_of marked_by given
entity_few q nil = le_refl 0
entity_few q (leaf t p v f) =
    let i = entity_few q f in
    either (λ (m : Mark). given size (marked_by m) + length (supers_of (supertypes_of f)) ≤ cond (counts terms q t) 1 0 + total terms q (bare f)) (eqb t 0x32) _ (mark_of f) (λ e. omega arith) (λ e. omega arith)
entity_few q (node t p g f) = go (eqb t 0x31) (eqb t 0x33) (eqb t 0x34) refl refl refl (entity_few q f)
  where
    go : (a b c : Bool) → eqb t 0x31 ≡ a → eqb t 0x33 ≡ b → eqb t 0x34 ≡ c → given size (marked_by (mark_of f)) + length (supers_of (supertypes_of f)) ≤ total terms q (bare f)
        → given size (marked_by (cond a (ruled (expr_of g)) (cond b (abstract_supertype (expr_of g)) (mark_of f)))) + length (supers_of (cond c (some (names_of g)) (supertypes_of f))) ≤ cond (counts terms q t) 1 0 + total terms t (bare g) + total terms q (bare f)
    go true b true x y z i = absurd (let w : ⊥ = omega (arith, eqb-true t 0x31 x, eqb-true t 0x34 z) in w)
    go false true true x y z i = absurd (let w : ⊥ = omega (arith, eqb-true t 0x33 y, eqb-true t 0x34 z) in w)
    go true b false x y z i = rw (rule_marks (expr_of g)) (omega (arith, expr_few t g))
    go false true false x y z i = omega (arith, expr_few t g)
    go false false true x y z i = omega (arith, names_under t g z)
    go false false false x y z i = omega arith

entity_sized : (q p : ℕ) (g : Tree) → rule_size (entity_of p g) + super_size (entity_of p g) ≤ total terms q (bare g)
unfolding rule_size super_size entity_of
entity_sized q p g = entity_few q g

constraint_sized : (q p : ℕ) (g : Tree) → constraint_size (constraint_of p g) ≤ total terms q (bare g)
unfolding constraint_size constraint_of
constraint_sized q p g = expr_few q g

-- ---- each field with a tag, or one of two

sum_one : {A : Type 0} (c : A → ℕ) (u : ℕ) (read : ℕ → Tree → A) → ((q p : ℕ) (g : Tree) → c (read p g) ≤ total terms q (bare g)) → (q : ℕ) (T : Tree) → sum c (each u read T) ≤ total terms q (bare T)
unfolding sum each
sum_one c u read h q nil = le_refl 0
sum_one c u read h q (leaf t p v f) = omega (arith, sum_one c u read h q f)
sum_one {A} c u read h q (node t p g f) =
    let i = sum_one c u read h q f in
    either (λ (l : List A). sum c l ≤ cond (counts terms q t) 1 0 + total terms t (bare g) + total terms q (bare f)) (eqb t u) (read p g ∷ each u read f) (each u read f) (λ e. omega (arith, h t p g)) (λ e. omega arith)

sum_two : {A B : Type 0} (c : A → ℕ) (d : B → ℕ) (u v : ℕ) → (u ≡ v → ⊥) → (read : ℕ → Tree → A) (other : ℕ → Tree → B) → ((q p : ℕ) (g : Tree) → c (read p g) ≤ total terms q (bare g))
    → ((q p : ℕ) (g : Tree) → d (other p g) ≤ total terms q (bare g)) → (q : ℕ) (T : Tree) → sum c (each u read T) + sum d (each v other T) ≤ total terms q (bare T)
unfolding sum each
sum_two c d u v n read other h k q nil = le_refl 0
sum_two c d u v n read other h k q (leaf t p w f) = omega (arith, sum_two c d u v n read other h k q f)
sum_two {A} {B} c d u v n read other h k q (node t p g f) = go (eqb t u) (eqb t v) refl refl (sum_two c d u v n read other h k q f)
  where
    go : (a b : Bool) → eqb t u ≡ a → eqb t v ≡ b → sum c (each u read f) + sum d (each v other f) ≤ total terms q (bare f)
        → sum c (cond a (read p g ∷ each u read f) (each u read f)) + sum d (cond b (other p g ∷ each v other f) (each v other f)) ≤ cond (counts terms q t) 1 0 + total terms t (bare g) + total terms q (bare f)
    go true true x y i = absurd (n (sym (eqb-true t u x) ∙ eqb-true t v y))
    go true false x y i = omega (arith, h t p g)
    go false true x y i = omega (arith, k t p g)
    go false false x y i = omega arith

sum_add : {A : Type 0} (c d : A → ℕ) (l : List A) → sum c l + sum d l ≡ sum (λ a. c a + d a) l
unfolding sum
sum_add c d [] = refl
sum_add c d (a ∷ l) = omega (arith, sum_add c d l)

schema_sized : (q p : ℕ) (g : Tree) → rules_size (schema_of p g) + (constraints_size (schema_of p g) + supers_size (schema_of p g)) ≤ total terms q (bare g)
unfolding rules_size constraints_size supers_size schema_of
schema_sized q p g =
    let i = sum_two (λ e. rule_size e + super_size e) constraint_size 0x30 0x40 (λ e. (let w : ⊥ = omega arith in w)) entity_of constraint_of entity_sized constraint_sized q g in
    omega (arith, sum_add rule_size super_size (each 0x30 entity_of g))

-- ---- how high

expr_level : (t u : ℕ) → one_of expressions u ≡ true → eqb t u ≡ true → ◌≡◌ {A = ℕ} (cond (one_of expressions t) 1 0) 1
expr_level t u h e = rw (an_expr t u h e)

four : (one_of expressions 0x50 ≡ true) × (one_of expressions 0x51 ≡ true) × (one_of expressions 0x52 ≡ true) × (one_of expressions 0x53 ≡ true)
unfolding one_of expressions
four = (refl, refl, refl, refl)

terms_low : (T : Tree) → levels (terms_of T) ≤ height (bare T)
unfolding levels terms_of
terms_low nil = le_refl 0
terms_low (leaf t p v f) =
    let i = terms_low f in
    let a = larger_left (cond (one_of expressions t) 1 0) (height (bare f)) in
    let b = larger_right (cond (one_of expressions t) 1 0) (height (bare f)) in
    either (λ (x : Terms Name). levels x ≤ larger (cond (one_of expressions t) 1 0) (height (bare f))) (eqb t 0x50) _ (terms_of f) (λ e. omega (arith, expr_level t 0x50 four.0 e)) (λ e. omega arith)
terms_low (node t p g f) =
    let i = terms_low f in
    let j = terms_low g in
    let a = larger_left (cond (one_of expressions t) 1 0 + height (bare g)) (height (bare f)) in
    let b = larger_right (cond (one_of expressions t) 1 0 + height (bare g)) (height (bare f)) in
    either (λ (x : Terms Name). levels x ≤ larger (cond (one_of expressions t) 1 0 + height (bare g)) (height (bare f))) (eqb t 0x51) _ _ (λ e. omega (arith, expr_level t 0x51 four.1 e))
    (λ _. either (λ (x : Terms Name). levels x ≤ larger (cond (one_of expressions t) 1 0 + height (bare g)) (height (bare f))) (eqb t 0x52) _ _ (λ e. omega (arith, expr_level t 0x52 four.2 e))
    (λ _. either (λ (x : Terms Name). levels x ≤ larger (cond (one_of expressions t) 1 0 + height (bare g)) (height (bare f))) (eqb t 0x53) _ (terms_of f) (λ e. omega (arith, expr_level t 0x53 four.3 e)) (λ e. omega arith)))

first_low : (T : Terms Name) → given level (first_of T) ≤ levels T
unfolding first_of given levels
first_low end = le_refl 0
first_low (e then t) = omega arith

expr_low : (T : Tree) → given level (expr_of T) ≤ height (bare T)
unfolding expr_of
expr_low T = omega (arith, first_low (terms_of T), terms_low T)

mark_low : (T : Tree) → given level (marked_by (mark_of T)) ≤ height (bare T)
unfolding mark_of marked_by given
mark_low nil = le_refl 0
mark_low (leaf t p v f) =
    let i = mark_low f in
    let b = larger_right (cond (one_of expressions t) 1 0) (height (bare f)) in
    either (λ (m : Mark). given level (marked_by m) ≤ larger (cond (one_of expressions t) 1 0) (height (bare f))) (eqb t 0x32) _ (mark_of f) (λ e. omega arith) (λ e. omega arith)
mark_low (node t p g f) =
    let i = mark_low f in
    let j = expr_low g in
    let a = larger_left (cond (one_of expressions t) 1 0 + height (bare g)) (height (bare f)) in
    let b = larger_right (cond (one_of expressions t) 1 0 + height (bare g)) (height (bare f)) in
    either (λ (m : Mark). given level (marked_by m) ≤ larger (cond (one_of expressions t) 1 0 + height (bare g)) (height (bare f))) (eqb t 0x31) (ruled (expr_of g)) _ (λ e. rw (rule_marks (expr_of g)) (omega arith))
    (λ _. either (λ (m : Mark). given level (marked_by m) ≤ larger (cond (one_of expressions t) 1 0 + height (bare g)) (height (bare f))) (eqb t 0x33) (abstract_supertype (expr_of g)) (mark_of f) (λ e. omega arith) (λ e. omega arith))

each_low : {A : Type 0} (c : A → ℕ) (u : ℕ) (read : ℕ → Tree → A) → ((p : ℕ) (g : Tree) → c (read p g) ≤ height (bare g)) → (T : Tree) → highest c (each u read T) ≤ height (bare T)
unfolding highest each
each_low c u read h nil = le_refl 0
each_low c u read h (leaf t p v f) = omega (arith, each_low c u read h f, larger_right (cond (one_of expressions t) 1 0) (height (bare f)))
each_low {A} c u read h (node t p g f) =
    let i = each_low c u read h f in
    let a = larger_left (cond (one_of expressions t) 1 0 + height (bare g)) (height (bare f)) in
    let b = larger_right (cond (one_of expressions t) 1 0 + height (bare g)) (height (bare f)) in
    either (λ (l : List A). highest c l ≤ larger (cond (one_of expressions t) 1 0 + height (bare g)) (height (bare f))) (eqb t u) (read p g ∷ each u read f) (each u read f) (λ e. omega (arith, h p g)) (λ e. omega arith)

rule_low : (p : ℕ) (g : Tree) → rule_level (entity_of p g) ≤ height (bare g)
unfolding rule_level entity_of
rule_low p g = mark_low g

constraint_low : (p : ℕ) (g : Tree) → constraint_level (constraint_of p g) ≤ height (bare g)
unfolding constraint_level constraint_of
constraint_low p g = expr_low g

schema_low : (p : ℕ) (g : Tree) → schema_level (schema_of p g) ≤ height (bare g)
unfolding schema_level schema_of
schema_low p g = omega (arith, each_low rule_level 0x30 entity_of rule_low g, each_low constraint_level 0x40 constraint_of constraint_low g)

-- ---- all of it

few_in : (q : ℕ) (T : Tree) → sum rules_size (schemas_of T) + (sum constraints_size (schemas_of T) + sum supers_size (schemas_of T)) ≤ total terms q (bare T)
unfolding schemas_of
few_in q T =
    let i = sum_one (λ x. rules_size x + (constraints_size x + supers_size x)) 0x01 schema_of schema_sized q T in
    omega (arith, sum_add rules_size (λ x. constraints_size x + supers_size x) (each 0x01 schema_of T), sum_add constraints_size supers_size (each 0x01 schema_of T))

low_in : (T : Tree) → highest schema_level (schemas_of T) ≤ height (bare T)
unfolding schemas_of
low_in T = each_low schema_level 0x01 schema_of schema_low T

pub bounded : (rd : Reading) (s : List ℕ) → AllBytes s → Is rd s (done tt) → Bounded (schemas_in s)
unfolding schemas_in
bounded rd s b a =
    let F = (has_its_forest rd s b a).1 in
    let e = bare_tree s in
    let t : total terms 0 (bare (tree_of s)) ≤ 512 = rw e (F.limits terms) in
    let h : height (bare (tree_of s)) ≤ 5 = rw e F.shallow in
    record { few = omega (arith, few_in 0 (tree_of s)); low = omega (arith, low_in (tree_of s)) }
