-- The names of a sheet without a fault have at most 32 bytes.
use mathlib.Core.Path.{◌≡◌, subst}
use mathlib.Core.List.{List, [], ◌∷◌, ◌++◌, map}
use mathlib.Core.Bool.{true}
use Prim.Native.Nat.{ℕ, suc, ◌+◌, ◌≤◌}
use native.Mathlib.Omega.{arith}
use borrow.Author.Tests.{eqb-true, leb-true}
use lib.Dec.{eqb, leb}
use lib.ListN.{length}
use Rattle.complex_entity.specs.MeaningRising.{◌∈◌}
use Rattle.complex_entity.specs.MeaningRising.◌∈◌.{here, there}
use Rattle.grammar.specs.MeaningReading.{Reading}
use Rattle.sheet.specs.MeaningName.{Name, is_name}
use Rattle.grammar.specs.MeaningGrammar.{most_name_bytes, one_of, kind_of}
use Rattle.grammar.proofs.Choosing.{either, both}
use Rattle.forest.specs.MeaningForest.{Sound, Right}
use Rattle.schemas.specs.MeaningTree.{Tree}
use Rattle.schemas.specs.MeaningBare.{bare}
use Rattle.schemas.specs.MeaningTree.Tree.{nil, leaf, node}
use Rattle.schemas.specs.MeaningSchemas.{TypeDecl, Entity, Schema, no_name, name_at, name_of, type_of, entity_of, each, schema_of, schemas_of}
use Rattle.declarations.specs.MeaningNamespace.{Named, a_type, an_entity, Declaration, scope_in, item_of, path_in, declared_by, numbered, entries_from, all_of, declarations, outermost, schema_name, item_name}

abbrev pub Few : List ℕ → Type 0
Few v = length v ≤ most_name_bytes

-- all of a list are so
abbrev pub All : {A : Type 0} → (A → Type 0) → List A → Type 0
All P [] = Unit {0}
All P (x ∷ xs) = P x × All P xs

abbrev TypeFew : TypeDecl → Type 0
TypeFew x = Few x.name.bytes

abbrev EntityFew : Entity → Type 0
EntityFew x = Few x.name.bytes

abbrev SchemaFew : Schema → Type 0
SchemaFew x = Few x.name.bytes × All TypeFew x.types × All EntityFew x.entities

-- ---- in a tree whose plain values are of their kinds

module _ (rd : Reading) where
  name_few : (t : ℕ) (v : List ℕ) → t ≡ 0x10 → Sound (kind_of t) v → Few v
  unfolding kind_of one_of is_name
  name_few t v e h =
      let k : is_name v ≡ true = subst (λ (u : ℕ). Sound (kind_of u) v) e h in
      leb-true (length v) most_name_bytes (both (leb (length v) most_name_bytes) _ k).0

  begins_few : (p : ℕ) (t : Tree) → Right rd p (bare t) → Few (name_of t).bytes
  unfolding name_of no_name name_at
  begins_few p nil h = omega arith
  begins_few p (leaf t a v f) h = either (λ (x : Name). Few x.bytes) (eqb t 0x10) (name_at a v) no_name (λ e. name_few t v (eqb-true t 0x10 e) h.1) (λ e. omega arith)
  begins_few p (node t a g f) h = omega arith

  -- what holds of all that is read from right fields holds of each
  each_all : {A : Type 0} (P : A → Type 0) (u : ℕ) (read : ℕ → Tree → A) → ((a : ℕ) (g : Tree) → Right rd u (bare g) → P (read a g))
      → (p : ℕ) (t : Tree) → Right rd p (bare t) → All P (each u read t)
  unfolding each
  each_all P u read k p nil h = tt
  each_all P u read k p (leaf t a v f) h = each_all P u read k p f h.2
  each_all P u read k p (node t a g f) h =
      let r = each_all P u read k p f h.4 in
      either (All P) (eqb t u) (read a g ∷ each u read f) (each u read f) (λ e. (k a g (subst (λ (w : ℕ). Right rd w (bare g)) (eqb-true t u e) h.3), r)) (λ e. r)

  schema_few : (a : ℕ) (g : Tree) → Right rd 0x01 (bare g) → SchemaFew (schema_of a g)
  unfolding schema_of type_of entity_of
  schema_few a g h = (
    begins_few 0x01 g h,
    each_all TypeFew 0x20 type_of (λ b f r. begins_few 0x20 f r) 0x01 g h,
    each_all EntityFew 0x30 entity_of (λ b f r. begins_few 0x30 f r) 0x01 g h,
  )

  schemas_few : (t : Tree) → Right rd 0 (bare t) → All SchemaFew (schemas_of t)
  unfolding schemas_of
  schemas_few t h = each_all SchemaFew 0x01 schema_of schema_few 0 t h

-- ---- so of what schemas declare

abbrev DeclarationFew : Declaration → Type 0
DeclarationFew d = Few (schema_name d.path).bytes × Few (item_name d.path).bytes

pub all_append : {A : Type 0} (P : A → Type 0) (xs ys : List A) → All P xs → All P ys → All P (xs ++ ys)
all_append P [] ys a b = b
all_append P (x ∷ xs) ys a b = (a.0, all_append P xs ys a.1 b)

all_map : {A B : Type 0} (P : B → Type 0) (f : A → B) (xs : List A) → All (λ x. P (f x)) xs → All P (map f xs)
all_map P f [] a = tt
all_map P f (x ∷ xs) a = (a.0, all_map P f xs a.1)

pub all_in : {A : Type 0} (P : A → Type 0) (xs : List A) → All P xs → (x : A) → x ∈ xs → P x
all_in {A = A} P [] a x x4 = elim x4 [ ]
all_in P (y ∷ ys) a x (here e) = rw e a.0
all_in P (y ∷ ys) a x (there m) = all_in P ys a.1 x m

abbrev NamedFew : Named → Type 0
NamedFew d = Few (item_of d).name.bytes

numbered_few : (x : Schema) (n : ℕ) (ds : List Named) → Few x.name.bytes → All NamedFew ds → All DeclarationFew (numbered x n ds)
unfolding numbered path_in scope_in schema_name outermost item_name
numbered_few x n [] h a = tt
numbered_few x n (d ∷ ds) h a = ((h, a.0), numbered_few x (suc n) ds h a.1)

declared_few : (x : Schema) → SchemaFew x → All NamedFew (declared_by x)
unfolding declared_by item_of
declared_few x h = all_append NamedFew (map a_type x.types) (map an_entity x.entities) (all_map NamedFew a_type x.types h.1) (all_map NamedFew an_entity x.entities h.2)

entries_few : (n : ℕ) (xs : List Schema) → All SchemaFew xs → All DeclarationFew (all_of (entries_from n xs))
unfolding all_of entries_from
entries_few n [] h = tt
entries_few n (x ∷ xs) h =
    all_append DeclarationFew (numbered x n (declared_by x)) (all_of (entries_from (n + length (declared_by x)) xs))
    (numbered_few x n (declared_by x) h.0.0 (declared_few x h.0))
    (entries_few (n + length (declared_by x)) xs h.1)

pub tree_few : (rd : Reading) (t : Tree) → Right rd 0 (bare t) → (d : Declaration) → d ∈ declarations (schemas_of t) → Few (schema_name d.path).bytes × Few (item_name d.path).bytes
unfolding declarations
tree_few rd t h d m = all_in DeclarationFew (all_of (entries_from 0 (schemas_of t))) (entries_few 0 (schemas_of t) (schemas_few rd t h)) d m
