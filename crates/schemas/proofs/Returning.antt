-- There and back: the way back from what is read of a tree that fits is the tree without its places, line by line of the table.
use mathlib.Core.Path.{◌≡◌, refl, sym, ap, ap₂, ◌∙◌}
use mathlib.Core.List.{List, [], ◌∷◌}
use mathlib.Core.Logic.{◌⊎◌, inl, inr}
use mathlib.Core.Bool.{true, false}
use mathlib.Core.Option.{Option, none, some}
use Prim.Native.Nat.{ℕ}
use native.Mathlib.Omega.{arith}
use borrow.Author.Tests.{eqb-true, ne_eqb}
use lib.Dec.{eqb, leb}
use lib.ListN.{length, get_or}
use Rattle.grammar.specs.MeaningReading.{Reading}
use Rattle.sheet.specs.MeaningName.{Name}
use Rattle.grammar.specs.MeaningGrammar.{one_of, expressions, Often, Slot, slot, line, grammar, slots_in, slots_of, needed, again, Fills, kind_of, holds_simple}
use Rattle.grammar.specs.MeaningGrammar.Often.{one, at_most_one, any}
use Rattle.grammar.specs.MeaningGrammar.Fills.{skip}
use Rattle.grammar.specs.MeaningGrammar.Kind.{fields}
use Rattle.grammar.proofs.Choosing.{clash, opposed, both}
use Rattle.expression.specs.MeaningExpression.{Expr}
use Rattle.forest.specs.MeaningForest.{Forest, tags_in, Sound, Right, Fits}
use Rattle.forest.specs.MeaningForest.Forest.{nil as no_fields, leaf as plain, node as nested}
use Rattle.schemas.specs.MeaningTree.{Tree}
use Rattle.schemas.specs.MeaningBare.{bare}
use Rattle.schemas.specs.MeaningTree.Tree.{nil, leaf, node}
use Rattle.schemas.specs.MeaningSchemas.{name_at, name_of, names_of, terms_of, first_of, expr_of, body_of, ruled, mark_of, supertypes_of, type_of, entity_of, constraint_of, each, schema_of, schemas_of}
use Rattle.schemas.specs.MeaningBack.{name_then, names_back, expr_then, terms_back, expr_back, body_encoded, mark_then, supertypes_back, type_back, entity_back, constraint_back, each_then, schema_back, forest_of_schemas}
use Rattle.schemas.proofs.Filling.{choose, one_none, one_first, some_first, any_first, any_only, few_only, All, all_in}

-- ---- the slots of the table

abbrev names : Often → Slot
names o = record { tags = 0x10 ∷ []; often = o }

abbrev exprs : Often → Slot
exprs o = record { tags = 0x50 ∷ 0x51 ∷ 0x52 ∷ 0x53 ∷ []; often = o }

abbrev bodies : Slot
bodies = record { tags = 0x21 ∷ 0x22 ∷ 0x23 ∷ 0x24 ∷ []; often = one }

abbrev marks : Slot
marks = record { tags = 0x31 ∷ 0x32 ∷ 0x33 ∷ []; often = at_most_one }

abbrev supers : Slot
supers = record { tags = 0x34 ∷ []; often = at_most_one }

abbrev many : ℕ → Slot
many u = record { tags = u ∷ []; often = any }

-- ---- plain values

no_bytes : (v : List ℕ) → length v ≡ 0 → [] ≡ v
no_bytes [] q = refl
no_bytes (x ∷ v) q = absurd (let y : ⊥ = omega arith in y)

one_byte : (v : List ℕ) → holds_simple v ≡ true → get_or v 0 0 ∷ [] ≡ v
unfolding holds_simple
one_byte v q = go v (eqb-true (length v) 1 (both (eqb (length v) 1) (leb (get_or v 0 0) 6) q).0)
  where
    go : (w : List ℕ) → length w ≡ 1 → get_or w 0 0 ∷ [] ≡ w
    go [] k = absurd (let y : ⊥ = omega arith in y)
    go (x ∷ []) k = refl
    go (x ∷ y ∷ w) k = absurd (let z : ⊥ = omega arith in z)

nothing : (f : Tree) → tags_in (bare f) ≡ [] → f ≡ nil
nothing nil q = refl
nothing (leaf t p v f) q = clash (cc)
nothing (node t p g f) q = clash (cc)

module _ (rd : Reading) where
  -- ---- "one 10", and then the rest of the line
  begins : (p : ℕ) (xs : List Slot) (Q : Tree → Type 0) → ((a : ℕ) (v : List ℕ) (f : Tree) → Fills xs (tags_in (bare f)) → Right rd p (bare f) → Q (leaf 0x10 a v f))
      → (g : Tree) → Fills (names one ∷ xs) (tags_in (bare g)) → Right rd p (bare g) → Q g
  unfolding kind_of one_of
  begins p xs Q k nil F R = absurd (one_none refl F)
  begins p xs Q k (leaf u a v f) F R = let x = one_first refl F in choose (λ u. Q (leaf u a v f)) (0x10 ∷ []) u x.0 (k a v f x.1 R.2)
  begins p xs Q k (node u a g f) F R = let x = one_first refl F in choose (λ u. kind_of u ≡ fields → Q (node u a g f)) (0x10 ∷ []) u x.0 (λ q. clash (cc)) R.1

  -- ---- "any number of 10s"
  names_back_law : (p : ℕ) (t : Tree) → Fills (names any ∷ []) (tags_in (bare t)) → Right rd p (bare t) → names_back (names_of t) ≡ bare t
  unfolding names_of names_back name_then name_at kind_of one_of
  names_back_law p nil F R = refl
  names_back_law p (leaf u a v f) F R =
      let x = any_only refl F in
      choose (λ u. names_back (names_of (leaf u a v f)) ≡ plain u v (bare f)) (0x10 ∷ []) u x.0 (ap (λ (y : Forest). plain 0x10 v y) (names_back_law p f x.1 R.2))
  names_back_law p (node u a g f) F R =
      let x = any_only refl F in
      choose (λ u. kind_of u ≡ fields → names_back (names_of (node u a g f)) ≡ nested u (bare g) (bare f)) (0x10 ∷ []) u x.0 (λ q. clash (cc)) R.1

  -- ---- "any number of expressions"
  terms_back_law : (p : ℕ) (t : Tree) → Fills (exprs any ∷ []) (tags_in (bare t)) → Right rd p (bare t) → terms_back (terms_of t) ≡ bare t
  unfolding terms_of terms_back name_at kind_of one_of slots_in grammar line slot expressions
  terms_back_law p nil F R = refl
  terms_back_law p (leaf u a v f) F R =
      let x = any_only refl F in
      choose (λ u. Sound (kind_of u) v → terms_back (terms_of (leaf u a v f)) ≡ plain u v (bare f)) (0x50 ∷ 0x51 ∷ 0x52 ∷ 0x53 ∷ []) u x.0
      (λ s. ap (λ (y : Forest). plain 0x50 v y) (terms_back_law p f x.1 R.2)) (λ s. absurd s) (λ s. absurd s) (λ s. absurd s) R.1
  terms_back_law p (node u a g f) F R =
      let x = any_only refl F in
      let y = terms_back_law p f x.1 R.4 in
      choose (λ u. kind_of u ≡ fields → Fills (slots_of u) (tags_in (bare g)) → Right rd u (bare g) → terms_back (terms_of (node u a g f)) ≡ nested u (bare g) (bare f)) (0x50 ∷ 0x51 ∷ 0x52 ∷ 0x53 ∷ []) u x.0
      (λ q G S. clash (cc))
      (λ q G S. ap₂ (λ (a b : Forest). nested 0x51 a b) (terms_back_law 0x51 g G S) y)
      (λ q G S. ap₂ (λ (a b : Forest). nested 0x52 a b) (terms_back_law 0x52 g G S) y)
      (λ q G S. ap₂ (λ (a b : Forest). nested 0x53 a b) (terms_back_law 0x53 g G S) y)
      R.1 R.2 R.3

  -- ---- "one expression", "nothing or one expression"
  expr_back_law : (p : ℕ) (o : Often) → again o ≡ false → (t : Tree) → Fills (exprs o ∷ []) (tags_in (bare t)) → Right rd p (bare t) → expr_back (expr_of t) ≡ bare t
  unfolding expr_of first_of terms_of expr_back expr_then name_at kind_of one_of slots_in grammar line slot expressions
  expr_back_law p o k nil F R = refl
  expr_back_law p o k (leaf u a v f) F R =
      let x = few_only k F in
      let z = nothing f x.1 in
      choose (λ u. Sound (kind_of u) v → expr_back (expr_of (leaf u a v f)) ≡ plain u v (bare f)) (0x50 ∷ 0x51 ∷ 0x52 ∷ 0x53 ∷ []) u x.0 (λ s. rw z refl) (λ s. absurd s) (λ s. absurd s) (λ s. absurd s) R.1
  expr_back_law p o k (node u a g f) F R =
      let x = few_only k F in
      let z : no_fields ≡ bare f = rw (nothing f x.1) refl in
      choose (λ u. kind_of u ≡ fields → Fills (slots_of u) (tags_in (bare g)) → Right rd u (bare g) → expr_back (expr_of (node u a g f)) ≡ nested u (bare g) (bare f)) (0x50 ∷ 0x51 ∷ 0x52 ∷ 0x53 ∷ []) u x.0
      (λ q G S. clash (cc))
      (λ q G S. ap₂ (λ (a b : Forest). nested 0x51 a b) (terms_back_law 0x51 g G S) z)
      (λ q G S. ap₂ (λ (a b : Forest). nested 0x52 a b) (terms_back_law 0x52 g G S) z)
      (λ q G S. ap₂ (λ (a b : Forest). nested 0x53 a b) (terms_back_law 0x53 g G S) z)
      R.1 R.2 R.3

  rule_back : (o : Option (Expr Name)) (g f : Forest) → expr_back o ≡ g → (g ≡ no_fields → ⊥) → mark_then (ruled o) f ≡ nested 0x31 g f
  unfolding expr_back mark_then ruled
  rule_back none g f q n = absurd (n (sym q))
  rule_back (some e) g f q n = ap (λ (y : Forest). nested 0x31 y f) q

  -- ---- 20 type
  body_back : (t : Tree) → Fills (bodies ∷ []) (tags_in (bare t)) → Right rd 0x20 (bare t) → body_encoded (body_of t) ≡ bare t
  unfolding body_of body_encoded name_at kind_of one_of again
  body_back nil F R = absurd (one_none refl F)
  body_back (leaf u a v f) F R =
      let x = few_only refl F in
      let z : no_fields ≡ bare f = rw (nothing f x.1) refl in
      choose (λ u. Sound (kind_of u) v → body_encoded (body_of (leaf u a v f)) ≡ plain u v (bare f)) (0x21 ∷ 0x22 ∷ 0x23 ∷ 0x24 ∷ []) u x.0
      (λ s. ap₂ (λ (w : List ℕ) (y : Forest). plain 0x21 w y) (one_byte v s) z)
      (λ s. ap₂ (λ (w : List ℕ) (y : Forest). plain 0x22 w y) (no_bytes v s) z)
      (λ s. ap (λ (y : Forest). plain 0x23 v y) z)
      (λ s. ap₂ (λ (w : List ℕ) (y : Forest). plain 0x24 w y) (no_bytes v s) z)
      R.1
  body_back (node u a g f) F R =
      let x = few_only refl F in
      choose (λ u. kind_of u ≡ fields → body_encoded (body_of (node u a g f)) ≡ nested u (bare g) (bare f)) (0x21 ∷ 0x22 ∷ 0x23 ∷ 0x24 ∷ []) u x.0 (λ q. clash (cc)) (λ q. clash (cc)) (λ q. clash (cc)) (λ q. clash (cc)) R.1

  type_back_law : (p : ℕ) (g : Tree) → Fills (slots_of 0x20) (tags_in (bare g)) → Right rd 0x20 (bare g) → type_back (type_of p g) ≡ bare g
  unfolding type_of type_back name_of body_of name_at name_then slots_in grammar line slot
  type_back_law p g F R = begins 0x20 (bodies ∷ []) (λ g. type_back (type_of p g) ≡ bare g) (λ a v f G S. ap (λ (y : Forest). plain 0x10 v y) (body_back f G S)) g F R

  -- ---- 30 entity
  supers_back : (t : Tree) → Fills (supers ∷ []) (tags_in (bare t)) → Right rd 0x30 (bare t) → supertypes_back (supertypes_of t) ≡ bare t
  unfolding supertypes_of supertypes_back kind_of one_of again slots_in grammar line slot
  supers_back nil F R = refl
  supers_back (leaf u a v f) F R =
      let x = few_only refl F in
      choose (λ u. Sound (kind_of u) v → supertypes_back (supertypes_of (leaf u a v f)) ≡ plain u v (bare f)) (0x34 ∷ []) u x.0 (λ s. absurd s) R.1
  supers_back (node u a g f) F R =
      let x = few_only refl F in
      let z : no_fields ≡ bare f = rw (nothing f x.1) refl in
      choose (λ u. Fills (slots_of u) (tags_in (bare g)) → Right rd u (bare g) → supertypes_back (supertypes_of (node u a g f)) ≡ nested u (bare g) (bare f)) (0x34 ∷ []) u x.0
      (λ G S. ap₂ (λ (y w : Forest). nested 0x34 y w) (names_back_law 0x34 g G S) z) R.2 R.3

  abbrev Marked : Tree → Type 0
  Marked t = mark_then (mark_of t) (supertypes_back (supertypes_of t)) ≡ bare t

  abbrev MarkedBy : ℕ → Tree → Tree → ℕ → Type 0
  MarkedBy a g f u = kind_of u ≡ fields → Fills (slots_of u) (tags_in (bare g)) → Right rd u (bare g) → Marked (node u a g f)

  mark_back : (t : Tree) → Fills (marks ∷ supers ∷ []) (tags_in (bare t)) → Right rd 0x30 (bare t) → Marked t
  unfolding mark_of mark_then supertypes_of supertypes_back kind_of one_of again slots_in grammar line slot expressions
  mark_back nil F R = refl
  mark_back (leaf u a v f) F R = go (some_first refl F)
    where
      go : ((one_of (0x31 ∷ 0x32 ∷ 0x33 ∷ []) u ≡ true) × Fills (supers ∷ []) (tags_in (bare f))) ⊎ Fills (supers ∷ []) (u ∷ tags_in (bare f)) → Marked (leaf u a v f)
      go (inl x) =
          choose (λ u. Sound (kind_of u) v → Marked (leaf u a v f)) (0x31 ∷ 0x32 ∷ 0x33 ∷ []) u x.0
          (λ s. absurd s) (λ s. ap₂ (λ (w : List ℕ) (y : Forest). plain 0x32 w y) (no_bytes v s) (supers_back f x.1 R.2)) (λ s. absurd s) R.1
      go (inr G) = let x = few_only refl G in choose (λ u. Sound (kind_of u) v → Marked (leaf u a v f)) (0x34 ∷ []) u x.0 (λ s. absurd s) R.1
  mark_back (node u a g f) F R = go (some_first refl F)
    where
      go : ((one_of (0x31 ∷ 0x32 ∷ 0x33 ∷ []) u ≡ true) × Fills (supers ∷ []) (tags_in (bare f))) ⊎ Fills (supers ∷ []) (u ∷ tags_in (bare f)) → Marked (node u a g f)
      go (inl x) =
          let y = supers_back f x.1 R.4 in
          choose (MarkedBy a g f) (0x31 ∷ 0x32 ∷ 0x33 ∷ []) u x.0
          (λ q G S. rule_back (expr_of g) (bare g) _ (expr_back_law 0x31 one refl g G S) (λ n. one_none refl (rw n at G)) ∙ ap (λ (w : Forest). nested 0x31 (bare g) w) y)
          (λ q G S. clash (cc))
          (λ q G S. ap₂ (λ (w z : Forest). nested 0x33 w z) (expr_back_law 0x33 at_most_one refl g G S) y)
          R.1 R.2 R.3
      go (inr G) =
          let x = few_only refl G in
          let z = nothing f x.1 in
          choose (MarkedBy a g f) (0x34 ∷ []) u x.0 (λ q G S. rw z (ap (λ (y : Forest). nested 0x34 y no_fields) (names_back_law 0x34 g G S))) R.1 R.2 R.3

  entity_back_law : (p : ℕ) (g : Tree) → Fills (slots_of 0x30) (tags_in (bare g)) → Right rd 0x30 (bare g) → entity_back (entity_of p g) ≡ bare g
  unfolding entity_of entity_back name_of mark_of supertypes_of name_at name_then slots_in grammar line slot
  entity_back_law p g F R = begins 0x30 (marks ∷ supers ∷ []) (λ g. entity_back (entity_of p g) ≡ bare g) (λ a v f G S. ap (λ (y : Forest). plain 0x10 v y) (mark_back f G S)) g F R

  -- ---- 40 subtype constraint
  constraint_back_law : (p : ℕ) (g : Tree) → Fills (slots_of 0x40) (tags_in (bare g)) → Right rd 0x40 (bare g) → constraint_back (constraint_of p g) ≡ bare g
  unfolding constraint_of constraint_back name_of expr_of terms_of name_at name_then slots_in grammar line slot expressions again
  constraint_back_law p g F R = begins 0x40 (exprs at_most_one ∷ []) (λ g. constraint_back (constraint_of p g) ≡ bare g) (λ a v f G S. ap (λ (y : Forest). plain 0x10 v y) (expr_back_law 0x40 at_most_one refl f G S)) g F R

  -- ---- 01 schema
  none_of : {A : Type 0} (u : ℕ) (read : ℕ → Tree → A) (ts : List ℕ) → one_of ts u ≡ false → (f : Tree) → All ts (tags_in (bare f)) → each u read f ≡ []
  unfolding each
  none_of u read ts q nil x = refl
  none_of u read ts q (leaf t p v f) x = none_of u read ts q f x.1
  none_of u read ts q (node t p g f) x =
      let z : eqb t u ≡ false = ne_eqb t u (λ k. opposed (rw k at x.0) q) in
      rw z (none_of u read ts q f x.1)

  abbrev Listed : Tree → Type 0
  Listed t = each_then 0x20 type_back (each 0x20 type_of t) (each_then 0x30 entity_back (each 0x30 entity_of t) (each_then 0x40 constraint_back (each 0x40 constraint_of t) no_fields)) ≡ bare t

  abbrev ListedBy : ℕ → Tree → Tree → ℕ → Type 0
  ListedBy a g f u = Fills (slots_of u) (tags_in (bare g)) → Right rd u (bare g) → Listed (node u a g f)

  -- one field more, and the lists of those after it
  module _ (u a : ℕ) (g f : Tree) (G : Fills (slots_of u) (tags_in (bare g))) (S : Right rd u (bare g)) (i : Fills (many 0x20 ∷ many 0x30 ∷ many 0x40 ∷ []) (tags_in (bare f)) → Listed f) where
    third : Fills (many 0x40 ∷ []) (u ∷ tags_in (bare f)) → Listed (node u a g f)
    unfolding each each_then one_of needed
    third H =
        let x = any_only refl H in
        let z = none_of 0x20 type_of (0x40 ∷ []) refl f (all_in x.1) in
        let y = none_of 0x30 entity_of (0x40 ∷ []) refl f (all_in x.1) in
        let j = i (skip refl (skip refl x.1)) in
        choose (ListedBy a g f) (0x40 ∷ []) u x.0 (λ G S. rw (z, y) (ap₂ (λ (w z : Forest). nested 0x40 w z) (constraint_back_law a g G S) (rw (z, y) at j))) G S

    second : ((one_of (0x30 ∷ []) u ≡ true) × Fills (many 0x30 ∷ many 0x40 ∷ []) (tags_in (bare f))) ⊎ Fills (many 0x40 ∷ []) (u ∷ tags_in (bare f)) → Listed (node u a g f)
    unfolding each each_then one_of needed
    second (inl x) =
        let z = none_of 0x20 type_of (0x30 ∷ 0x40 ∷ []) refl f (all_in x.1) in
        let j = i (skip refl x.1) in
        choose (ListedBy a g f) (0x30 ∷ []) u x.0 (λ G S. rw z (ap₂ (λ (w z : Forest). nested 0x30 w z) (entity_back_law a g G S) (rw z at j))) G S
    second (inr H) = third H

    first : ((one_of (0x20 ∷ []) u ≡ true) × Fills (many 0x20 ∷ many 0x30 ∷ many 0x40 ∷ []) (tags_in (bare f))) ⊎ Fills (many 0x30 ∷ many 0x40 ∷ []) (u ∷ tags_in (bare f)) → Listed (node u a g f)
    unfolding each each_then
    first (inl x) = choose (ListedBy a g f) (0x20 ∷ []) u x.0 (λ G S. ap₂ (λ (w z : Forest). nested 0x20 w z) (type_back_law a g G S) (i x.1)) G S
    first (inr H) = second (any_first refl H)

  lists_back : (t : Tree) → Fills (many 0x20 ∷ many 0x30 ∷ many 0x40 ∷ []) (tags_in (bare t)) → Right rd 0x01 (bare t) → Listed t
  unfolding each each_then kind_of one_of
  lists_back nil F R = refl
  lists_back (leaf u a v f) F R = choose (λ u. Sound (kind_of u) v → Listed (leaf u a v f)) (0x20 ∷ 0x30 ∷ 0x40 ∷ []) u (all_in F).0 (λ s. absurd s) (λ s. absurd s) (λ s. absurd s) R.1
  lists_back (node u a g f) F R = first u a g f R.2 R.3 (λ H. lists_back f H R.4) (any_first refl F)

  schema_back_law : (p : ℕ) (g : Tree) → Fills (slots_of 0x01) (tags_in (bare g)) → Right rd 0x01 (bare g) → schema_back (schema_of p g) ≡ bare g
  unfolding schema_of schema_back name_of each name_at name_then slots_in grammar line slot
  schema_back_law p g F R = begins 0x01 (many 0x20 ∷ many 0x30 ∷ many 0x40 ∷ []) (λ g. schema_back (schema_of p g) ≡ bare g) (λ a v f G S. ap (λ (y : Forest). plain 0x10 v y) (lists_back f G S)) g F R

  -- ---- the sheet
  sheet_back : (t : Tree) → Fills (many 0x01 ∷ []) (tags_in (bare t)) → Right rd 0 (bare t) → forest_of_schemas (schemas_of t) ≡ bare t
  unfolding forest_of_schemas schemas_of each each_then kind_of one_of
  sheet_back nil F R = refl
  sheet_back (leaf u a v f) F R = let x = any_only refl F in choose (λ u. Sound (kind_of u) v → forest_of_schemas (schemas_of (leaf u a v f)) ≡ plain u v (bare f)) (0x01 ∷ []) u x.0 (λ s. absurd s) R.1
  sheet_back (node u a g f) F R =
      let x = any_only refl F in
      choose (λ u. Fills (slots_of u) (tags_in (bare g)) → Right rd u (bare g) → forest_of_schemas (schemas_of (node u a g f)) ≡ nested u (bare g) (bare f)) (0x01 ∷ []) u x.0
      (λ G S. ap₂ (λ (w z : Forest). nested 0x01 w z) (schema_back_law a g G S) (sheet_back f x.1 R.4)) R.2 R.3

  pub whole_back : (t : Tree) → Fits rd (bare t) → forest_of_schemas (schemas_of t) ≡ bare t
  unfolding slots_in grammar line slot
  whole_back t F = sheet_back t F.filled F.right
