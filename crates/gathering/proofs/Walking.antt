-- The passes: loops over the fields with a tag, each of which adds to the records.
use Rattle.std.specs.Prelude.{Some, None, Result, Ok, Err, is_some}
use Rattle.std.specs.Prelude as prelude
use Rattle.refusal.specs.Told.{number_of, told}
use mathlib.Core.Path.{◌≡◌, refl, ap}
use mathlib.Core.List.{List, [], ◌∷◌}
use mathlib.Core.Bool.{true}
use mathlib.Core.Option.{Option, none, some}
use Prim.Native.Nat.{ℕ, ◌+◌, ◌-◌, ◌*◌, ◌≤◌}
use native.Mathlib.Nat.{le_refl}
use native.Mathlib.Omega.{arith}
use lib.Dec.{eqb}
use lib.ListN.{length}
use Rattle.refusal.specs.MeaningAnswer.{Answer, done, refused, ◌>>=◌}
use Rattle.refusal.specs.declared.Refusal.{Refusal}
use Rattle.grammar.specs.MeaningReading.{Reading}
use Rattle.sheet.specs.MeaningName.{Name}
use Rattle.grammar.specs.MeaningGrammar.{kind_of, one_of}
use Rattle.sheet.specs.declared.Field.{Field}
use Rattle.grammar.proofs.Choosing.{clash}
use Rattle.forest.specs.MeaningPlaces.{nests}
use Rattle.schemas.specs.MeaningTree.{Tree, tree_at, tree_of}
use Rattle.schemas.specs.MeaningSchemas.{Schema, name_of, expr_of, mark_of, supertypes_of, entity_of, constraint_of, each}
use Rattle.scope.specs.MeaningScope.{Scope}
use Rattle.expression.specs.MeaningExpression.{Expr}
use Rattle.expression.specs.MirrorNodes.{flat, height}
use Rattle.lookup.specs.MirrorLookup.{itself}
use Rattle.declarations.specs.MeaningNamespace.{scope_in}
use Rattle.merging.specs.MeaningMerging.{Combined, find, vacant}
use Rattle.merging.specs.MirrorStream.{stream_of}
use Rattle.records.specs.MeaningResolving.{rule_of, resolved_expr}
use Rattle.gathering.specs.MeaningGathering.{through, supers_of}
use Rattle.records.specs.MirrorRecords.{size, level, behind, number_meant, own_number, Meets, Kept, Within, Room, schema_named}
use Rattle.gathering.specs.MirrorGathering.{given, sum, marked_by, rule_kept, constraint_kept}
use Rattle.gathering.specs.MirrorWalk.{tag_for, super_kept, item_kept, items_kept, item_size, item_level, items_size, items_level, all_size, all_level}
use Rattle.gathering.specs.MirrorWalk.{Step}
use Rattle.gathering.specs.MirrorWalk.Step.{Rules, Constraints, Subtypes}
use Rattle.records.proofs.Following.{Follows, has, has_not}
use Rattle.records.proofs.Appending.{expr_sized}
use Rattle.records.proofs.Nodes.{size_some}
use Rattle.records.proofs.Seeking.{met, fields_over, fields_parted}
use Rattle.records.proofs.Records.{behind_length}
use Rattle.gathering.proofs.Records.{rule_marked}
use Rattle.gathering.proofs.Pairs.{Going, Cheap, going_start, going_done, going_room, going_refused, going_next, one_each, sum_ones, super_cheap}

-- ---- what a field adds is bounded

pub through_cheap : {A : Type 0} (f : A → List (Combined ℕ) → Answer (List (Combined ℕ))) (c : A → ℕ) → Cheap f c → (l : List A) → (cs ds : List (Combined ℕ)) → through f l cs ≡ done ds → length (stream_of ds) ≤ length (stream_of cs) + 4 * sum c l
unfolding through sum
through_cheap f c C [] cs ds q = let z : cs ≡ ds = cc in rw z (omega arith)
through_cheap f c C (x ∷ l) cs ds q = by (f x cs) refl q (λ es k. through_cheap f c C l es ds k)
  where
    by : (o : Answer (List (Combined ℕ))) → f x cs ≡ o → (o >>= λ k. through f l k) ≡ done ds → ((es : List (Combined ℕ)) → through f l es ≡ done ds → length (stream_of ds) ≤ length (stream_of es) + 4 * sum c l)
        → length (stream_of ds) ≤ length (stream_of cs) + 4 * (c x + sum c l)
    by (done es) e k i = omega (arith, C x cs es e, i es k)
    by (refused n p) e k i = clash (cc)

module _ (rd : Reading) (xs : List Schema) where
  -- a record takes one number more than its nodes
  record-cheap : (sc : Scope) (r : Expr Name) (cs : List (Combined ℕ)) (p : ℕ) (d : Expr ℕ) → resolved_expr (number_meant rd xs) sc r ≡ done d
      → length (stream_of (behind cs p d)) ≤ length (stream_of cs) + 4 * size r
  record-cheap sc r cs p d q = by (expr_sized (number_meant rd xs) sc r) q
    where
      by : {a b : Answer (Expr ℕ)} → Follows (λ (d : Expr ℕ). d) (λ d. (length (flat d) ≡ 3 * size r) × (height d ≡ level r)) a b → a ≡ done d → length (stream_of (behind cs p d)) ≤ length (stream_of cs) + 4 * size r
      by (has {g = u} g z) k = let y : u ≡ d = cc in let l : length (flat d) ≡ 3 * size r = rw (← y) g.0 in omega (arith, behind_length cs p d, size_some r)
      by (has_not z) k = clash (cc)

  rule_cheap : (x : Schema) (p : ℕ) (g : Tree) (cs ds : List (Combined ℕ)) → item_kept rd xs Rules x p g cs ≡ done ds → length (stream_of ds) ≤ length (stream_of cs) + 4 * item_size Rules g
  unfolding item_kept item_size rule_kept given vacant entity_of
  rule_cheap x p g cs ds q = by (rule_of rd (mark_of g)) refl q
    where
      made : (r : Expr Name) (a : Answer (Expr ℕ)) → resolved_expr (number_meant rd xs) (scope_in x) r ≡ a → (o : Option (Expr ℕ))
          → (a >>= λ d. vacant eqb p o (behind cs (own_number rd xs x (entity_of p g)) d)) ≡ done ds → length (stream_of ds) ≤ length (stream_of cs) + 4 * size r
      made r (done d) e none k = let z : behind cs (own_number rd xs x (entity_of p g)) d ≡ ds = cc in rw (← z) (record-cheap (scope_in x) r cs (own_number rd xs x (entity_of p g)) d e)
      made r (done d) e (some y) k = clash (cc)
      made r (refused n j) e o k = clash (cc)

      by : (o : Option (Expr Name)) → rule_of rd (mark_of g) ≡ o → rule_kept eqb (number_meant rd xs) (own_number rd xs) x (entity_of p g) o cs ≡ done ds → length (stream_of ds) ≤ length (stream_of cs) + 4 * given size (marked_by (mark_of g))
      by none e k = let z : cs ≡ ds = cc in rw z (omega arith)
      by (some r) e k = rw (rule_marked rd (mark_of g) r e) (made r (resolved_expr (number_meant rd xs) (scope_in x) r) refl (find eqb (own_number rd xs x (entity_of p g)) cs) k)

  constraint_cheap : (x : Schema) (p : ℕ) (g : Tree) (cs ds : List (Combined ℕ)) → item_kept rd xs Constraints x p g cs ≡ done ds → length (stream_of ds) ≤ length (stream_of cs) + 4 * item_size Constraints g
  unfolding item_kept item_size constraint_kept given
  constraint_cheap x p g cs ds q = by (expr_of g) q
    where
      made : (r : Expr Name) (b : Answer ℕ) (a : Answer (Expr ℕ)) → resolved_expr (number_meant rd xs) (scope_in x) r ≡ a → (b >>= λ j. a >>= λ d. done (behind cs j d)) ≡ done ds → length (stream_of ds) ≤ length (stream_of cs) + 4 * size r
      made r (done j) (done d) e k = let z : behind cs j d ≡ ds = cc in rw (← z) (record-cheap (scope_in x) r cs j d e)
      made r (done j) (refused n i) e k = clash (cc)
      made r (refused n i) a e k = clash (cc)

      by : (o : Option (Expr Name)) → constraint_kept eqb (number_meant rd xs) (own_number rd xs) x (constraint_of p g) o cs ≡ done ds → length (stream_of ds) ≤ length (stream_of cs) + 4 * given size o
      by none k = let z : cs ≡ ds = cc in rw z (omega arith)
      by (some r) k = made r (number_meant rd xs (scope_in x) (constraint_of p g).entity) (resolved_expr (number_meant rd xs) (scope_in x) r) refl k

  pub item_cheap : (k : Step) (x : Schema) → Cheap (λ (i : ℕ × Tree). item_kept rd xs k x i.0 i.1) (λ i. item_size k i.1)
  unfolding item_kept item_size
  item_cheap Rules x i cs ds q = rule_cheap x i.0 i.1 cs ds q
  item_cheap Constraints x i cs ds q = constraint_cheap x i.0 i.1 cs ds q
  item_cheap Subtypes x i cs ds q =
      let z = (sum_ones (supers_of (supertypes_of i.1))).0 in
      let h = through_cheap (super_kept rd xs (scope_in x) (own_number rd xs x (entity_of i.0 i.1))) one_each (super_cheap rd xs (scope_in x) (own_number rd xs x (entity_of i.0 i.1))) (supers_of (supertypes_of i.1)) cs ds q in
      omega arith

  pub items_cheap : (k : Step) → Cheap (λ (i : ℕ × Tree). items_kept rd xs k (name_of i.1).bytes i.1) (λ i. items_size k i.1)
  unfolding items_size
  items_cheap k i cs ds q = through_cheap _ (λ (j : ℕ × Tree). item_size k j.1) (item_cheap k (schema_named (name_of i.1).bytes)) (each (tag_for k) itself i.1) cs ds q

-- ---- the fields with a tag, one after the other

pub record Fields (f : ℕ × Tree → List (Combined ℕ) → Answer (List (Combined ℕ))) (c l : ℕ × Tree → ℕ) (u tag : ℕ) (s : List ℕ) (at e used : ℕ) (w₀ : List ℕ) (from n : ℕ) (w₁ : List ℕ) : Type 0 where
  pub inside : Within s from e
  pub nested : nests u ≡ true
  pub tagged : tag ≡ u
  pub cheap : Cheap f c
  pub going : Going f c l (each u itself (tree_at s at e)) (each u itself (tree_at s from e)) used w₀ n w₁

pub nests_for : (k : Step) → nests (tag_for k) ≡ true
unfolding kind_of one_of
nests_for Rules = refl
nests_for Constraints = refl
nests_for Subtypes = refl

pub items_start : (rd : Reading) (xs : List Schema) (k : Step) (w s : List ℕ) (tag at e used : ℕ) (w₀ : List ℕ) → tag ≡ tag_for k → Within s at e → Room (items_size k (tree_at s at e)) (items_level k (tree_at s at e)) used w₀
    → Fields (λ i. item_kept rd xs k (schema_named w) i.0 i.1) (λ i. item_size k i.1) (λ i. item_level k i.1) (tag_for k) tag s at e used w₀ at used w₀
unfolding items_size items_level
items_start rd xs k w s tag at e used w₀ q W R =
    record { inside = W; nested = nests_for k; tagged = q; cheap = item_cheap rd xs k (schema_named w); going = going_start _ (λ (i : ℕ × Tree). item_size k i.1) (λ i. item_level k i.1) (each (tag_for k) itself (tree_at s at e)) used w₀ R }

nests_schema : nests 0x01 ≡ true
unfolding kind_of one_of
nests_schema = refl

pub all_start : (rd : Reading) (xs : List Schema) (k : Step) (s : List ℕ) (used : ℕ) (w₀ : List ℕ) → length s ≤ 65535 → Room (all_size k (tree_of s)) (all_level k (tree_of s)) used w₀
    → Fields (λ i. items_kept rd xs k (name_of i.1).bytes i.1) (λ i. items_size k i.1) (λ i. items_level k i.1) 0x01 0x01 s 0 (length s) used w₀ 0 used w₀
unfolding tree_of all_size all_level
all_start rd xs k s used w₀ h R =
    record {
      inside = record { short = h; rising = omega arith; within = le_refl (length s) };
      nested = nests_schema;
      tagged = refl;
      cheap = items_cheap rd xs k;
      going = going_start _ (λ (i : ℕ × Tree). items_size k i.1) (λ i. items_level k i.1) (each 0x01 itself (tree_at s 0 (length s))) used w₀ R;
    }

module _ (f : ℕ × Tree → List (Combined ℕ) → Answer (List (Combined ℕ))) (c l : ℕ × Tree → ℕ) (u tag : ℕ) (s : List ℕ) (at e used : ℕ) (w₀ : List ℕ) (from n : ℕ) (w₁ : List ℕ)
    (G : Fields f c l u tag s at e used w₀ from n w₁) (h : prelude.Option Field) (m : Meets s from e tag tag h) where
  pub fields_none : h ≡ None → Kept (through f (each u itself (tree_at s at e))) (told (Ok n)) used w₀ w₁
  fields_none q = going_done f c l (each u itself (tree_at s at e)) used w₀ (each u itself (tree_at s from e)) n w₁ G.going (fields_over u tag G.nested G.tagged s from e h m q)

  module _ (d : Field) (q : h ≡ Some d) where
    parted : each u itself (tree_at s from e) ≡ (d.start - 3, tree_at s d.start d.stop) ∷ each u itself (tree_at s d.stop e)
    parted = fields_parted u tag G.nested G.tagged s from e h m d q

    pub fields_place : 3 ≤ d.start
    fields_place = omega (arith, (met m d q).behind)

    pub fields_in : Within s d.start d.stop
    fields_in = let x = met m d q in record { short = G.inside.short; rising = x.rising; within = omega (arith, x.within, G.inside.within) }

    fields_room : Room (c (d.start - 3, tree_at s d.start d.stop)) (l (d.start - 3, tree_at s d.start d.stop)) n w₁
    fields_room = going_room f c l (each u itself (tree_at s at e)) used w₀ (each u itself (tree_at s from e)) n w₁ G.going (d.start - 3, tree_at s d.start d.stop) (each u itself (tree_at s d.stop e)) parted

    module _ (r : Result ℕ Refusal) (w₂ : List ℕ) (K : Kept (f (d.start - 3, tree_at s d.start d.stop)) (told r) n w₁ w₂) where
      pub fields_handed : (why : Refusal) → r ≡ Err why → Kept (through f (each u itself (tree_at s at e))) (told r) used w₀ w₂
      fields_handed why z =
          rw z (going_refused f c l (each u itself (tree_at s at e)) used w₀ (each u itself (tree_at s from e)) n w₁ G.going (d.start - 3, tree_at s d.start d.stop) (each u itself (tree_at s d.stop e)) parted w₂ (told r) K (number_of why.reason) why.place (ap told z))

      pub fields_next : (j : ℕ) → r ≡ Ok j → length w₂ ≡ length w₁ → Fields f c l u tag s at e used w₀ d.stop j w₂
      fields_next j z k =
          let x = met m d q in
          record {
            inside = record { short = G.inside.short; rising = x.within; within = G.inside.within };
            nested = G.nested;
            tagged = G.tagged;
            cheap = G.cheap;
            going = going_next f c l (each u itself (tree_at s at e)) used w₀ (each u itself (tree_at s from e)) n w₁ G.going (d.start - 3, tree_at s d.start d.stop) (each u itself (tree_at s d.stop e)) parted w₂ (told r) K G.cheap j (ap told z) k;
          }

pub items_room : (rd : Reading) (xs : List Schema) (k : Step) (w s : List ℕ) (tag at e used : ℕ) (w₀ : List ℕ) (from n : ℕ) (w₁ : List ℕ)
    → Fields (λ i. item_kept rd xs k (schema_named w) i.0 i.1) (λ i. item_size k i.1) (λ i. item_level k i.1) (tag_for k) tag s at e used w₀ from n w₁ → (h : prelude.Option Field) → Meets s from e tag tag h → (d : Field) → h ≡ Some d
    → Room (item_size k (tree_at s d.start d.stop)) (item_level k (tree_at s d.start d.stop)) n w₁
items_room rd xs k w s tag at e used w₀ from n w₁ G h m d q = fields_room _ _ _ (tag_for k) tag s at e used w₀ from n w₁ G h m d q

pub all_room : (rd : Reading) (xs : List Schema) (k : Step) (s : List ℕ) (at e used : ℕ) (w₀ : List ℕ) (from n : ℕ) (w₁ : List ℕ)
    → Fields (λ i. items_kept rd xs k (name_of i.1).bytes i.1) (λ i. items_size k i.1) (λ i. items_level k i.1) 0x01 0x01 s at e used w₀ from n w₁ → (h : prelude.Option Field) → Meets s from e 0x01 0x01 h → (d : Field) → h ≡ Some d
    → Room (items_size k (tree_at s d.start d.stop)) (items_level k (tree_at s d.start d.stop)) n w₁
all_room rd xs k s at e used w₀ from n w₁ G h m d q = fields_room _ _ _ 0x01 0x01 s at e used w₀ from n w₁ G h m d q

pub ruleset walking = (items_start, all_start, fields_none, fields_place, fields_in, items_room, all_room, fields_handed, fields_next)

-- all of a sheet
pub whole_kept : (f : ℕ × Tree → List (Combined ℕ) → Answer (List (Combined ℕ))) (u : ℕ) (s : List ℕ) (r : Answer ℕ) (used : ℕ) (w₀ w₁ : List ℕ) → Kept (through f (each u itself (tree_at s 0 (length s)))) r used w₀ w₁ → Kept (through f (each u itself (tree_of s))) r used w₀ w₁
unfolding tree_of
whole_kept f u s r used w₀ w₁ K = K
