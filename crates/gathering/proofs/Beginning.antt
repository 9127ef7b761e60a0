-- Fields that give nothing to resolve are passed over: laws for `gives`, `first_given` and `in_schema`.
use Rattle.std.specs.Prelude.{Some, None, Result, Ok, Err, is_some}
use Rattle.std.specs.Prelude as prelude
use Rattle.refusal.specs.Told.{told}
use mathlib.Core.Path.{◌≡◌, refl, sym, ap, ◌∙◌, subst}
use mathlib.Core.List.{List, [], ◌∷◌}
use mathlib.Core.Bool.{Bool, true, false, cond}
use mathlib.Core.Option.{Option, none, some}
use Prim.Native.Nat.{ℕ, ◌-◌, ◌≤◌}
use native.Mathlib.Nat.{le_refl}
use native.Mathlib.Omega.{arith}
use lib.Dec.{eqb}
use lib.ListN.{length, take, drop}
use Rattle.refusal.specs.MeaningAnswer.{Answer, done, ◌>>=◌}
use Rattle.grammar.specs.MeaningReading.{Reading}
use Rattle.sheet.specs.MeaningName.{Name}
use Rattle.sheet.specs.MirrorField.{field_at}
use Rattle.sheet.specs.declared.Field.{Field}
use Rattle.grammar.proofs.Choosing.{clash}
use Rattle.schemas.specs.MeaningTree.{Tree, tree_at}
use Rattle.schemas.specs.MeaningTree.Tree.{nil}
use Rattle.schemas.specs.MeaningSchemas.{Schema, name_of, names_of, expr_of, mark_of, supertypes_of, entity_of, constraint_of, each}
use Rattle.expression.specs.MeaningExpression.{Expr}
use Rattle.lookup.specs.MirrorLookup.{itself, span_of, Lies}
use Rattle.lookup.specs.declared.Span.{Span}
use Rattle.lookup.proofs.Names.{span_bytes}
use Rattle.lookup.proofs.Fields.{tree_none}
use Rattle.declarations.specs.MeaningNamespace.{scope_in}
use Rattle.merging.specs.MeaningMerging.{Combined}
use Rattle.merging.specs.MirrorStream.{is_found}
use Rattle.records.specs.MeaningResolving.{rule_of}
use Rattle.gathering.specs.MeaningGathering.{through, supers_of}
use Rattle.records.specs.MirrorRecords.{number_meant, own_number, field_then, Meets, no_more, next, SpellsExpr, no_expr, there, Kept, Within, Room, schema_named}
use Rattle.gathering.specs.MirrorGathering.{sum, highest, rule_kept, constraint_kept}
use Rattle.gathering.specs.MirrorWalk.{tag_for, super_kept, item_kept, items_kept, is_full, gives, giving, Begins, item_size, item_level, items_size, items_level}
use Rattle.gathering.specs.MirrorWalk.{Step}
use Rattle.gathering.specs.MirrorWalk.Step.{Rules, Constraints, Subtypes}
use Rattle.records.proofs.Seeking.{met, names_sought, names_front, fields_over, fields_parted}
use Rattle.records.proofs.Records.{kept_none, kept_same}
use Rattle.gathering.proofs.Records.{less_room}
use Rattle.gathering.proofs.Pairs.{no_names, its_names}
use Rattle.gathering.proofs.Walking.{nests_for}

-- ---- whether there is something

spelt_full : (s : List ℕ) (o : Option (Expr Name)) (h : prelude.Option Field) → SpellsExpr s o h → is_some h ≡ is_found o
unfolding is_found
spelt_full s o None (no_expr z) = rw z refl
spelt_full s o (Some d) (there m) = rw m.is refl

names_full : (s : List ℕ) (a b : ℕ) (h : prelude.Option Field) → Meets s a b 0x10 0x10 h → is_some h ≡ is_full (names_of (tree_at s a b))
unfolding is_full names_of
names_full s a b None (no_more z) = rw (names_sought (tree_at s a b), z) refl
names_full s a b (Some d) (next m) =
    let z : d.tag ≡ 0x10 = omega (arith, m.from, m.to) in
    let n = names_sought (tree_at s a b) ∙ ap names_of (m.seeks ∙ ap (λ (u : ℕ). field_then s u d.start d.stop (tree_at s d.stop b)) z) ∙ names_front s d.start d.stop (omega (arith, m.behind)) (tree_at s d.stop b) in
    rw n refl

module _ (s : List ℕ) (at e : ℕ) (h : prelude.Option Field) (m : Meets s at e 0x34 0x34 h) where
  pub super_none : h ≡ None → (rd : Reading) → false ≡ gives rd Subtypes (tree_at s at e)
  unfolding gives is_full supers_of
  super_none q rd = rw (no_names s at e h m q) refl

  pub super_first : (d : Field) → h ≡ Some d → (k : prelude.Option Field) → Meets s d.start d.stop 0x10 0x10 k → (rd : Reading) → is_some k ≡ gives rd Subtypes (tree_at s at e)
  unfolding gives supers_of
  super_first d q k n rd = rw (its_names s at e h m d q) (names_full s d.start d.stop k n)

module _ (rd : Reading) (g : Tree) (s : List ℕ) where
  pub given_rule : (h : prelude.Option Field) → SpellsExpr s (rule_of rd (mark_of g)) h → is_some h ≡ gives rd Rules g
  unfolding gives
  given_rule h S = spelt_full s (rule_of rd (mark_of g)) h S

  pub given_expr : (h : prelude.Option Field) → SpellsExpr s (expr_of g) h → is_some h ≡ gives rd Constraints g
  unfolding gives
  given_expr h S = spelt_full s (expr_of g) h S

pub ruleset given_by = (given_rule, given_expr, super_none, super_first)

-- ---- a field that gives nothing adds nothing

module _ (rd : Reading) (xs : List Schema) (x : Schema) where
  nothing_kept : (k : Step) (p : ℕ) (g : Tree) → gives rd k g ≡ false → (cs : List (Combined ℕ)) → item_kept rd xs k x p g cs ≡ done cs
  unfolding gives item_kept is_found rule_kept constraint_kept is_full through
  nothing_kept Rules p g q cs = by (rule_of rd (mark_of g)) q
    where
      by : (o : Option (Expr Name)) → is_found o ≡ false → rule_kept eqb (number_meant rd xs) (own_number rd xs) x (entity_of p g) o cs ≡ done cs
      by none z = refl
      by (some e) z = clash (cc)
  nothing_kept Constraints p g q cs = by (expr_of g) q
    where
      by : (o : Option (Expr Name)) → is_found o ≡ false → constraint_kept eqb (number_meant rd xs) (own_number rd xs) x (constraint_of p g) o cs ≡ done cs
      by none z = refl
      by (some e) z = clash (cc)
  nothing_kept Subtypes p g q cs = by (supers_of (supertypes_of g)) q
    where
      by : (ns : List Name) → is_full ns ≡ false → through (super_kept rd xs (scope_in x) (own_number rd xs x (entity_of p g))) ns cs ≡ done cs
      by [] z = refl
      by (n ∷ ns) z = clash (cc)

  giving_through : (k : Step) (is : List (ℕ × Tree)) (cs : List (Combined ℕ)) → through (λ (i : ℕ × Tree). item_kept rd xs k x i.0 i.1) (giving rd k is) cs ≡ through (λ (i : ℕ × Tree). item_kept rd xs k x i.0 i.1) is cs
  unfolding giving through
  giving_through k [] cs = refl
  giving_through k (i ∷ is) cs = by (gives rd k i.1) refl (giving_through k is cs)
    where
      f : ℕ × Tree → List (Combined ℕ) → Answer (List (Combined ℕ))
      f j = item_kept rd xs k x j.0 j.1

      by : (b : Bool) → gives rd k i.1 ≡ b → through f (giving rd k is) cs ≡ through f is cs → through f (cond b (i ∷ is) (giving rd k is)) cs ≡ (f i cs >>= λ ds. through f is ds)
      by true q go = refl
      by false q go = rw (nothing_kept k i.0 i.1 q cs) go

module _ (rd : Reading) (k : Step) (c : ℕ × Tree → ℕ) where
  giving_sum : (is : List (ℕ × Tree)) → sum c (giving rd k is) ≤ sum c is
  unfolding giving sum
  giving_sum [] = le_refl 0
  giving_sum (i ∷ is) = by (gives rd k i.1) (giving_sum is)
    where
      by : (b : Bool) → sum c (giving rd k is) ≤ sum c is → sum c (cond b (i ∷ is) (giving rd k is)) ≤ sum c (i ∷ is)
      by true h = le_refl (sum c (i ∷ is))
      by false h = omega arith

  giving_highest : (is : List (ℕ × Tree)) → highest c (giving rd k is) ≤ highest c is
  unfolding giving highest
  giving_highest [] = le_refl 0
  giving_highest (i ∷ is) = by (gives rd k i.1) (giving_highest is)
    where
      by : (b : Bool) → highest c (giving rd k is) ≤ highest c is → highest c (cond b (i ∷ is) (giving rd k is)) ≤ highest c (i ∷ is)
      by true h = le_refl (highest c (i ∷ is))
      by false h = omega arith

-- ---- `first_given`

pub record Passing (rd : Reading) (k : Step) (s : List ℕ) (at e tag from : ℕ) : Type 0 where
  pub inside : from ≤ e
  pub fits_in : e ≤ length s
  pub tagged : tag ≡ tag_for k
  pub rest : giving rd k (each (tag_for k) itself (tree_at s at e)) ≡ giving rd k (each (tag_for k) itself (tree_at s from e))

pub pass_start : (rd : Reading) (k : Step) (s : List ℕ) (at e tag : ℕ) → at ≤ e → e ≤ length s → tag ≡ tag_for k → Passing rd k s at e tag at
pass_start rd k s at e tag i j q = record { inside = i; fits_in = j; tagged = q; rest = refl }

tree_end : (s : List ℕ) (e : ℕ) → tree_at s e e ≡ nil
unfolding field_at
tree_end s e = let z : e - e ≡ 0 = omega arith in tree_none s e e None (sym (rw z refl)) refl

module _ (rd : Reading) (k : Step) (s : List ℕ) (at e tag from : ℕ) (P : Passing rd k s at e tag from) (h : prelude.Option Field) (m : Meets s from e tag tag h) where
  pub pass_none : h ≡ None → Begins rd k s at e e
  unfolding giving each
  pass_none q = record { is = ap (each (tag_for k) itself) (tree_end s e) ∙ sym (P.rest ∙ ap (giving rd k) (fields_over (tag_for k) tag (nests_for k) P.tagged s from e h m q)); within = le_refl e }

  module _ (d : Field) (q : h ≡ Some d) where
    parted : each (tag_for k) itself (tree_at s from e) ≡ (d.start - 3, tree_at s d.start d.stop) ∷ each (tag_for k) itself (tree_at s d.stop e)
    parted = fields_parted (tag_for k) tag (nests_for k) P.tagged s from e h m d q

    module _ (x : Bool) (X : x ≡ gives rd k (tree_at s d.start d.stop)) where
      pub pass_given : x ≡ true → Begins rd k s at e from
      unfolding giving
      pass_given z = record { is = sym (P.rest ∙ rw (parted, ← X, z) refl); within = P.inside }

      pub pass_on : x ≡ false → Passing rd k s at e tag d.stop
      unfolding giving
      pass_on z = record { inside = (met m d q).within; fits_in = P.fits_in; tagged = P.tagged; rest = P.rest ∙ rw (parted, ← X, z) refl }

pub ruleset passing = (pass_start, pass_none, pass_given, pass_on)

-- ---- the name of a schema is the scope in it; where nothing is given, nothing is kept

module _ (rd : Reading) (k : Step) (s : List ℕ) (at e from used : ℕ) (w₀ : List ℕ) (B : Begins rd k s at e from) (R : Room (items_size k (tree_at s at e)) (items_level k (tree_at s at e)) used w₀) where
  pub begun_none : (xs : List Schema) → from ≡ e → Kept (items_kept rd xs k (name_of (tree_at s at e)).bytes (tree_at s at e)) (told (Ok used)) used w₀ w₀
  unfolding through each
  begun_none xs q =
      let z : giving rd k (each (tag_for k) itself (tree_at s at e)) ≡ [] = sym B.is ∙ ap (λ (i : ℕ). each (tag_for k) itself (tree_at s i e)) q ∙ ap (each (tag_for k) itself) (tree_end s e) in
      kept_none used w₀ R.front (λ cs. sym (giving_through rd xs (schema_named (name_of (tree_at s at e)).bytes) k (each (tag_for k) itself (tree_at s at e)) cs) ∙ rw z refl)

  pub begun_in : Within s at e → Within s from e
  begun_in W = record { short = W.short; rising = B.within; within = W.within }

  pub begun_room : Room (items_size k (tree_at s from e)) (items_level k (tree_at s from e)) used w₀
  unfolding items_size items_level
  begun_room = less_room R (rw B.is (giving_sum rd k (λ (i : ℕ × Tree). item_size k i.1) (each (tag_for k) itself (tree_at s at e)))) (rw B.is (giving_highest rd k (λ (i : ℕ × Tree). item_level k i.1) (each (tag_for k) itself (tree_at s at e))))

  pub begun_so : (xs : List Schema) (i : Span) → i ≡ span_of (name_of (tree_at s at e)) → Lies s (name_of (tree_at s at e)) → (r : Answer ℕ) (w₁ : List ℕ)
      → Kept (items_kept rd xs k (take (i.stop - i.start) (drop i.start s)) (tree_at s from e)) r used w₀ w₁ → Kept (items_kept rd xs k (name_of (tree_at s at e)).bytes (tree_at s at e)) r used w₀ w₁
  begun_so xs i I L r w₁ K =
      kept_same _ (λ cs. rw B.is (giving_through rd xs (schema_named (name_of (tree_at s at e)).bytes) k (each (tag_for k) itself (tree_at s at e)) cs))
      (subst (λ (w : List ℕ). Kept (items_kept rd xs k w (tree_at s from e)) r used w₀ w₁) (span_bytes s (name_of (tree_at s at e)) i I L) K)

pub ruleset beginning = (begun_none, begun_in, begun_room, begun_so)
