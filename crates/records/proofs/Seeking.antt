-- The next field with a tag between two: laws for its loop, and what it says of what is read from the fields.
use mathlib.Core.Path.{◌≡◌, refl, ap, ◌∙◌, subst}
use mathlib.Core.List.{List, [], ◌∷◌}
use mathlib.Core.Bool.{Bool, true, false, cond}
use mathlib.Core.Option.{Option, none, some}
use Rattle.std.specs.Prelude.{Some, None}
use Rattle.std.specs.Prelude as prelude
use mathlib.Core.Logic.{◌⊎◌, inl, inr}
use Prim.Native.Nat.{ℕ, zero, suc, ◌+◌, ◌-◌, ◌<◌, ◌≤◌}
use native.Mathlib.Nat.{le_refl}
use native.Mathlib.Omega.{arith}
use borrow.Author.Tests.{lt-ltb, le-ltb, ltb-true, eq-eqb, ne_eqb}
use lib.Dec.{ltb, eqb}
use lib.ListN.{length, take, drop}
use Rattle.grammar.specs.MeaningReading.{Reading}
use Rattle.grammar.specs.MeaningReading.Reading.{rust}
use Rattle.sheet.specs.MeaningName.{Name}
use Rattle.grammar.specs.MeaningGrammar.{kind_of, one_of}
use Rattle.sheet.specs.MirrorField.{field_at}
use Rattle.sheet.specs.declared.Field.{Field}
use Rattle.grammar.proofs.Choosing.{clash}
use Rattle.forest.specs.MeaningPlaces.{nests}
use Rattle.schemas.specs.MeaningTree.{Tree, tree_at}
use Rattle.schemas.specs.MeaningTree.Tree.{nil, leaf, node}
use Rattle.schemas.specs.MeaningSchemas.{name_at, names_of, terms_of, expr_of, ruled, mark_of, supertypes_of, each}
use Rattle.schemas.proofs.Trees.{onto}
use Rattle.expression.specs.MeaningExpression.{Expr}
use Rattle.expression.specs.MeaningExpression.Terms.{◌then◌}
use Rattle.lookup.specs.MirrorLookup.{itself}
use Rattle.lookup.proofs.Fields.{tree_none, tree_field, field_start, field_order, field_in, field_on}
use Rattle.records.specs.MeaningResolving.{rule_of}
use Rattle.records.specs.MirrorRecords.{seek, field_then, Met, Meets, no_more, next, word_at, op_of, expr_in, gives_rule}

onto_field : (s : List ℕ) (t a b p : ℕ) (f : Tree) → a ≡ p + 3 → onto (nests t) t p (take (b - a) (drop a s)) (tree_at s a b) f ≡ field_then s t a b f
unfolding field_then
onto_field s t a b p f e = let z : a - 3 ≡ p = omega arith in rw z (by (nests t))
  where
    by : (n : Bool) → onto n t p (take (b - a) (drop a s)) (tree_at s a b) f ≡ cond n (node t p (tree_at s a b) f) (leaf t p (take (b - a) (drop a s)) f)
    by true = refl
    by false = refl

module _ (s : List ℕ) (low high t a b : ℕ) (f : Tree) where
  seek_low : t < low → seek low high (field_then s t a b f) ≡ seek low high f
  unfolding field_then seek
  seek_low h = by (nests t)
    where
      by : (n : Bool) → seek low high (cond n (node t (a - 3) (tree_at s a b) f) (leaf t (a - 3) (take (b - a) (drop a s)) f)) ≡ seek low high f
      by true = rw (lt-ltb t low h)
      by false = rw (lt-ltb t low h)

  seek_high : low ≤ t → high < t → seek low high (field_then s t a b f) ≡ seek low high f
  unfolding field_then seek
  seek_high k h = by (nests t)
    where
      by : (n : Bool) → seek low high (cond n (node t (a - 3) (tree_at s a b) f) (leaf t (a - 3) (take (b - a) (drop a s)) f)) ≡ seek low high f
      by true = rw (le-ltb t low k, lt-ltb high t h)
      by false = rw (le-ltb t low k, lt-ltb high t h)

  seek_here : low ≤ t → t ≤ high → seek low high (field_then s t a b f) ≡ field_then s t a b f
  unfolding field_then seek
  seek_here k h = by (nests t)
    where
      by : (n : Bool) → seek low high (cond n (node t (a - 3) (tree_at s a b) f) (leaf t (a - 3) (take (b - a) (drop a s)) f)) ≡ cond n (node t (a - 3) (tree_at s a b) f) (leaf t (a - 3) (take (b - a) (drop a s)) f)
      by true = rw (le-ltb t low k, le-ltb high t h)
      by false = rw (le-ltb t low k, le-ltb high t h)

-- ---- the loop

pub record Seeking (s : List ℕ) (at e low high from : ℕ) : Type 0 where
  pub began : at ≤ from
  pub inside : from ≤ e
  pub fits_in : e ≤ length s
  pub rest : seek low high (tree_at s at e) ≡ seek low high (tree_at s from e)

pub seek_start : (s : List ℕ) (at e low high : ℕ) → at ≤ e → e ≤ length s → Seeking s at e low high at
seek_start s at e low high i j = record { began = le_refl at; inside = i; fits_in = j; rest = refl }

module _ (s : List ℕ) (at e low high from : ℕ) (f : Seeking s at e low high from) (h : prelude.Option Field) (w : h ≡ field_at s from e) where
  pub seek_none : h ≡ None → Meets s at e low high None
  unfolding seek
  seek_none q = no_more (f.rest ∙ ap (seek low high) (tree_none s from e h w q))

  module _ (d : Field) (q : h ≡ Some d) where
    here : tree_at s from e ≡ field_then s d.tag d.start d.stop (tree_at s d.stop e)
    here = tree_field s from e h w d q ∙ onto_field s d.tag d.start d.stop from (tree_at s d.stop e) (field_start s from e h w d q)

    go_on : seek low high (tree_at s from e) ≡ seek low high (tree_at s d.stop e) → Seeking s at e low high d.stop
    go_on z = record { began = omega (arith, f.began, field_on s from e h w d q); inside = field_in s from e h w d q; fits_in = f.fits_in; rest = f.rest ∙ z }

    pub seek_less : e - d.stop < e - from
    seek_less = omega (arith, field_on s from e h w d q, field_in s from e h w d q)

    pub seek_past : ((low ≤ d.tag) × (high < d.tag)) ⊎ (d.tag < low) → Seeking s at e low high d.stop
    seek_past (inl k) = go_on (ap (seek low high) here ∙ seek_high s low high d.tag d.start d.stop (tree_at s d.stop e) k.0 k.1)
    seek_past (inr k) = go_on (ap (seek low high) here ∙ seek_low s low high d.tag d.start d.stop (tree_at s d.stop e) k)

    pub seek_found : low ≤ d.tag → d.tag ≤ high → Meets s at e low high (Some d)
    seek_found k l = next (record {
      seeks = f.rest ∙ ap (seek low high) here ∙ seek_here s low high d.tag d.start d.stop (tree_at s d.stop e) k l;
      from = k;
      to = l;
      behind = omega (arith, f.began, field_start s from e h w d q);
      rising = field_order s from e h w d q;
      within = field_in s from e h w d q;
    })

pub ruleset seeking = (seek_start, seek_none, seek_less, seek_past, seek_found)

-- ---- what the field met says of what is read

pub met : {s : List ℕ} {at e low high : ℕ} {h : prelude.Option Field} → Meets s at e low high h → (d : Field) → h ≡ Some d → Met s at e low high d.tag d.start d.stop
met (no_more z) d q = clash (cc)
met {s} {at} {e} {low} {high} (next {f = c} m) d q = let x : c ≡ d = cc in subst (λ (c : Field). Met s at e low high c.tag c.start c.stop) x m

pub met_none : {s : List ℕ} {at e low high : ℕ} {h : prelude.Option Field} → Meets s at e low high h → h ≡ None → seek low high (tree_at s at e) ≡ nil
met_none (no_more z) q = z
met_none (next m) q = clash (cc)

-- where it lies
module _ (s : List ℕ) (at e low high : ℕ) (h : prelude.Option Field) (m : Meets s at e low high h) (d : Field) (q : h ≡ Some d) where
  pub met_from : low ≤ d.tag
  met_from = (met m d q).from

  pub met_to : d.tag ≤ high
  met_to = (met m d q).to

  pub met_rising : d.start ≤ d.stop
  met_rising = (met m d q).rising

  pub met_in : d.stop ≤ e
  met_in = (met m d q).within

  pub met_there : e ≤ length s → d.stop ≤ length s
  met_there l = omega (arith, (met m d q).within)

  pub met_less : e - d.stop < e - at
  met_less = let x = met m d q in omega (arith, x.behind, x.rising, x.within)

pub ruleset meeting = (met_from, met_to, met_rising, met_in, met_there, met_less)

-- no field between the two tags
data Out (low high t : ℕ) : Type 0 where
  under : t < low → Out low high t
  over : high < t → Out low high t

out_of : {low high t : ℕ} → Out low high t → (u : ℕ) → low ≤ u → u ≤ high → eqb t u ≡ false
out_of {low} {high} {t} (under h) u k l = ne_eqb t u (λ e. (let z : ⊥ = omega arith in z))
out_of {low} {high} {t} (over h) u k l = ne_eqb t u (λ e. (let z : ⊥ = omega arith in z))

-- what does not look at other fields reads from the field that is sought
module _ {A : Type 0} (F : Tree → A) (low high : ℕ) (leafs : (t p : ℕ) (v : List ℕ) (f : Tree) → Out low high t → F (leaf t p v f) ≡ F f)
    (nodes : (t p : ℕ) (g f : Tree) → Out low high t → F (node t p g f) ≡ F f) where
  sought : (T : Tree) → F T ≡ F (seek low high T)
  unfolding seek
  sought nil = refl
  sought (leaf t p v f) = by (ltb t low) refl (ltb high t) refl (sought f)
    where
      by : (x : Bool) → ltb t low ≡ x → (y : Bool) → ltb high t ≡ y → F f ≡ F (seek low high f) → F (leaf t p v f) ≡ F (cond x (seek low high f) (cond y (seek low high f) (leaf t p v f)))
      by true q y r i = leafs t p v f (under (ltb-true t low q)) ∙ i
      by false q true r i = leafs t p v f (over (ltb-true high t r)) ∙ i
      by false q false r i = refl
  sought (node t p g f) = by (ltb t low) refl (ltb high t) refl (sought f)
    where
      by : (x : Bool) → ltb t low ≡ x → (y : Bool) → ltb high t ≡ y → F f ≡ F (seek low high f) → F (node t p g f) ≡ F (cond x (seek low high f) (cond y (seek low high f) (node t p g f)))
      by true q y r i = nodes t p g f (under (ltb-true t low q)) ∙ i
      by false q true r i = nodes t p g f (over (ltb-true high t r)) ∙ i
      by false q false r i = refl

-- ---- expressions

pub terms_sought : (T : Tree) → terms_of T ≡ terms_of (seek 0x50 0x53 T)
unfolding terms_of
terms_sought = sought terms_of 0x50 0x53 (λ t p v f o. rw (out_of o 0x50 (omega arith) (omega arith))) (λ t p g f o. rw (out_of o 0x51 (omega arith) (omega arith), out_of o 0x52 (omega arith) (omega arith), out_of o 0x53 (omega arith) (omega arith)))

pub mark_sought : (T : Tree) → mark_of T ≡ mark_of (seek 0x31 0x33 T)
unfolding mark_of
mark_sought = sought mark_of 0x31 0x33 (λ t p v f o. rw (out_of o 0x32 (omega arith) (omega arith))) (λ t p g f o. rw (out_of o 0x31 (omega arith) (omega arith), out_of o 0x33 (omega arith) (omega arith)))

pub supers_sought : (T : Tree) → supertypes_of T ≡ supertypes_of (seek 0x34 0x34 T)
unfolding supertypes_of
supers_sought = sought supertypes_of 0x34 0x34 (λ t p v f o. refl) (λ t p g f o. rw (out_of o 0x34 (omega arith) (omega arith)))

pub names_sought : (T : Tree) → names_of T ≡ names_of (seek 0x10 0x10 T)
unfolding names_of
names_sought = sought names_of 0x10 0x10 (λ t p v f o. rw (out_of o 0x10 (omega arith) (omega arith))) (λ t p g f o. refl)

each_sought : {A : Type 0} (u : ℕ) (read : ℕ → Tree → A) (T : Tree) → each u read T ≡ each u read (seek u u T)
unfolding each
each_sought u read = sought (each u read) u u (λ t p v f o. refl) (λ t p g f o. rw (out_of o u (le_refl u) (le_refl u)))

-- ---- the field in front

pub data Tag (low : ℕ) : ℕ → Type 0 where
  zeroth : Tag low low
  first : Tag low (low + 1)
  second : Tag low (low + 2)
  third : Tag low (low + 3)

pub tag_of : (low t : ℕ) → low ≤ t → t ≤ low + 3 → Tag low t
tag_of low t h k = by (t - low) t (omega arith) (omega arith)
  where
    by : (n t : ℕ) → t ≡ low + n → n ≤ 3 → Tag low t
    by zero t e l = let z : t ≡ low = omega arith in rw z zeroth
    by (suc zero) t e l = let z : t ≡ low + 1 = omega arith in rw z first
    by (suc (suc zero)) t e l = let z : t ≡ low + 2 = omega arith in rw z second
    by (suc (suc (suc zero))) t e l = let z : t ≡ low + 3 = omega arith in rw z third
    by (suc (suc (suc (suc n)))) t e l = absurd (omega arith)

module _ (s : List ℕ) (a b : ℕ) (k : 3 ≤ a) (f : Tree) where
  back : a - 3 + 3 ≡ a
  back = omega arith

  pub terms_front : (t : ℕ) → 0x50 ≤ t → t ≤ 0x53 → terms_of (field_then s t a b f) ≡ expr_in s t a b then terms_of f
  unfolding field_then expr_in word_at op_of terms_of name_at kind_of one_of
  terms_front t l h = by (tag_of 0x50 t l h)
    where
      by : {t : ℕ} → Tag 0x50 t → terms_of (field_then s t a b f) ≡ expr_in s t a b then terms_of f
      by zeroth = rw back
      by first = refl
      by second = refl
      by third = refl

  pub rule_front : (rd : Reading) (t : ℕ) → 0x31 ≤ t → t ≤ 0x33 → rule_of rd (mark_of (field_then s t a b f)) ≡ cond (gives_rule rd t) (expr_of (tree_at s a b)) none
  unfolding field_then mark_of rule_of gives_rule ruled kind_of one_of
  rule_front rust t l h = by (tag_of 0x31 t l (omega arith)) h
    where
      ruling : (o : Option (Expr Name)) → rule_of rust (ruled o) ≡ o
      ruling none = refl
      ruling (some e) = refl

      by : {t : ℕ} → Tag 0x31 t → t ≤ 0x33 → rule_of rust (mark_of (field_then s t a b f)) ≡ cond (gives_rule rust t) (expr_of (tree_at s a b)) none
      by zeroth h = ruling (expr_of (tree_at s a b))
      by first h = refl
      by second h = refl
      by third h = absurd (omega arith)

  pub supers_front : supertypes_of (field_then s 0x34 a b f) ≡ some (names_of (tree_at s a b))
  unfolding field_then supertypes_of kind_of one_of
  supers_front = refl

  pub names_front : names_of (field_then s 0x10 a b f) ≡ word_at s a b ∷ names_of f
  unfolding field_then names_of word_at name_at kind_of one_of
  names_front = rw back

  each_front : {A : Type 0} (u : ℕ) (read : ℕ → Tree → A) → nests u ≡ true → each u read (field_then s u a b f) ≡ read (a - 3) (tree_at s a b) ∷ each u read f
  unfolding field_then each
  each_front u read n = rw (n, eq-eqb u u refl)

-- ---- the fields with a tag, from the next one on

module _ (u tag : ℕ) (n : nests u ≡ true) (q : tag ≡ u) (s : List ℕ) (from e : ℕ) (h : prelude.Option Field) (m : Meets s from e tag tag h) where
  sought_so : each u itself (tree_at s from e) ≡ each u itself (seek tag tag (tree_at s from e))
  sought_so = rw q (each_sought u itself (tree_at s from e))

  pub fields_over : h ≡ None → each u itself (tree_at s from e) ≡ []
  unfolding each
  fields_over z = sought_so ∙ ap (each u itself) (met_none m z)

  pub fields_parted : (d : Field) → h ≡ Some d → each u itself (tree_at s from e) ≡ (d.start - 3, tree_at s d.start d.stop) ∷ each u itself (tree_at s d.stop e)
  unfolding itself
  fields_parted d z =
      let x = met m d z in
      let y : d.tag ≡ u = omega (arith, x.from, x.to) in
      sought_so ∙ ap (each u itself) (x.seeks ∙ ap (λ (v : ℕ). field_then s v d.start d.stop (tree_at s d.stop e)) y) ∙ each_front s d.start d.stop (omega (arith, x.behind)) (tree_at s d.stop e) u itself n
