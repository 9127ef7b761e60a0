-- The fields of a value by what `field_at` answers at a place: laws for every loop over the fields with a tag.
use mathlib.Core.Path.{◌≡◌, refl, sym, ap, ◌∙◌, subst}
use mathlib.Core.List.{List, [], ◌∷◌, map}
use mathlib.Core.Bool.{Bool, true, false, cond}
use Prim.Native.Nat.{ℕ, ◌+◌, ◌-◌, ◌<◌, ◌≤◌}
use native.Mathlib.Omega.{arith}
use lib.Dec.{ltb, eqb}
use lib.ListN.{length}
use Rattle.std.specs.Prelude.{Option, Some, None}
use Rattle.grammar.specs.MeaningGrammar.{kind_of, one_of}
use Rattle.sheet.specs.MeaningSheet.{size_of}
use Rattle.sheet.specs.MirrorField.{field_at}
use Rattle.sheet.specs.declared.Field.{Field}
use Rattle.grammar.proofs.Choosing.{either}
use Rattle.sheet.proofs.Deciding.{inside}
use Rattle.forest.specs.MeaningPlaces.{nests}
use Rattle.forest.proofs.Laying.{part}
use Rattle.schemas.specs.MeaningTree.{Tree, tree_at}
use Rattle.schemas.specs.MeaningTree.Tree.{nil, leaf, node}
use Rattle.schemas.specs.MeaningSchemas.{each}
use Rattle.schemas.proofs.Trees.{onto, Grows, grows, each_here, each_other}

pub nests_name : nests 0x10 ≡ false
unfolding kind_of one_of
nests_name = refl

pub nests_type : nests 0x20 ≡ true
unfolding kind_of one_of
nests_type = refl

pub nests_entity : nests 0x30 ≡ true
unfolding kind_of one_of
nests_entity = refl

abbrev Starts : ℕ → Option Field → Type 0
Starts at None = Unit {0}
Starts at (Some f) = f.start ≡ at + 3

starts : (s : List ℕ) (at e : ℕ) → Starts at (field_at s at e)
unfolding field_at
starts s at e = either (Starts at) (ltb (e - at) 3) None _ (λ _. tt) (λ h. either (Starts at) (ltb (e - (at + 3)) (size_of s at)) None _ (λ _. tt) (λ k. refl))

-- h is the answer of `field_at`
module _ (s : List ℕ) (at e : ℕ) (h : Option Field) (w : h ≡ field_at s at e) where
  pub tree_none : h ≡ None → tree_at s at e ≡ nil
  tree_none q = subst (Grows s at e) (sym w ∙ q) (grows s at e)

  -- no field is left
  pub none_left : {A : Type 0} (u : ℕ) (read : ℕ → Tree → A) → h ≡ None → each u read (tree_at s at e) ≡ []
  unfolding each
  none_left u read q = ap (each u read) (tree_none q)

  module _ (f : Field) (q : h ≡ Some f) where
    lies : (at < f.start) × (f.start ≤ f.stop) × (f.stop ≤ e)
    lies = let i = inside s at e in rw (sym w ∙ q) at i

    pub tree_field : tree_at s at e ≡ onto (nests f.tag) f.tag at (part s f.start f.stop) (tree_at s f.start f.stop) (tree_at s f.stop e)
    tree_field = subst (Grows s at e) (sym w ∙ q) (grows s at e)

    -- a field with the tag stands here
    pub one_here : {A : Type 0} (read : ℕ → Tree → A) (u : ℕ) → f.tag ≡ u → nests u ≡ true → each u read (tree_at s at e) ≡ read at (tree_at s f.start f.stop) ∷ each u read (tree_at s f.stop e)
    one_here read u k n = ap (each u read) (rw (k, n) at tree_field) ∙ each_here u at read (part s f.start f.stop) (tree_at s f.start f.stop) (tree_at s f.stop e)

    -- another one does
    pub other_here : {A : Type 0} (read : ℕ → Tree → A) (u : ℕ) → (f.tag ≡ u → ⊥) → each u read (tree_at s at e) ≡ each u read (tree_at s f.stop e)
    other_here read u d = ap (each u read) tree_field ∙ each_other u f.tag at read (nests f.tag) (part s f.start f.stop) (tree_at s f.start f.stop) (tree_at s f.stop e) d

    pub field_start : f.start ≡ at + 3
    field_start = subst (Starts at) (sym w ∙ q) (starts s at e)

    pub field_order : f.start ≤ f.stop
    field_order = lies.1

    pub field_in : f.stop ≤ e
    field_in = lies.2

    pub field_on : at < f.stop
    field_on = let i = lies in omega arith

    pub field_there : e ≤ length s → f.stop ≤ length s
    field_there k = let i = lies in omega arith

    pub field_less : e - f.stop < e - at
    field_less = let i = lies in omega arith

pub ruleset fields = (field_order, field_in, field_there, field_less)

-- ---- one way to read fields over another

pub each_map : {A B : Type 0} (f : A → B) (u : ℕ) (read : ℕ → Tree → A) (t : Tree) → map f (each u read t) ≡ each u (λ p g. f (read p g)) t
unfolding each
each_map f u read nil = refl
each_map f u read (leaf t p v x) = each_map f u read x
each_map {A} {B} f u read (node t p g x) = by (eqb t u) (each_map f u read x)
  where
    by : (b : Bool) → map f (each u read x) ≡ each u (λ p g. f (read p g)) x → map f (cond b (read p g ∷ each u read x) (each u read x)) ≡ cond b (f (read p g) ∷ each u (λ p g. f (read p g)) x) (each u (λ p g. f (read p g)) x)
    by true e = ap (λ (l : List B). f (read p g) ∷ l) e
    by false e = e

-- there are as many, however they are read
pub each_length : {A B : Type 0} (u : ℕ) (read : ℕ → Tree → A) (other : ℕ → Tree → B) (t : Tree) → length (each u read t) ≡ length (each u other t)
unfolding each
each_length u read other nil = refl
each_length u read other (leaf t p v x) = each_length u read other x
each_length {A} {B} u read other (node t p g x) = by (eqb t u) (each_length u read other x)
  where
    by : (b : Bool) → length (each u read x) ≡ length (each u other x) → length (cond b (read p g ∷ each u read x) (each u read x)) ≡ length (cond b (other p g ∷ each u other x) (each u other x))
    by true e = ap Prim.Native.Nat.suc e
    by false e = e
