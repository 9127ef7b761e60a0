-- The tree at a place: `tree_at`'s equation, in which no count of steps is left; what it is by the header that stands there; its fields with a tag, one by one; and without its places the forest.
use mathlib.Core.Path.{◌≡◌, refl, sym, ap, ap₂, ◌∙◌}
use mathlib.Core.List.{List, ◌∷◌}
use mathlib.Core.Bool.{Bool, true, false, cond}
use Prim.Native.Nat.{ℕ, zero, suc, ◌+◌, ◌-◌, ◌<◌, ◌≤◌}
use native.Mathlib.Nat.{not-suc-le-zero, le_refl}
use native.Mathlib.Omega.{arith}
use borrow.Author.Tests.{ltb-true, ltb-false, leb-true, le-leb, lt-leb, eq-eqb, ne_eqb}
use lib.Dec.{ltb, leb}
use lib.ListN.{length}
use Rattle.grammar.specs.MeaningGrammar.{kind_of, one_of}
use Rattle.sheet.specs.MeaningSheet.{tag_of, size_of, end_of}
use Rattle.sheet.specs.MirrorField.{field_at}
use Rattle.std.specs.Prelude.{Option, Some, None}
use Rattle.sheet.specs.declared.Field.{Field}
use Rattle.grammar.proofs.Choosing.{either}
use Rattle.sheet.proofs.Deciding.{Inside, inside}
use Rattle.forest.specs.MeaningForest.{Forest}
use Rattle.forest.specs.MeaningForest.Forest.{leaf as plain, node as nested}
use Rattle.forest.specs.MeaningPlaces.{nests}
use Rattle.forest.specs.MeaningDecoding.{forest_at}
use Rattle.forest.proofs.Laying.{part}
use Rattle.forest.proofs.Growing.{Grown, grown, onto as bare-in}
use Rattle.schemas.specs.MeaningTree.{Tree, grow, tree_by, tree_at}
use Rattle.schemas.specs.MeaningBare.{bare}
use Rattle.schemas.specs.MeaningTree.Tree.{nil, leaf, node}
use Rattle.schemas.specs.MeaningSchemas.{each}

same_grow : (f g : ℕ → ℕ → Tree) (s : List ℕ) (at e : ℕ) → ((a b : ℕ) → at < a → a ≤ b → b ≤ e → f a b ≡ g a b) → grow f s at e ≡ grow g s at e
unfolding grow
same_grow f g s at e k = go (leb (end_of s at) e) refl
  where
    go : (b : Bool) → leb (end_of s at) e ≡ b → grow f s at e ≡ grow g s at e
    go true q =
        let l = leb-true (end_of s at) e q in
        let x = k (at + 3) (end_of s at) (omega arith) (omega arith) l in
        let y = k (end_of s at) e (omega arith) l (le_refl e) in
        rw (x, y)
    go false q = rw q refl

fuel : (s : List ℕ) (n m at e : ℕ) → e - at < n → e - at < m → tree_by n s at e ≡ tree_by m s at e
unfolding tree_by
fuel s zero m at e h k = absurd (not-suc-le-zero h)
fuel s (suc n) zero at e h k = absurd (not-suc-le-zero k)
fuel s (suc n) (suc m) at e h k = same_grow (tree_by n s) (tree_by m s) s at e (λ a b i j l. fuel s n m a b (omega arith) (omega arith))

pub tree_eq : (s : List ℕ) (at e : ℕ) → tree_at s at e ≡ grow (tree_at s) s at e
unfolding tree_at tree_by
tree_eq s at e = same_grow (tree_by (e - at) s) (tree_at s) s at e (λ a b i j l. fuel s (e - at) (suc (b - a)) a b (omega arith) (omega arith))

-- one more field in front
abbrev pub onto : Bool → ℕ → ℕ → List ℕ → Tree → Tree → Tree
onto true t p v g f = node t p g f
onto false t p v g f = leaf t p v f

onto_cond : (b : Bool) (t p : ℕ) (v : List ℕ) (g f : Tree) → cond b (node t p g f) (leaf t p v f) ≡ onto b t p v g f
onto_cond true t p v g f = refl
onto_cond false t p v g f = refl

-- the tree at a place, by what stands there
abbrev pub Grows : List ℕ → ℕ → ℕ → Option Field → Type 0
Grows s at e None = tree_at s at e ≡ nil
Grows s at e (Some f) = tree_at s at e ≡ onto (nests f.tag) f.tag at (part s f.start f.stop) (tree_at s f.start f.stop) (tree_at s f.stop e)

module _ (s : List ℕ) (at e : ℕ) where
  cut : e < end_of s at → tree_at s at e ≡ nil
  unfolding grow
  cut h = tree_eq s at e ∙ rw (lt-leb (end_of s at) e h)

  here : (n : ℕ) → size_of s at ≡ n → at + 3 + n ≤ e → Grows s at e (Some (record { tag = tag_of s at; start = at + 3; stop = at + 3 + n }))
  unfolding grow
  here n q h =
      let z : leb (at + 3 + n) e ≡ true = le-leb (at + 3 + n) e h in
      let y : at + 3 + n - (at + 3) ≡ n = omega arith in
      tree_eq s at e ∙ rw (q, z, y) (onto_cond (nests (tag_of s at)) _ _ _ _ _)

  pub grows : Grows s at e (field_at s at e)
  unfolding field_at
  grows =
      either (Grows s at e) (ltb (e - at) 3) None _
      (λ k. cut (omega (arith, ltb-true (e - at) 3 k)))
      (λ k. either (Grows s at e) (ltb (e - (at + 3)) (size_of s at)) None _
      (λ w. cut (omega (arith, ltb-true (e - (at + 3)) (size_of s at) w)))
      (λ w. here (size_of s at) refl (omega (arith, ltb-false (e - at) 3 k, ltb-false (e - (at + 3)) (size_of s at) w))))

-- fields with a tag that holds fields, one by one
pub each_here : {A : Type 0} (u p : ℕ) (read : ℕ → Tree → A) (v : List ℕ) (g f : Tree) → each u read (onto true u p v g f) ≡ read p g ∷ each u read f
unfolding each
each_here u p read v g f = rw (eq-eqb u u refl)

pub each_other : {A : Type 0} (u t p : ℕ) (read : ℕ → Tree → A) (b : Bool) (v : List ℕ) (g f : Tree) → (t ≡ u → ⊥) → each u read (onto b t p v g f) ≡ each u read f
unfolding each
each_other u t p read true v g f d = rw (ne_eqb t u d)
each_other u t p read false v g f d = refl

pub nests_schema : nests 0x01 ≡ true
unfolding kind_of one_of
nests_schema = refl

-- ---- without its places

abbrev Same : List ℕ → ℕ → ℕ → Type 0
Same s at e = bare (tree_at s at e) ≡ forest_at s at e

bare_onto : (b : Bool) (t p : ℕ) (v : List ℕ) (g f : Tree) (x y : Forest) → bare g ≡ x → bare f ≡ y → bare (onto b t p v g f) ≡ bare-in b t v x y
bare_onto true t p v g f x y k l = ap₂ (λ (a b : Forest). nested t a b) k l
bare_onto false t p v g f x y k l = ap (λ (a : Forest). plain t v a) l

step : (s : List ℕ) (at e : ℕ) → ((a b : ℕ) → at < a → a ≤ b → b ≤ e → Same s a b) → (h : Option Field) → Grows s at e h → Grown s at e h → Inside s at e h → Same s at e
step s at e go None x y i = ap bare x ∙ sym y
step s at e go (Some f) x y i =
    ap bare x ∙ bare_onto (nests f.tag) f.tag at (part s f.start f.stop) (tree_at s f.start f.stop) (tree_at s f.stop e) (forest_at s f.start f.stop) (forest_at s f.stop e) (go f.start f.stop i.0 i.1 i.2) (go f.stop e (omega arith) i.2 (le_refl e)) ∙ sym y

by_size : (n : ℕ) (s : List ℕ) (at e : ℕ) → e - at < n → e ≤ length s → Same s at e
by_size zero s at e h l = absurd (not-suc-le-zero h)
by_size (suc n) s at e h l = step s at e (λ a b i k j. by_size n s a b (omega arith) (omega arith)) (field_at s at e) (grows s at e) (grown s at e l) (inside s at e)

pub same_forest : (s : List ℕ) (at e : ℕ) → e ≤ length s → Same s at e
same_forest s at e l = by_size (suc (e - at)) s at e (omega arith) l
