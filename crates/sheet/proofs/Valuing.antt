-- What is wrong with a value, by its kind: the lengths and kinds of the table's rows say it.
use mathlib.Core.Path.{◌≡◌, refl}
use mathlib.Core.List.{List, [], ◌∷◌}
use mathlib.Core.Bool.{Bool, true, false, cond}
use Prim.Native.Nat.{ℕ, suc, ◌<◌, ◌≤◌}
use native.Mathlib.Omega.{arith}
use borrow.Author.Tests.{eqb-true, eqb-false, eq-eqb, ne_eqb, ltb-true, ltb-false, lt-ltb, le-ltb, lt-leb}
use lib.Dec.{eqb, ltb, leb}
use lib.ListN.{length, get_or}
use Rattle.sheet.specs.MeaningName.{is_name, starts_with_letter}
use Rattle.grammar.specs.MeaningGrammar.{Kind, kind_of, holds_simple, most_name_bytes, most_bytes}
use Rattle.grammar.specs.MeaningGrammar.Kind.{name, simple, empty, fields}
use Rattle.grammar.specs.MirrorRows.{leaf_kind}
use Rattle.grammar.specs.MirrorTable.{row_count, cell_at, row_of}
use Rattle.sheet.specs.MirrorCheck.{kind_fault, length_fault, value_fault}
use Rattle.grammar.proofs.Choosing.{clash}
use Rattle.grammar.proofs.Tabulated.{leafs}

abbrev pub fault_kind : Kind → List ℕ → ℕ
fault_kind name v = cond (is_name v) 0 4
fault_kind simple v = cond (holds_simple v) 0 3
fault_kind empty v = cond (eqb (length v) 0) 0 3
fault_kind fields v = 0

-- the same with the cells as numbers
abbrev fault_by : List ℕ → ℕ → ℕ → ℕ → ℕ
fault_by v lo hi kind = cond (ltb (length v) lo) (length_fault kind) (cond (ltb hi (length v)) (length_fault kind) (kind_fault v kind))

name_long : (v : List ℕ) (b : Bool) → ltb most_name_bytes (length v) ≡ b → ◌≡◌ {A = ℕ} (cond b 4 (cond (is_name v) 0 4)) (cond (is_name v) 0 4)
unfolding is_name
name_long v true q = let z : leb (length v) most_name_bytes ≡ false = lt-leb (length v) most_name_bytes (ltb-true most_name_bytes (length v) q) in rw z refl
name_long v false q = refl

name_nil : is_name [] ≡ false
unfolding is_name starts_with_letter
name_nil = refl

name_fault : (v : List ℕ) → fault_by v 1 most_name_bytes 1 ≡ cond (is_name v) 0 4
unfolding length_fault kind_fault
name_fault [] = rw (name_nil) refl
name_fault (x ∷ xs) = let z : ltb (suc (length xs)) 1 ≡ false = le-ltb (suc (length xs)) 1 (omega arith) in rw z (name_long (x ∷ xs) (ltb most_name_bytes (suc (length xs))) refl)

simple_fault : (v : List ℕ) (a b : Bool) → ltb (length v) 1 ≡ a → ltb 1 (length v) ≡ b → ◌≡◌ {A = ℕ} (cond a 3 (cond b 3 (cond (leb (get_or v 0 0) 6) 0 3))) (cond (holds_simple v) 0 3)
unfolding holds_simple
simple_fault v true b q r = let z : eqb (length v) 1 ≡ false = ne_eqb (length v) 1 (λ e. omega (arith, ltb-true (length v) 1 q)) in rw z refl
simple_fault v false true q r = let z : eqb (length v) 1 ≡ false = ne_eqb (length v) 1 (λ e. omega (arith, ltb-true 1 (length v) r)) in rw z refl
simple_fault v false false q r = let z : eqb (length v) 1 ≡ true = eq-eqb (length v) 1 (omega (arith, ltb-false (length v) 1 q, ltb-false 1 (length v) r)) in rw z refl

empty_fault : (v : List ℕ) → fault_by v 0 0 3 ≡ cond (eqb (length v) 0) 0 3
unfolding length_fault kind_fault
empty_fault [] = refl
empty_fault (x ∷ xs) =
    let z : ltb (suc (length xs)) 0 ≡ false = le-ltb (suc (length xs)) 0 (omega arith) in
    let y : ltb 0 (suc (length xs)) ≡ true = lt-ltb 0 (suc (length xs)) (omega arith) in
    let w : eqb (suc (length xs)) 0 ≡ false = ne_eqb (suc (length xs)) 0 (λ e. omega arith) in
    rw (z, y, w) refl

simple_value : (v : List ℕ) → fault_by v 1 1 2 ≡ cond (holds_simple v) 0 3
unfolding length_fault kind_fault
simple_value v = simple_fault v (ltb (length v) 1) (ltb 1 (length v)) refl refl

fields_value : (v : List ℕ) → length v ≤ most_bytes → fault_by v 0 most_bytes 0 ≡ 0
unfolding length_fault kind_fault
fields_value v l = rw (le-ltb (length v) 0 (omega arith), le-ltb most_bytes (length v) l) refl

kind_fault_law : (k : Kind) (v : List ℕ) (lo hi kind : ℕ) → length v ≤ most_bytes → (lo ∷ hi ∷ kind ∷ []) ≡ leaf_kind k → fault_by v lo hi kind ≡ fault_kind k v
unfolding leaf_kind
kind_fault_law name v lo hi kind l q = let a : lo ≡ 1 = cc in let b : hi ≡ most_name_bytes = cc in let c : kind ≡ 1 = cc in rw (a, b, c) (name_fault v)
kind_fault_law simple v lo hi kind l q = let a : lo ≡ 1 = cc in let b : hi ≡ 1 = cc in let c : kind ≡ 2 = cc in rw (a, b, c) (simple_value v)
kind_fault_law empty v lo hi kind l q = let a : lo ≡ 0 = cc in let b : hi ≡ 0 = cc in let c : kind ≡ 3 = cc in rw (a, b, c) (empty_fault v)
kind_fault_law fields v lo hi kind l q = let a : lo ≡ 0 = cc in let b : hi ≡ most_bytes = cc in let c : kind ≡ 0 = cc in rw (a, b, c) (fields_value v l)

kind_fields : (k : Kind) (x y z : ℕ) → (x ∷ y ∷ z ∷ []) ≡ leaf_kind k → (z ≡ 0 → k ≡ fields) × (k ≡ fields → z ≡ 0)
unfolding leaf_kind
kind_fields name x y z q = (λ a. clash (let w : z ≡ 1 = cc in omega arith), λ a. clash (cc))
kind_fields simple x y z q = (λ a. clash (let w : z ≡ 2 = cc in omega arith), λ a. clash (cc))
kind_fields empty x y z q = (λ a. clash (let w : z ≡ 3 = cc in omega arith), λ a. clash (cc))
kind_fields fields x y z q = (λ a. refl, λ a. cc)

-- ---- at the row of a tag

module _ (p st t : ℕ) (b : t < 256) (h : ltb (row_of p st t) row_count ≡ true) where
  pub value_is : (v : List ℕ) → length v ≤ most_bytes → value_fault v (row_of p st t) ≡ fault_kind (kind_of t) v
  unfolding value_fault
  value_is v l = kind_fault_law (kind_of t) v (cell_at (row_of p st t) 5) (cell_at (row_of p st t) 6) (cell_at (row_of p st t) 7) l (leafs p st t b h)

  pub holds_fields_law : eqb (cell_at (row_of p st t) 7) 0 ≡ true → kind_of t ≡ fields
  holds_fields_law q = (kind_fields (kind_of t) _ _ _ (leafs p st t b h)).0 (eqb-true (cell_at (row_of p st t) 7) 0 q)

  pub holds_none : eqb (cell_at (row_of p st t) 7) 0 ≡ false → kind_of t ≡ fields → ⊥
  holds_none q k = eqb-false (cell_at (row_of p st t) 7) 0 q ((kind_fields (kind_of t) _ _ _ (leafs p st t b h)).1 k)
