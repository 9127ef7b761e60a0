-- A sheet has fewer declarations than bytes, so that `count_all` finds how many.
use mathlib.Core.Path.{◌≡◌, refl, subst}
use mathlib.Core.List.{List}
use mathlib.Core.Bool.{Bool, true, false}
use Prim.Native.Nat.{ℕ, zero, suc, ◌+◌, ◌-◌, ◌<◌, ◌≤◌}
use native.Mathlib.Nat.{not-suc-le-zero}
use native.Mathlib.Omega.{arith}
use borrow.Author.Tests.{eqb-true, eqb-false}
use lib.Dec.{eqb}
use lib.ListN.{length, length-append}
use Rattle.sheet.specs.MirrorField.{field_at}
use Rattle.std.specs.Prelude.{Option, Some, None, Result, Ok, Err}
use Rattle.sheet.specs.declared.Field.{Field}
use Rattle.grammar.proofs.Choosing.{clash}
use Rattle.schemas.specs.MeaningTree.{tree_at, tree_of}
use Rattle.schemas.specs.MeaningSchemas.{schema_of, schemas_of}
use Rattle.lookup.proofs.Fields.{field_in, field_on, field_order, field_start}
use Rattle.declarations.specs.MeaningNamespace.{schemas_in, declared_by, numbered, entries_from, all_of, declarations}
use Rattle.standing.specs.MirrorDeclared.{StandsAt}
use Rattle.standing.specs.declared.Declared.{Declared}
use Rattle.declarations.proofs.Picking.{nth_past}
use Rattle.declarations.proofs.Numbering.{length_numbered}
use Rattle.declarations.proofs.Schemas.{size_is, size_few}
use Rattle.declarations.proofs.Walks.{no_schemas, schema_here, no_schema_here}

-- those of the schemas from a place on
abbrev Few : List ℕ → ℕ → ℕ → Type 0
Few s from e = (n : ℕ) → length (all_of (entries_from n (schemas_of (tree_at s from e)))) ≤ e - from

step : (s : List ℕ) (from e : ℕ) (h : Option Field) → h ≡ field_at s from e → ((b : ℕ) → from < b → b ≤ e → Few s b e) → Few s from e
unfolding all_of entries_from
step s from e None y go n = rw (no_schemas s from e None y refl) (omega arith)
step s from e (Some f) y go n = by (eqb f.tag 1) refl
  where
    by : (c : Bool) → eqb f.tag 1 ≡ c → length (all_of (entries_from n (schemas_of (tree_at s from e)))) ≤ e - from
    by false k =
        let i = field_on s from e (Some f) y f refl in
        let j = field_in s from e (Some f) y f refl in
        let g = go f.stop i j n in
        rw (no_schema_here s from e (Some f) y f refl (eqb-false f.tag 1 k)) (omega arith)
    by true k =
        let x = schema_of from (tree_at s f.start f.stop) in
        let m = n + length (declared_by x) in
        let on = field_on s from e (Some f) y f refl in
        let j = field_in s from e (Some f) y f refl in
        let g = go f.stop on j m in
        let i = size_few s f.start f.stop in
        let z = size_is from (tree_at s f.start f.stop) in
        let l = length_numbered x n (declared_by x) in
        let o = field_order s from e (Some f) y f refl in
        let st = field_start s from e (Some f) y f refl in
        rw (schema_here s from e (Some f) y f refl (eqb-true f.tag 1 k)) (rw (length-append (numbered x n (declared_by x)) (all_of (entries_from m (schemas_of (tree_at s f.stop e))))) (omega arith))

few_by : (k : ℕ) (s : List ℕ) (from e : ℕ) → e - from < k → Few s from e
few_by zero s from e h = absurd (not-suc-le-zero h)
few_by (suc k) s from e h = step s from e (field_at s from e) refl (λ b i j. few_by k s b e (omega arith))

pub few : (s : List ℕ) → length (declarations (schemas_in s)) ≤ length s
unfolding declarations schemas_in tree_of
few s = let z = few_by (suc (length s)) s 0 (length s) (omega arith) 0 in omega arith

-- ---- `count_all`

module _ (s : List ℕ) (o : Result Declared ℕ) (w : StandsAt s (declarations (schemas_in s)) (length s) o) where
  pub not_there : (d : Declared) → o ≡ Ok d → length s ≡ length (declarations (schemas_in s))
  not_there d e =
      let z = (subst (StandsAt s (declarations (schemas_in s)) (length s)) e w).there in
      let n = nth_past (declarations (schemas_in s)) (length s) (few s) in
      clash (cc)

  module _ (m : ℕ) (e : o ≡ Err m) where
    fewer : length s ≡ length (declarations (schemas_in s)) + m
    fewer = (subst (StandsAt s (declarations (schemas_in s)) (length s)) e w).1

    pub all_there : length s - m ≡ length (declarations (schemas_in s))
    all_there = let z = fewer in omega arith

    pub some_fewer : m ≤ length s
    some_fewer = let z = fewer in omega arith

pub ruleset counting = (not_there, all_there, some_fewer)
