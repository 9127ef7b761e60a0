-- Questions that are answered by a walk over the records.
use mathlib.Core.Path.{◌≡◌, refl, sym, ap, ◌∙◌}
use mathlib.Core.Logic.{inl, inr}
use mathlib.Core.List.{List, [], ◌∷◌, map}
use mathlib.Core.Bool.{Bool, ◌&&◌}
use Prim.Native.Nat.{ℕ}
use lib.Dec.{eqb}
use Rattle.std.specs.List.{list_any}
use Rattle.expression.specs.MeaningExpression.{end, is_in, is_in_some, factors}
use Rattle.expression.specs.MirrorNodes.{scan}
use Rattle.expression.proofs.Occurrence.{scan_flat}
use Rattle.merging.specs.MeaningMerging.{Combined, find}
use Rattle.merging.specs.MeaningItems.{exprs_of, all_factors}
use Rattle.merging.specs.MirrorStream.{stream_of, is_found}
use Rattle.merging.specs.MirrorWalk.{records_of, shown_item}
use Rattle.merging.proofs.Factors.{both, in_append, in_factors}
use Rattle.merging.proofs.Walking.{records_are}

-- a record is of the owner; and the index occurs in it
abbrev pub has : ℕ → ℕ × List ℕ → Bool
has owner x = eqb x.0 owner

abbrev pub names_in : ℕ → ℕ → ℕ × List ℕ → Bool
names_in owner index x = eqb x.0 owner && scan index x.1

-- ---- whether some record has the owner
owned : (owner : ℕ) (cs : List (Combined ℕ)) → list_any (has owner) (map shown_item cs) ≡ is_found (find eqb owner cs)
unfolding find is_found
owned owner [] = refl
owned owner (c ∷ cs) = elim (both (eqb c.owner owner)) [ inl a ↦ rw a | inr a ↦ rw a (owned owner cs) ]

pub owned_is : (l : List ℕ) (owner : ℕ) (b : Bool) → b ≡ list_any (has owner) (records_of l) → (cs : List (Combined ℕ)) → l ≡ stream_of cs → b ≡ is_found (find eqb owner cs)
owned_is l owner b e cs i = e ∙ ap (λ (m : List ℕ). list_any (has owner) (records_of m)) i ∙ ap (list_any (has owner)) (records_are cs) ∙ owned owner cs

-- ---- whether the index occurs in an expression of the owner
occurring : (owner index : ℕ) (cs : List (Combined ℕ)) → list_any (names_in owner index) (map shown_item cs) ≡ is_in_some eqb index (all_factors (exprs_of eqb owner cs) end)
unfolding exprs_of all_factors is_in
occurring owner index [] = refl
occurring owner index (c ∷ cs) = elim (both (eqb c.owner owner)) [
  | inl a ↦ rw (a, scan_flat index c.expr, occurring owner index cs) (sym (in_append eqb index (factors c.expr) (all_factors (exprs_of eqb owner cs) end) ∙ rw (in_factors eqb index c.expr)))
  | inr a ↦ rw a (occurring owner index cs)
]

pub occurring_is : (l : List ℕ) (owner index : ℕ) (b : Bool) → b ≡ list_any (names_in owner index) (records_of l) → (cs : List (Combined ℕ)) → l ≡ stream_of cs → b ≡ is_in_some eqb index (all_factors (exprs_of eqb owner cs) end)
occurring_is l owner index b e cs i = e ∙ ap (λ (m : List ℕ). list_any (names_in owner index) (records_of m)) i ∙ ap (list_any (names_in owner index)) (records_are cs) ∙ occurring owner index cs
