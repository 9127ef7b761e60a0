-- Schemas of one name: where only one has it, that one has all the paths with its scope.
use mathlib.Core.Path.{◌≡◌, refl, sym, ap, ◌∙◌}
use mathlib.Core.List.{List, [], ◌∷◌}
use mathlib.Core.Option.{Option, none, some}
use mathlib.Core.Bool.{Bool, true, false, cond}
use Prim.Native.Nat.{ℕ, suc, ◌+◌}
use native.Mathlib.Omega.{arith}
use lib.ListN.{length}
use Rattle.grammar.specs.MeaningReading.{Reading}
use Rattle.grammar.proofs.Choosing.{clash}
use Rattle.schemas.specs.MeaningSchemas.{Schema}
use Rattle.scope.specs.MeaningNames.{same_name}
use Rattle.scope.specs.MeaningScope.{ScopeType}
use Rattle.declarations.specs.MeaningNamespace.{Declaration, declared_by, numbered, Entry, entries_from, all_of, first, or, last}
use Rattle.declarations.specs.MirrorNamespace.{entry_of, namesakes}
use Rattle.declarations.proofs.Picking.{or_none, first_append}
use Rattle.declarations.proofs.Schemas.{one_scope, led_to, other_schema}
use Rattle.declarations.proofs.Walks.{so_named}

module _ (rd : Reading) (sc : List ℕ) where
  abbrev last_of : ℕ → List Schema → Option Entry
  last_of n xs = last (so_named rd sc) (entries_from n xs)

  abbrev next : ℕ → Schema → ℕ
  next n x = n + length (declared_by x)

  -- one schema more in front
  last_on : (n : ℕ) (x : Schema) (xs : List Schema) → last_of n (x ∷ xs) ≡ or (last_of (next n x) xs) (cond (same_name rd x.name.bytes sc) (some (entry_of n x)) none)
  unfolding last entries_from entry_of
  last_on n x xs = rw (one_scope rd x sc) refl

  none_named : (n : ℕ) (xs : List Schema) → namesakes rd sc xs ≡ 0 → last_of n xs ≡ none
  unfolding namesakes last entries_from or
  none_named n [] k = refl
  none_named n (x ∷ xs) k = last_on n x xs ∙ by (none_named (next n x) xs) (same_name rd x.name.bytes sc) k
    where
      by : (namesakes rd sc xs ≡ 0 → last_of (next n x) xs ≡ none) → (b : Bool) → cond b (suc (namesakes rd sc xs)) (namesakes rd sc xs) ≡ 0 → or (last_of (next n x) xs) (cond b (some (entry_of n x)) none) ≡ none
      by go true k = absurd (let z : ⊥ = omega arith in z)
      by go false k = rw (go k) refl

  module _ (kind : ScopeType) (w : List ℕ) where
    abbrev first_of : ℕ → List Schema → Option Declaration
    first_of n xs = first (led_to rd sc kind w) (all_of (entries_from n xs))

    abbrev own : ℕ → Schema → Option Declaration
    own n x = first (led_to rd sc kind w) (numbered x n (declared_by x))

    first_on : (n : ℕ) (x : Schema) (xs : List Schema) → first_of n (x ∷ xs) ≡ or (own n x) (first_of (next n x) xs)
    unfolding all_of entries_from
    first_on n x xs = first_append (led_to rd sc kind w) (numbered x n (declared_by x)) (all_of (entries_from (next n x) xs))

    -- no schema of the name, no such declaration
    pub unnamed : (n : ℕ) (xs : List Schema) → last (so_named rd sc) (entries_from n xs) ≡ none → first (led_to rd sc kind w) (all_of (entries_from n xs)) ≡ none
    unfolding first all_of entries_from or
    unnamed n [] k = refl
    unnamed n (x ∷ xs) k = first_on n x xs ∙ by (unnamed (next n x) xs) (last_of (next n x) xs) refl (same_name rd x.name.bytes sc) refl (sym (last_on n x xs) ∙ k)
      where
        by : (last_of (next n x) xs ≡ none → first_of (next n x) xs ≡ none) → (m : Option Entry) → last_of (next n x) xs ≡ m → (b : Bool) → same_name rd x.name.bytes sc ≡ b → or m (cond b (some (entry_of n x)) none) ≡ none → or (own n x) (first_of (next n x) xs) ≡ none
        by go none f false e k = rw (other_schema rd sc kind w x n e, go f) refl
        by go none f true e k = clash (cc)
        by go (some l) f b e k = clash (cc)

    -- one alone
    pub sole : (n : ℕ) (xs : List Schema) → namesakes rd sc xs ≡ 1 → (e : Entry) → last (so_named rd sc) (entries_from n xs) ≡ some e → first (led_to rd sc kind w) (all_of (entries_from n xs)) ≡ first (led_to rd sc kind w) e.items
    unfolding namesakes or entry_of
    sole n [] k e f = absurd (let z : ⊥ = omega arith in z)
    sole n (x ∷ xs) k e f = first_on n x xs ∙ by (λ k f. sole (next n x) xs k e f) (same_name rd x.name.bytes sc) refl k (sym (last_on n x xs) ∙ f)
      where
        by : (namesakes rd sc xs ≡ 1 → last_of (next n x) xs ≡ some e → first_of (next n x) xs ≡ first (led_to rd sc kind w) e.items) → (b : Bool) → same_name rd x.name.bytes sc ≡ b → cond b (suc (namesakes rd sc xs)) (namesakes rd sc xs) ≡ 1 → or (last_of (next n x) xs) (cond b (some (entry_of n x)) none) ≡ some e → or (own n x) (first_of (next n x) xs) ≡ first (led_to rd sc kind w) e.items
        by go false i k f = rw (other_schema rd sc kind w x n i) (go k (sym (or_none (last_of (next n x) xs)) ∙ f))
        by go true i k f =
            let z : last_of (next n x) xs ≡ none = none_named (next n x) xs (omega arith) in
            let u : entry_of n x ≡ e = cc in
            rw (unnamed (next n x) xs z) (or_none (own n x) ∙ ap (λ (l : Entry). first (led_to rd sc kind w) l.items) u)
