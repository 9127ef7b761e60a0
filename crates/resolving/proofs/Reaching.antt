-- What a name resolves to, and which paths lead nowhere.
use mathlib.Core.Path.{◌≡◌, refl, sym, ap, ◌∙◌}
use mathlib.Core.List.{List, [], ◌∷◌, ◌++◌, map}
use mathlib.Core.Option.{Option, none, some}
use mathlib.Core.Bool.{true, false, and-false}
use Prim.Native.Nat.{ℕ, ◌+◌}
use borrow.Author.Tests.{ne_eqb}
use lib.ListN.{length}
use Rattle.grammar.specs.MeaningReading.{Reading}
use Rattle.grammar.proofs.Choosing.{clash, both}
use Rattle.schemas.specs.MeaningSchemas.{Schema}
use Rattle.scope.specs.MeaningScope.{place_of, Step, Scope, Path, steps_equal, same_scope, same_path}
use Rattle.scope.specs.MeaningScope.ScopeType.{schema}
use Rattle.scope.proofs.Equality.{two}
use Rattle.declarations.specs.MeaningNamespace.{Declaration, scope_in, path_in, declared_by, numbered, entries_from, all_of, declarations, first, or, last, declaration_for, items_of, seen, upwards, climb, resolved}
use Rattle.declarations.specs.MirrorNamespace.{schema_scope, then_for, meant_in}
use Rattle.declarations.proofs.Picking.{or_none, first_append}
use Rattle.declarations.proofs.Schemas.{numbered_none, named_so}
use Rattle.declarations.proofs.Scopes.{seen_same, own_scope}

-- ---- scopes that no schema has

module _ (rd : Reading) where
  -- no schema has the scope
  abbrev pub Foreign : Scope → Type 0
  Foreign sc = (x : Schema) → same_scope rd (scope_in x) sc ≡ false

  pub foreign_root : Foreign []
  unfolding same_scope scope_in
  foreign_root x = refl

  pub foreign_deep : (a b : Step) (l : Scope) → Foreign (a ∷ b ∷ l)
  unfolding same_scope scope_in
  foreign_deep a b l x = and-false (steps_equal rd (record { kind = schema; name = x.name }) a)

  pub foreign_other : (a : Step) (l : Scope) → (place_of a.kind ≡ 7 → ⊥) → Foreign (a ∷ l)
  unfolding same_scope steps_equal scope_in
  foreign_other a l d x = rw (ne_eqb 7 (place_of a.kind) (λ e. d (sym e))) refl

  module _ (sc : Scope) (h : Foreign sc) where
    last_none : (n : ℕ) (xs : List Schema) → last (λ e. same_scope rd e.scope sc) (entries_from n xs) ≡ none
    unfolding last entries_from or
    last_none n [] = refl
    last_none n (x ∷ xs) = rw (last_none (n + length (declared_by x)) xs, h x) refl

    pub seen_none : (xs : List Schema) → seen rd xs sc ≡ []
    unfolding seen items_of
    seen_none xs = ap items_of (last_none 0 xs)

  -- a path from there leads nowhere
  module _ (p : Path) (h : Foreign p.scope) where
    none_from : (n : ℕ) (xs : List Schema) → first (λ d. same_path rd d.path p) (all_of (entries_from n xs)) ≡ none
    unfolding first all_of entries_from or same_path path_in
    none_from n [] = refl
    none_from n (x ∷ xs) =
        first_append (λ d. same_path rd d.path p) (numbered x n (declared_by x)) (all_of (entries_from (n + length (declared_by x)) xs))
        ∙ rw (numbered_none (λ d. same_path rd d.path p) x (λ m d. rw (h x) refl) n (declared_by x)) (none_from (n + length (declared_by x)) xs)

    pub nowhere : (xs : List Schema) → declaration_for rd xs p ≡ none
    unfolding declaration_for declarations
    nowhere xs = none_from 0 xs

  -- ---- upwards: the outermost step decides

  module _ (xs : List Schema) (w : List ℕ) where
    join : (ls bs : List Scope) → climb rd xs w (ls ++ bs) ≡ or (climb rd xs w ls) (climb rd xs w bs)
    unfolding climb or
    join [] bs = refl
    join (a ∷ ls) bs = by (first (named_so rd w) (seen rd xs a)) (join ls bs)
      where
        by : (m : Option Declaration) → climb rd xs w (ls ++ bs) ≡ or (climb rd xs w ls) (climb rd xs w bs) → or m (climb rd xs w (ls ++ bs)) ≡ or (or m (climb rd xs w ls)) (climb rd xs w bs)
        by none e = e
        by (some k) e = refl

    deep : (a b : Step) (ls : List Scope) → climb rd xs w (map (λ l. a ∷ l) (map (λ l. b ∷ l) ls)) ≡ none
    unfolding climb or first
    deep a b [] = refl
    deep a b (l ∷ ls) = rw (seen_none (a ∷ b ∷ l) (foreign_deep a b l) xs) (deep a b ls)

    pub resolved_root : resolved rd xs [] w ≡ none
    unfolding resolved upwards climb or first
    resolved_root = rw (seen_none [] foreign_root xs) refl

    lone : (a : Step) → climb rd xs w ((a ∷ []) ∷ []) ≡ first (named_so rd w) (seen rd xs (a ∷ []))
    unfolding climb
    lone a = or_none (first (named_so rd w) (seen rd xs (a ∷ [])))

    map_snoc : (a : Step) (ls : List Scope) → map (λ l. a ∷ l) (ls ++ ([] ∷ [])) ≡ map (λ l. a ∷ l) ls ++ ((a ∷ []) ∷ [])
    map_snoc a [] = refl
    map_snoc a (l ∷ ls) = ap (λ (t : List Scope). (a ∷ l) ∷ t) (map_snoc a ls)

    outer_only : (a : Step) (l : Scope) → climb rd xs w (map (λ l. a ∷ l) (upwards l)) ≡ first (named_so rd w) (seen rd xs (a ∷ []))
    unfolding upwards or
    outer_only a [] = lone a
    outer_only a (b ∷ l) =
        ap (climb rd xs w) (map_snoc a (map (λ l. b ∷ l) (upwards l)))
        ∙ join (map (λ l. a ∷ l) (map (λ l. b ∷ l) (upwards l))) ((a ∷ []) ∷ [])
        ∙ rw (deep a b (upwards l)) (lone a)

    pub resolved_first : (a : Step) (l : Scope) → resolved rd xs (a ∷ l) w ≡ first (named_so rd w) (seen rd xs (a ∷ []))
    unfolding resolved upwards
    resolved_first a l =
        join (map (λ l. a ∷ l) (upwards l)) ([] ∷ [])
        ∙ ap (λ (m : Option Declaration). or (climb rd xs w (map (λ l. a ∷ l) (upwards l))) m) resolved_root
        ∙ or_none (climb rd xs w (map (λ l. a ∷ l) (upwards l)))
        ∙ outer_only a l

    pub resolved_other : (a : Step) (l : Scope) → (place_of a.kind ≡ 7 → ⊥) → resolved rd xs (a ∷ l) w ≡ none
    unfolding first
    resolved_other a l d = resolved_first a l ∙ rw (seen_none (a ∷ []) (foreign_other a [] d) xs) refl

  -- equal scopes: the name means the same
  pub resolved_same : (xs : List Schema) (w : List ℕ) (a b : Scope) → same_scope rd a b ≡ true → resolved rd xs a w ≡ resolved rd xs b w
  unfolding same_scope
  resolved_same xs w [] [] e = refl
  resolved_same xs w [] (y ∷ b) e = clash (cc)
  resolved_same xs w (x ∷ a) [] e = clash (cc)
  resolved_same xs w (x ∷ a) (y ∷ b) e =
      let z = both (steps_equal rd x y) (same_scope rd a b) e in
      resolved_first xs w x a ∙ ap (first (named_so rd w)) (seen_same rd xs (x ∷ []) (y ∷ []) (two z.0 refl)) ∙ sym (resolved_first xs w y b)

-- what a name means in the scope of a schema
pub own_meant : (rd : Reading) (xs : List Schema) (x : Schema) (w : List ℕ) → then_for rd xs (resolved rd xs (scope_in x) w) ≡ meant_in rd xs x.name.bytes w
unfolding meant_in
own_meant rd xs x w = ap (then_for rd xs) (resolved_same rd xs w (scope_in x) (schema_scope x.name.bytes) (own_scope rd x))
