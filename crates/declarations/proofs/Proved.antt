-- The claims of specs/Claims.antt.
use mathlib.Core.Path.{◌≡◌, refl, ap, ◌∙◌}
use mathlib.Core.List.{List, [], ◌∷◌}
use mathlib.Core.Option.{Option, none, some}
use mathlib.Core.Bool.{true}
use Prim.Native.Nat.{ℕ}
use native.Mathlib.Omega.{arith}
use Rattle.complex_entity.specs.MeaningRising.{◌∈◌}
use Rattle.complex_entity.specs.MeaningRising.◌∈◌.{here, there}
use Rattle.grammar.specs.MeaningReading.{Reading}
use Rattle.grammar.proofs.Choosing.{clash}
use Rattle.schemas.specs.MeaningSchemas.{Schema}
use Rattle.scope.specs.MeaningNames.{same_bytes, same_name}
use Rattle.scope.specs.MeaningScope.{Scope, steps_equal, same_scope, same_path}
use Rattle.declarations.specs.MeaningNamespace.{Declaration, scope_in, item_of, path_in, declared_by, numbered, Entry, entries_from, all_of, declarations, first, or, last, answered, declaration_for, get_of, items_of, seen, upwards, climb, resolved, resolve_of}
use Rattle.declarations.specs.Claims.{NumbersInOrder, ResolvedDeclared, ResolvedPath, GetLowest, GetFinds, GetApart, GetResolves, Doubles}
use Rattle.declarations.proofs.Picking.{first_found, last_found, first_finds}
use Rattle.declarations.proofs.Numbering.{number_is, at_number, same_number, in_entry, entry_scope, lowest}
use Rattle.declarations.proofs.Schemas.{named_so}
use Rattle.declarations.proofs.Scopes.{path_refl, path_sym, path_trans}

pub numbers_in_order : NumbersInOrder
numbers_in_order xs i d e = number_is xs i d e

-- ---- `resolve`

-- where a name is found going up
pub record FoundIn (rd : Reading) (xs : List Schema) (w : List ℕ) (up : List Scope) (d : Declaration) : Type 0 where
  pub scope : Scope
  pub among : scope ∈ up
  pub seen_there : first (named_so rd w) (seen rd xs scope) ≡ some d

climbed : (rd : Reading) (xs : List Schema) (w : List ℕ) (up : List Scope) (d : Declaration) → climb rd xs w up ≡ some d → FoundIn rd xs w up d
unfolding climb or
climbed rd xs w [] d e = clash (cc)
climbed rd xs w (sc ∷ up) d e = by (first (named_so rd w) (seen rd xs sc)) refl e (λ z. climbed rd xs w up d z)
  where
    by : (m : Option Declaration) → first (named_so rd w) (seen rd xs sc) ≡ m → or m (climb rd xs w up) ≡ some d → (climb rd xs w up ≡ some d → FoundIn rd xs w up d) → FoundIn rd xs w (sc ∷ up) d
    by (some z) k e go = record { scope = sc; among = here refl; seen_there = k ∙ e }
    by none k e go = let f = go e in record { scope = f.scope; among = there f.among; seen_there = f.seen_there }

-- what is seen in a scope is declared, with a scope that is equal
looked_at : (rd : Reading) (xs : List Schema) (sc : Scope) (d : Declaration) → d ∈ seen rd xs sc → (d ∈ declarations xs) × (same_scope rd d.path.scope sc ≡ true)
unfolding seen items_of declarations
looked_at rd xs sc d m = by (last (λ e. same_scope rd e.scope sc) (entries_from 0 xs)) refl m
  where
    by : (o : Option Entry) → last (λ e. same_scope rd e.scope sc) (entries_from 0 xs) ≡ o → d ∈ items_of o → (d ∈ declarations xs) × (same_scope rd d.path.scope sc ≡ true)
    by none k m = elim m [ ]
    by (some e) k m =
        let f = last_found (λ e. same_scope rd e.scope sc) (entries_from 0 xs) e k in
        (in_entry 0 xs e d f.0 m, rw (entry_scope 0 xs e d f.0 m) f.1)

module _ (rd : Reading) (xs : List Schema) (sc : Scope) (w : List ℕ) (d : Declaration) (e : resolved rd xs sc w ≡ some d) where
  found_in : FoundIn rd xs w (upwards sc) d
  unfolding resolved
  found_in = climbed rd xs w (upwards sc) d e

  is_declared : d ∈ declarations xs
  is_declared = let f = found_in in (looked_at rd xs f.scope d (first_found (named_so rd w) (seen rd xs f.scope) d f.seen_there).0).0

pub resolved_declared : ResolvedDeclared
resolved_declared rd xs sc w d e = at_number xs d (is_declared rd xs sc w d e)

pub resolved_path : ResolvedPath
resolved_path rd xs sc w d e =
    let f = found_in rd xs sc w d e in
    let g = first_found (named_so rd w) (seen rd xs f.scope) d f.seen_there in
    (g.1, (f.scope, f.among, (looked_at rd xs f.scope d g.0).1))

-- ---- `get`

pub get_lowest : GetLowest
unfolding declaration_for
get_lowest rd xs p d e =
    let f = first_found (λ (d : Declaration). same_path rd d.path p) (declarations xs) d e in
    (f.0, f.1, λ z m h. lowest (λ (d : Declaration). same_path rd d.path p) xs d e z m h)

pub get_finds : GetFinds
unfolding declaration_for
get_finds rd xs p e m h = first_finds (λ (d : Declaration). same_path rd d.path p) (declarations xs) e m h

pub get_apart : GetApart
get_apart rd xs p q d e i j =
    let a = get_lowest rd xs p d i in
    let b = get_lowest rd xs q e j in (
      λ k. path_trans rd p d.path q (path_sym rd d.path p a.1) (rw (same_number xs d e a.0 b.0 k) b.1),
      λ k.
          let u = a.2 e b.0 (path_trans rd e.path q p b.1 (path_sym rd p q k)) in
          let v = b.2 d a.0 (path_trans rd d.path p q a.1 k) in
          omega (arith, u, v),
    )

pub get_resolves : GetResolves
get_resolves rd xs single sc w d e =
    let m = is_declared rd xs sc w d e in
    let f = get_finds rd xs d.path d m (path_refl rd d.path) in
    let g = get_lowest rd xs d.path f.0 f.1 in
    f.1 ∙ ap some (single f.0 d g.0 m g.1)

pub doubles_hold : Doubles
unfolding resolve_of get_of resolved declaration_for declarations all_of entries_from numbered declared_by path_in scope_in item_of first or last answered items_of seen upwards climb same_path same_scope steps_equal same_name same_bytes
doubles_hold = refl
