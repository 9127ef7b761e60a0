-- What names mean is declared, and so is every entity; equal paths are those with one number.
use Prim.Native.Nat.{ℕ, suc, ◌+◌}
use mathlib.Core.Path.{◌≡◌, refl, sym, ap, ◌∙◌, subst}
use mathlib.Core.List.{List, [], ◌∷◌, map}
use mathlib.Core.Bool.{Bool, true, false}
use mathlib.Core.Option.{Option, none, some}
use borrow.Author.Tests.{eqb-true, eq-eqb}
use lib.Dec.{eqb}
use lib.ListN.{length}
use Rattle.refusal.specs.MeaningAnswer.{mapped}
use Rattle.complex_entity.specs.MeaningRising.{◌∈◌, here, there}
use Rattle.complex_entity.proofs.Members.{∈_append_left, ∈_append_right, ∈_map}
use Rattle.merging.specs.Claims.{Equivalence}
use Rattle.grammar.specs.MeaningReading.{Reading}
use Rattle.sheet.specs.MeaningName.{Name}
use Rattle.grammar.proofs.Choosing.{clash}
use Rattle.scope.specs.MeaningScope.{Scope, Path, same_path}
use Rattle.schemas.specs.MeaningSchemas.{Entity, Schema}
use Rattle.declarations.specs.MeaningNamespace.{Declaration, Named, path_in, declared_by, numbered, entries_from, all_of, declarations, answered, declaration_for, resolved}
use Rattle.declarations.specs.MeaningNamespace.Named.{a_type, an_entity}
use Rattle.declarations.proofs.Scopes.{path_refl, path_sym, path_trans}
use Rattle.declarations.proofs.Proved.{resolved_declared, get_apart}
use Rattle.records.proofs.Declaring.{in_at, path_declared}
use Rattle.records.specs.MeaningResolving.{path_for, own_path, number_in, number_for}
use Rattle.records.specs.MirrorRecords.{number_meant}
use Rattle.records.proofs.Following.{Follows, has, has_not}
use Rattle.gathering.specs.Claims.{IsDeclared}

-- ---- two equivalences

pub by_number : Equivalence eqb
by_number = record { reflexive = λ p. eq-eqb p p refl; symmetric = λ p q e. eq-eqb q p (sym (eqb-true p q e)); transitive = λ p q r e d. eq-eqb p r (eqb-true p q e ∙ eqb-true q r d) }

pub by_path : (rd : Reading) → Equivalence (same_path rd)
by_path rd = record { reflexive = path_refl rd; symmetric = path_sym rd; transitive = path_trans rd }

-- a declaration of what is named
abbrev Declares : List Declaration → Schema → Named → Type 0
Declares l x w = (d : Declaration) × (d ∈ l) × (d.path ≡ path_in x w)

declares_here : (x : Schema) (n : ℕ) (w : Named) (ws : List Named) → w ∈ ws → Declares (numbered x n ws) x w
unfolding numbered
declares_here x n w [] x'' = elim x'' [ ]
declares_here x n w (v ∷ ws) (here e) = (record { number = n; path = path_in x v; named = v }, here refl, ap (path_in x) (sym e))
declares_here x n w (v ∷ ws) (there m) = let i = declares_here x (suc n) w ws m in (i.0, there i.1, i.2)

declares_all : (n : ℕ) (xs : List Schema) (x : Schema) (w : Named) → x ∈ xs → w ∈ declared_by x → Declares (all_of (entries_from n xs)) x w
unfolding all_of entries_from
declares_all n [] x w x4 m = elim x4 [ ]
declares_all n (y ∷ xs) x w (here e) m = let i = declares_here y n w (declared_by y) (subst (λ (z : Schema). w ∈ declared_by z) e m) in (i.0, ∈_append_left _ _ i.1, i.2 ∙ ap (λ (z : Schema). path_in z w) (sym e))
declares_all n (y ∷ xs) x w (there k) m = let i = declares_all (n + length (declared_by y)) xs x w k m in (i.0, ∈_append_right (numbered y n (declared_by y)) _ i.1, i.2)

declares : (xs : List Schema) (x : Schema) (e : Entity) → x ∈ xs → e ∈ x.entities → Declares (declarations xs) x (an_entity e)
unfolding declarations declared_by
declares xs x e m k = declares_all 0 xs x (an_entity e) m (∈_append_right (map a_type x.types) _ (∈_map an_entity k))

module _ (rd : Reading) (xs : List Schema) where
  pub own_declared : (x : Schema) → x ∈ xs → (e : Entity) → e ∈ x.entities → IsDeclared rd xs (own_path x e)
  unfolding own_path
  own_declared x m e k = let d = declares xs x e m k in path_declared rd xs d.0 (path_in x (an_entity e)) d.1 d.2

  pub meant_declared : (sc : Scope) (x : Name) → Follows (number_for rd xs) (IsDeclared rd xs) (path_for rd xs sc x) (number_meant rd xs sc x)
  unfolding path_for number_meant answered
  meant_declared sc x = by (resolved rd xs sc x.bytes) refl
    where
      by : (o : Option Declaration) → resolved rd xs sc x.bytes ≡ o
          → Follows (number_for rd xs) (IsDeclared rd xs) (mapped (λ d. d.path) (answered 6 x.at o)) (mapped (number_for rd xs) (mapped (λ d. d.path) (answered 6 x.at o)))
      by none q = has_not refl
      by (some d) q = has (path_declared rd xs d d.path (in_at (declarations xs) d.number d (resolved_declared rd xs sc x.bytes d q).1) refl) refl

  pub number_is : (p : Path) (d : Declaration) → declaration_for rd xs p ≡ some d → number_for rd xs p ≡ d.number
  unfolding number_for number_in
  number_is p d q = rw q

  pub told_apart : (p q : Path) → IsDeclared rd xs p → IsDeclared rd xs q → same_path rd p q ≡ eqb (number_for rd xs p) (number_for rd xs q)
  told_apart p q P Q =
      let A = get_apart rd xs p q P.0 Q.0 P.1 Q.1 in
      rw (number_is p P.0 P.1, number_is q Q.0 Q.1) (by (same_path rd p q) refl (eqb P.0.number Q.0.number) refl A)
    where
      by : (a : Bool) → same_path rd p q ≡ a → (b : Bool) → eqb P.0.number Q.0.number ≡ b → (P.0.number ≡ Q.0.number → same_path rd p q ≡ true) × (same_path rd p q ≡ true → P.0.number ≡ Q.0.number) → same_path rd p q ≡ b
      by true k true e A = k
      by false k false e A = k
      by true k false e A = let z : eqb P.0.number Q.0.number ≡ true = eq-eqb _ _ (A.1 k) in clash (cc)
      by false k true e A = let z = A.0 (eqb-true _ _ e) in clash (cc)
