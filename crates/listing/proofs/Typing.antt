-- The lines of types: which declaration comes next, and its flags.
use mathlib.Core.Path.{◌≡◌, refl, sym, ap, ◌∙◌, subst}
use mathlib.Core.List.{List, [], ◌∷◌}
use mathlib.Core.Option.{Option, none, some}
use mathlib.Core.Bool.{Bool, true}
use Prim.Native.Nat.{ℕ, zero, suc, ◌+◌, ◌-◌, ◌≤◌, ◌<◌}
use native.Mathlib.Numerals.{add-one}
use native.Mathlib.Omega.{arith}
use borrow.Author.Tests.{eq-eqb, ne_eqb}
use lib.ListN.{length, drop, get_elem?}
use Rattle.refusal.specs.MeaningAnswer.{Answer, refused}
use Rattle.refusal.specs.declared.Refusal.{Refusal}
use Rattle.complex_entity.specs.MeaningRising.{◌∈◌}
use Rattle.grammar.specs.MeaningReading.{Reading}
use Rattle.grammar.proofs.Choosing.{clash}
use Rattle.schemas.specs.MeaningTree.{tree_at}
use Rattle.schemas.specs.MeaningSchemas.{TypeDecl, type_of, entity_of, Schema}
use Rattle.scope.specs.MeaningScope.{Path, same_path}
use Rattle.scope.specs.MeaningScope.ScopeType.{type}
use Rattle.lookup.specs.declared.Span.{Span}
use Rattle.std.specs.Prelude as prelude
use Rattle.std.specs.Prelude.{Some, None, Result, Ok, Err, IsErrAnd}
use Rattle.std.specs.Option.{ok_or}
use Rattle.std.proofs.lemmas.Result.{err_from_is_err_and}
use Rattle.refusal.specs.declared.Reason.{Reason}
use Rattle.refusal.specs.Told.{told}
use Rattle.refusal.specs.declared.Reason.TheVariants.{NoDeclaration}
use Rattle.declarations.specs.MeaningNamespace.{schemas_in, Named, a_type, an_entity, Declaration, scope_in, item_of, path_in, declared_by, numbered, entries_from, all_of, declarations, declaration_for, outermost, schema_name, item_name}
use Rattle.standing.specs.MirrorDeclared.{named_at, StandsAt}
use Rattle.declarations.specs.MirrorNamespace.{sought_of, path_to}
use Rattle.standing.specs.declared.Declared.{Declared}
use Rattle.declarations.proofs.Scopes.{declaration_same, own_path_law}
use Rattle.named_types.specs.MeaningWalk.{is_enumeration}
use Rattle.named_types.specs.MirrorTypes.{walked_by}
use Rattle.named_types.proofs.Answered.{ok_or_some, ok_or_none}
use Rattle.named_types.proofs.Few.{few}
use Rattle.named_types.proofs.Proved.{walks_once}
use Rattle.named_types.proofs.Finding.{walks_nowhere, walks_there, enumerates_there}
use Rattle.text.specs.MeaningText.{type_line}
use Rattle.text.specs.MirrorText.{Puts}
use Rattle.text.specs.Told.{told_flags}
use Rattle.text.specs.declared.Flags.{Flags}
use Rattle.noting.specs.MeaningNames.{names_at, names_of}
use Rattle.noting.specs.MirrorNoted.{bytes_at, Spells}
use Rattle.listing.specs.MeaningListing.{flags_of}
use Rattle.listing.specs.MeaningWhole.{AllWalked}
use Rattle.listing.specs.MirrorLines.{type_or, first_type, type_from}
use Rattle.listing.proofs.Shortness.{All, all_append, all_in}
use Rattle.listing.proofs.Spelling.{nth_there}

-- ---- the first type from a number on

pub nth_drop : {A : Type 0} (xs : List A) (k : ℕ) (x : A) → get_elem? xs k ≡ some x → drop k xs ≡ x ∷ drop (suc k) xs
nth_drop [] k x e = clash (cc)
nth_drop (y ∷ xs) zero x e = let u : y ≡ x = cc in ap (λ z. z ∷ xs) u
nth_drop (y ∷ xs) (suc k) x e = nth_drop xs k x e

nth_none : {A : Type 0} (xs : List A) (k : ℕ) → get_elem? xs k ≡ none → drop k xs ≡ []
nth_none [] zero e = refl
nth_none [] (suc k) e = refl
nth_none (y ∷ xs) zero e = clash (cc)
nth_none (y ∷ xs) (suc k) e = nth_none xs k e

pub nth_below : {A : Type 0} (xs : List A) (k : ℕ) (x : A) → get_elem? xs k ≡ some x → k < length xs
nth_below [] k x e = clash (cc)
nth_below (y ∷ xs) zero x e = omega arith
nth_below (y ∷ xs) (suc k) x e = omega (arith, nth_below xs k x e)

pub record Seeking (s : List ℕ) (from n : ℕ) : Type 0 where
  pub left : type_from (schemas_in s) from ≡ type_from (schemas_in s) n

pub seek_start : (s : List ℕ) (from : ℕ) → Seeking s from from
seek_start s from = record { left = refl }

module _ (s : List ℕ) (from n : ℕ) (f : Seeking s from n) (o : Result Declared ℕ) (w : StandsAt s (declarations (schemas_in s)) n o) where
  pub seek_none : (m : ℕ) → o ≡ Err m → Err n ≡ type_from (schemas_in s) from
  unfolding type_from first_type
  seek_none m g =
      let z : get_elem? (declarations (schemas_in s)) n ≡ none = (subst (StandsAt s (declarations (schemas_in s)) n) g w).0 in
      sym (f.left ∙ ap (first_type n) (nth_none (declarations (schemas_in s)) n z))

  module _ (d : Declared) (g : o ≡ Ok d) where
    it_stands : StandsAt s (declarations (schemas_in s)) n (Ok d)
    it_stands = subst (StandsAt s (declarations (schemas_in s)) n) g w

    below : n < length (declarations (schemas_in s))
    below = nth_below (declarations (schemas_in s)) n it_stands.it it_stands.there

    -- the declaration itself decides
    here : (m : Named) → named_at d.tag it_stands.place (tree_at s d.item.start d.item.stop) ≡ m → type_from (schemas_in s) from ≡ type_or m n (type_from (schemas_in s) (n + 1))
    unfolding type_from first_type
    here m e =
        let st = it_stands in
        f.left
        ∙ ap (first_type n) (nth_drop (declarations (schemas_in s)) n st.it st.there)
        ∙ ap (λ (k : Named). type_or k n (first_type (suc n) (drop (suc n) (declarations (schemas_in s))))) (st.named_is ∙ e)
        ∙ rw (add-one n) refl

    pub seek_small : n + 1 ≤ length s
    seek_small = omega (arith, below, few s)

    pub seek_less : length (declarations (schemas_in s)) - (n + 1) < length (declarations (schemas_in s)) - n
    seek_less = omega (arith, below)

    pub seek_found : d.tag ≡ 0x20 → Ok n ≡ type_from (schemas_in s) from
    unfolding type_or named_at
    seek_found e = sym (here (a_type (type_of it_stands.place (tree_at s d.item.start d.item.stop))) (rw (eq-eqb d.tag 0x20 e) refl))

    pub seek_on : (d.tag ≡ 0x20 → ⊥) → Seeking s from (n + 1)
    unfolding type_or named_at
    seek_on e = record { left = here (an_entity (entity_of it_stands.place (tree_at s d.item.start d.item.stop))) (rw (ne_eqb d.tag 0x20 e) refl) }

pub ruleset seeking = (seek_start, seek_none, seek_less, seek_found, seek_on)

-- ---- the flags at a path: the first declaration with an equal path decides

module _ (rd : Reading) (s sc w : List ℕ) (v : prelude.Option ℕ) (vv : v ≡ sought_of (declaration_for rd (schemas_in s) (path_to sc type w))) where
  found_for : (p : Path) → same_path rd p (path_to sc type w) ≡ true → v ≡ sought_of (declaration_for rd (schemas_in s) p)
  found_for p i = vv ∙ ap sought_of (sym (declaration_same rd (schemas_in s) p (path_to sc type w) i))

  pub flags_nowhere : (y : Reason) → Err y ≡ ok_or v NoDeclaration → (t : Result Flags Refusal) → IsErrAnd t (λ r. r ≡ record { reason = y; place = 0 })
      → (walked : Path → Answer Bool) → AllWalked rd s walked → (p : Path) → same_path rd p (path_to sc type w) ≡ true → told_flags t ≡ flags_of rd (schemas_in s) walked p
  unfolding AllWalked flags_of
  flags_nowhere y e t j walked W p i =
      let n = ok_or_none v NoDeclaration y e in
      let r = err_from_is_err_and t j in
      rw (r.1, r.2, n.1, walks_once rd (schemas_in s) p (walked p) (refused 7 0) (W p) (walks_nowhere rd (schemas_in s) p v (found_for p i) n.0)) refl

  module _ (n m : ℕ) (e : Ok n ≡ ok_or v NoDeclaration) (j : m ≡ n) (k : Result Bool Refusal) (kk : told k ≡ walked_by rd (schemas_in s) (length (declarations (schemas_in s)) - 1) m) where
    there : v ≡ Some m
    there = ok_or_some v NoDeclaration n e ∙ ap Some (sym j)

    walked_there : (walked : Path → Answer Bool) → AllWalked rd s walked → (p : Path) → same_path rd p (path_to sc type w) ≡ true → walked p ≡ told k
    unfolding AllWalked
    walked_there walked W p i = walks_once rd (schemas_in s) p (walked p) (told k) (W p) (walks_there rd (schemas_in s) p v (found_for p i) m there k kk)

    pub flags_known : (flag : Bool) → ((r : Reading) → flag ≡ is_enumeration r (schemas_in s) (get_elem? (declarations (schemas_in s)) m)) → (b : Bool) → k ≡ Ok b
        → (walked : Path → Answer Bool) → AllWalked rd s walked → (p : Path) → same_path rd p (path_to sc type w) ≡ true → told_flags (Ok (record { simple = b; enumeration = flag })) ≡ flags_of rd (schemas_in s) walked p
    unfolding flags_of
    flags_known flag f b z walked W p i =
        rw (walked_there walked W p i, z, enumerates_there rd (schemas_in s) p v (found_for p i) m there flag f) refl

    pub flags_refused : (why : Refusal) → k ≡ Err why → (t : Result Flags Refusal) → IsErrAnd t (λ r. r ≡ why)
        → (walked : Path → Answer Bool) → AllWalked rd s walked → (p : Path) → same_path rd p (path_to sc type w) ≡ true → told_flags t ≡ flags_of rd (schemas_in s) walked p
    unfolding flags_of
    flags_refused why z t a walked W p i = let r = err_from_is_err_and t a in rw (r.1, r.2, walked_there walked W p i, z) refl

-- ---- the line of a type, by its number

-- a declaration's path is its schema's and its own
abbrev Own : Declaration → Type 0
Own d = (x : Schema) × (d.path ≡ path_in x d.named)

numbered_own : (x : Schema) (n : ℕ) (ds : List Named) → All Own (numbered x n ds)
unfolding numbered
numbered_own x n [] = tt
numbered_own x n (d ∷ ds) = ((x, refl), numbered_own x (suc n) ds)

entries_own : (n : ℕ) (xs : List Schema) → All Own (all_of (entries_from n xs))
unfolding all_of entries_from
entries_own n [] = tt
entries_own n (x ∷ xs) =
    all_append Own (numbered x n (declared_by x)) (all_of (entries_from (n + length (declared_by x)) xs)) (numbered_own x n (declared_by x)) (entries_own (n + length (declared_by x)) xs)

own : (xs : List Schema) (d : Declaration) → d ∈ declarations xs → Own d
unfolding declarations
own xs d m = all_in Own (all_of (entries_from 0 xs)) (entries_own 0 xs) d m

type_path : (rd : Reading) (xs : List Schema) (d : Declaration) (t : TypeDecl) → d ∈ declarations xs → d.named ≡ a_type t → same_path rd d.path (path_to (schema_name d.path).bytes type (item_name d.path).bytes) ≡ true
unfolding schema_name outermost item_name path_in scope_in item_of
type_path rd xs d t m e =
    let o = own xs d m in
    let i : d.path ≡ path_in o.0 (a_type t) = o.1 ∙ ap (path_in o.0) e in
    rw i (own_path_law rd o.0 (a_type t))

module _ (rd : Reading) (s : List ℕ) (index : ℕ) (v w : Span) (f : Spells s (names_of (schemas_in s) index).schema v) (g : Spells s (names_of (schemas_in s) index).item w)
    (a b : List ℕ) (k : a ≡ bytes_at s v) (l : b ≡ bytes_at s w) where
  module _ (d : Declaration) (e : get_elem? (declarations (schemas_in s)) index ≡ some d) where
    schema_its : a ≡ (schema_name d.path).bytes
    unfolding names_of names_at
    schema_its = k ∙ f.there ∙ ap (λ (o : Option Declaration). (names_at o).schema) e

    item_its : b ≡ (item_name d.path).bytes
    unfolding names_of names_at
    item_its = l ∙ g.there ∙ ap (λ (o : Option Declaration). (names_at o).item) e

  pub puts_type : (at r : ℕ) (x y : List ℕ) (o : Result Flags Refusal)
      → ((walked : Path → Answer Bool) → AllWalked rd s walked → (p : Path) → same_path rd p (path_to a type b) ≡ true → told_flags o ≡ flags_of rd (schemas_in s) walked p)
      → Puts (type_line a b (told_flags o)) at r x y
      → (walked : Path → Answer Bool) → AllWalked rd s walked → (d : Declaration) (t : TypeDecl) → get_elem? (declarations (schemas_in s)) index ≡ some d → d.named ≡ a_type t
      → Puts (type_line (schema_name d.path).bytes (item_name d.path).bytes (flags_of rd (schemas_in s) walked d.path)) at r x y
  puts_type at r x y o c p walked W d t e i =
      let z = type_path rd (schemas_in s) d t (nth_there (declarations (schemas_in s)) index d e) i in
      let j : told_flags o ≡ flags_of rd (schemas_in s) walked d.path = c walked W d.path (rw (schema_its d e, item_its d e) z) in
      rw (← schema_its d e, ← item_its d e, ← j) p
