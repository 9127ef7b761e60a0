-- The lines of the supertypes that gathering gives are those of the records' owners.
use mathlib.Core.Path.{◌≡◌, refl, sym, ap, ◌∙◌}
use mathlib.Core.List.{List, [], ◌∷◌, ◌++◌, map}
use mathlib.Core.Bool.{Bool, true, false}
use mathlib.Core.Option.{Option, some}
use Prim.Native.Nat.{ℕ}
use borrow.Author.Tests.{eqb-true, eq-eqb}
use lib.Dec.{eqb}
use Rattle.refusal.specs.MeaningAnswer.{Answer, done, mapped, ◌>>=◌}
use Rattle.complex_entity.specs.MeaningRising.{◌∈◌, here, there}
use Rattle.grammar.specs.MeaningReading.{Reading}
use Rattle.grammar.proofs.Choosing.{either, opposed}
use Rattle.schemas.specs.MeaningSchemas.{Schema}
use Rattle.scope.specs.MeaningScope.{Path, same_path}
use Rattle.expression.specs.MeaningExpression.{Expr, eval}
use Rattle.declarations.specs.MeaningNamespace.{schemas_in, answered}
use Rattle.merging.specs.MeaningMerging.{Combined, find}
use Rattle.merging.specs.MeaningNumbering.{map_expr}
use Rattle.merging.specs.MeaningFirsts.{among, firsts}
use Rattle.merging.specs.MirrorStream.{paired, owners_from}
use Rattle.merging.proofs.Ordering.{among_append}
use Rattle.records.specs.MeaningResolving.{number_for}
use Rattle.gathering.specs.MeaningCombined.{supertypes, combined, numbered_expr, list_of}
use Rattle.gathering.specs.MirrorGathering.{streams}
use Rattle.gathering.specs.Claims.{IsDeclared}
use Rattle.gathering.proofs.Declaring.{by_path, number_is}
use Rattle.gathering.proofs.Proved.{all_declared}
use Rattle.supertypes.specs.MirrorStanding.{Both, list_by, list_in}
use Rattle.supertypes.proofs.Owning.{Alike, both_done, both_refused, alike, list_by_law, owners_both}
use Rattle.constraints.proofs.Proved.{names_apart}
use Rattle.listing.specs.MeaningLines.{list_lines}
use Rattle.listing.specs.MeaningListing.{supertype_lines, lines_of, listed}
use Rattle.listing.specs.MirrorLines.{line_of_supertype}
use Rattle.lister.specs.MirrorRest.{Lines, owner_lines, types_from, supertypes_from}
use Rattle.lister.proofs.Naming.{declared_names}

-- ---- the first of each stand once

-- none stands twice
abbrev Apart : List ℕ → Type 0
Apart [] = Unit {0}
Apart (n ∷ ns) = (among eqb n ns ≡ false) × Apart ns

-- one that was seen does not come
not_again : (n : ℕ) (seen ns : List ℕ) → among eqb n seen ≡ true → among eqb n (firsts eqb seen ns) ≡ false
unfolding among firsts
not_again n seen [] h = refl
not_again n seen (m ∷ ns) h =
    either (λ (l : List ℕ). among eqb n l ≡ false) (among eqb m seen) (firsts eqb seen ns) (m ∷ firsts eqb (seen ++ (m ∷ [])) ns)
    (λ e. not_again n seen ns h)
    (λ e. either (λ (b : Bool). b ≡ false) (eqb m n) true (among eqb n (firsts eqb (seen ++ (m ∷ [])) ns))
    (λ k. let z : m ≡ n = eqb-true m n k in opposed h (rw (← z) e))
    (λ k. not_again n (seen ++ (m ∷ [])) ns (rw (among_append eqb n seen (m ∷ []), h) refl)))

firsts_apart : (seen ns : List ℕ) → Apart (firsts eqb seen ns)
unfolding among firsts
firsts_apart seen [] = tt
firsts_apart seen (n ∷ ns) =
    either Apart (among eqb n seen) (firsts eqb seen ns) (n ∷ firsts eqb (seen ++ (n ∷ [])) ns)
    (λ e. firsts_apart seen ns)
    (λ e. (not_again n (seen ++ (n ∷ [])) ns (rw (among_append eqb n seen (n ∷ []), e, eq-eqb n n refl) refl), firsts_apart (seen ++ (n ∷ [])) ns))

among_map : {A : Type 0} (f : A → ℕ) (g : List A) (c : A) → c ∈ g → among eqb (f c) (map f g) ≡ true
unfolding among
among_map {A = A} f [] c x' = elim x' [ ]
among_map f (b ∷ g) c (here e) = rw (eq-eqb (f b) (f c) (ap f (sym e))) refl
among_map f (b ∷ g) c (there m) = either (λ (v : Bool). v ≡ true) (eqb (f b) (f c)) true (among eqb (f c) (map f g)) (λ e. refl) (λ e. among_map f g c m)

-- ---- the list of a supertype

module _ (rd : Reading) (s : List ℕ) where
  abbrev xs : List Schema
  xs = schemas_in s

  abbrev number_of : Combined Path → ℕ
  number_of c = number_for rd xs c.owner

  -- what stands for an owner that no other has is its own
  found_itself : (g : List (Combined Path)) → Apart (map number_of g) → ((c : Combined Path) → c ∈ g → IsDeclared rd xs c.owner) → (c : Combined Path) → c ∈ g → find (same_path rd) c.owner g ≡ some c.expr
  unfolding find
  found_itself [] A D c x3 = elim x3 [ ]
  found_itself (b ∷ g) A D c (here e) = rw (e, (by_path rd).reflexive b.owner) refl
  found_itself (b ∷ g) A D c (there m) =
      either (λ (o : Option (Expr Path)). o ≡ some c.expr) (same_path rd b.owner c.owner) (some b.expr) (find (same_path rd) c.owner g)
      (λ k. let z = (names_apart rd s b.owner c.owner (D b (here refl)) (D c (there m))).1 k in opposed (among_map number_of g c m) (rw z at A.0))
      (λ k. found_itself g A.1 (λ d i. D d (there i)) c m)

  module _ (g : List (Combined Path)) (b : Both) (i : supertypes rd xs ≡ done g) (j : streams rd xs ≡ done b) (A : Apart (map number_of g)) where
    list_is : (c : Combined Path) → c ∈ g → eval (map_expr (number_for rd xs) c.expr) ≡ list_by (number_of c) b
    unfolding list_of numbered_expr combined answered list_in
    list_is c m =
        let d = (all_declared rd xs g i c m).0 in
        let f = found_itself g A (λ e k. (all_declared rd xs g i e k).0) c m in
        let n = number_is rd xs c.owner d.0 d.1 in
        rw n (sym (rw (i, f) refl) ∙ list_by_law rd xs c.owner ∙ rw (j, d.1) refl)

    lines_same : (h : List (Combined Path)) → ((c : Combined Path) → c ∈ h → c ∈ g) → (walked : Path → Answer Bool) → supertype_lines rd xs walked h ≡ owner_lines xs b (map number_of h)
    unfolding supertype_lines owner_lines list_lines line_of_supertype
    lines_same [] f walked = refl
    lines_same (c ∷ h) f walked =
        let m = f c (here refl) in
        rw (list_is c m, declared_names rd xs c.owner (all_declared rd xs g i c m).0, lines_same h (λ d k. f d (there k)) walked) refl

  -- ---- all lines, from the records
  pub listed_by : (walked : Path → Answer Bool) → listed rd xs walked ≡ (streams rd xs >>= λ b. done (supertypes_from rd s walked b (owners_from [] (b.0 ++ map paired b.1))))
  unfolding listed lines_of supertypes_from types_from
  listed_by walked = by (alike rd xs)
    where
      by : {a : Answer (List (Combined Path))} {o : Answer Both} → Alike rd xs a o
          → mapped (lines_of rd xs walked) a ≡ (o >>= λ b. done (supertypes_from rd s walked b (owners_from [] (b.0 ++ map paired b.1))))
      by (both_done {g = g} {b = b} i j e) =
          let n : map number_of g ≡ owners_from [] (b.0 ++ map paired b.1) = e ∙ ap (firsts eqb []) (sym (owners_both rd xs b.0 b.1)) in
          let A : Apart (map number_of g) = rw n (firsts_apart [] (map (λ (c : Combined ℕ). c.owner) (b.0 ++ map paired b.1))) in
          ap done (ap (λ (ls : Lines). ls ++ types_from rd s walked 0) (lines_same g b i j A g (λ c k. k) walked ∙ ap (owner_lines xs b) n))
      by both_refused = refl
