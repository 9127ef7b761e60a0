-- `next_type`: the types from a number on.
use mathlib.Core.Path.{◌≡◌, refl, sym, ap, ◌∙◌}
use mathlib.Core.List.{List, [], ◌∷◌, ◌++◌}
use mathlib.Core.Bool.{Bool}
use mathlib.Core.Option.{some}
use Prim.Native.Nat.{ℕ, zero, suc, ◌+◌, ◌≤◌, ◌<◌}
use native.Mathlib.Nat.{zero-add, suc-add}
use native.Mathlib.Numerals.{add-one}
use native.Mathlib.Omega.{arith}
use mir.Syntax.{w64}
use mir.Val.{Fits}
use borrow.Author.Rules.{Fits-under}
use lib.ListN.{length, drop, get_elem?}
use lib.Seq.{drop-drop}
use Rattle.refusal.specs.MeaningAnswer.{Answer}
use Rattle.grammar.specs.MeaningReading.{Reading}
use Rattle.grammar.proofs.Choosing.{clash}
use Rattle.schemas.specs.MeaningSchemas.{Schema, TypeDecl}
use Rattle.scope.specs.MeaningScope.{Path}
use Rattle.std.specs.Prelude.{Option, Some, None, Result, Ok, Err}
use Rattle.declarations.specs.MeaningNamespace.{schemas_in, Declaration, Named, declarations, schema_name, item_name}
use Rattle.declarations.specs.MeaningNamespace.Named.{a_type, an_entity}
use Rattle.named_types.proofs.Few.{few}
use Rattle.text.specs.MeaningText.{type_line}
use Rattle.text.specs.MirrorText.{Puts}
use Rattle.listing.specs.MeaningListing.{flags_of, type_lines_of, type_lines}
use Rattle.listing.specs.MeaningWhole.{AllWalked}
use Rattle.listing.specs.MirrorLines.{IsType, type_or, first_type, type_from}
use Rattle.listing.proofs.Typing.{nth_drop, nth_below}
use Rattle.lister.specs.MirrorRest.{types_from, Rest, Gives, GivesFirst, left, Falls}
use Rattle.lister.specs.declared.Cursor.TheVariants as on

some_bytes : (a b : List ℕ) (o : Answer (Bool × Bool)) (r : ℕ) (before after : List ℕ) → Puts (type_line a b o) 0 r before after → 0 < r
unfolding type_line
some_bytes a b o r before after P = omega (arith, P.end)

-- ---- the first type from a number on: what stands before it has no lines

module _ (rd : Reading) (xs : List Schema) (walked : Path → Answer Bool) where
  none_left : (n : ℕ) (ds : List Declaration) (m : ℕ) → first_type n ds ≡ Err m → type_lines rd xs walked ds ≡ []
  unfolding first_type type_or type_lines type_lines_of
  none_left n [] m e = refl
  none_left n (d ∷ ds) m e = by d.named e (none_left (suc n) ds m)
    where
      by : (k : Named) → type_or k n (first_type (suc n) ds) ≡ Err m → (first_type (suc n) ds ≡ Err m → type_lines rd xs walked ds ≡ []) → type_lines_of rd xs walked d.path k ++ type_lines rd xs walked ds ≡ []
      by (a_type t) q rest = clash (cc)
      by (an_entity x) q rest = rest q

-- it stands so many places on
record First (xs : List Schema) (ds : List Declaration) (n m : ℕ) : Type 0 where
  pub on : ℕ
  pub place : m ≡ n + on
  pub it : Declaration
  pub decl : TypeDecl
  pub there : get_elem? ds on ≡ some it
  pub is : it.named ≡ a_type decl
  pub lines : (rd : Reading) (walked : Path → Answer Bool) → type_lines rd xs walked ds ≡ type_lines rd xs walked (drop on ds)

first_left : (xs : List Schema) (n : ℕ) (ds : List Declaration) (m : ℕ) → first_type n ds ≡ Ok m → First xs ds n m
unfolding first_type type_or type_lines type_lines_of
first_left xs n [] m e = clash (cc)
first_left xs n (d ∷ ds) m e = by d.named refl e (first_left xs (suc n) ds m)
  where
    by : (k : Named) → d.named ≡ k → type_or k n (first_type (suc n) ds) ≡ Ok m → (first_type (suc n) ds ≡ Ok m → First xs ds (suc n) m) → First xs (d ∷ ds) n m
    by (a_type t) i q rest = let z : n ≡ m = cc in record { on = 0; place = omega arith; it = d; decl = t; there = refl; is = i; lines = λ rd walked. refl }
    by (an_entity x) i q rest =
        let f = rest q in
        record {
          on = suc f.on;
          place = omega (arith, f.place);
          it = f.it;
          decl = f.decl;
          there = f.there;
          is = f.is;
          lines = λ rd walked. rw i (f.lines rd walked);
        }

nth_on : {A : Type 0} (n : ℕ) (l : List A) (k : ℕ) → get_elem? (drop n l) k ≡ get_elem? l (n + k)
nth_on zero l k = rw (zero-add k) refl
nth_on (suc n) [] k = refl
nth_on (suc n) (x ∷ l) k = rw (suc-add n k) (nth_on n l k)

module _ (s names : List ℕ) (n : ℕ) (o : Result ℕ ℕ) (t : o ≡ type_from (schemas_in s) n) where
  abbrev xs : List Schema
  xs = schemas_in s

  -- ---- no type is left
  pub type_none : (m : ℕ) → o ≡ Err m → (rd : Reading) (work l : List ℕ) → GivesFirst rd s names work (on.Types n) work l l None
  unfolding Rest Gives types_from type_from
  type_none m e rd work l = record { first = λ walked W ls q. rw (q.lines, none_left rd xs walked n (drop n (declarations xs)) m (sym t ∙ e)) refl }

  -- ---- one is
  module _ (m : ℕ) (e : o ≡ Ok m) where
    found : First xs (drop n (declarations xs)) n m
    unfolding type_from
    found = first_left xs n (drop n (declarations xs)) m (sym t ∙ e)

    there : get_elem? (declarations xs) m ≡ some found.it
    there = ap (get_elem? (declarations xs)) found.place ∙ sym (nth_on n (declarations xs) found.on) ∙ found.there

    pub type_stands : IsType xs m
    type_stands = let f = found in record { it = f.it; decl = f.decl; there = there; is = f.is }

    type_small : length s ≤ 65535 → m < 65535
    type_small h = omega (arith, nth_below (declarations xs) m found.it there, few s)

    pub type_fits : length s ≤ 65535 → Fits w64 (m + 1)
    type_fits h = Fits-under w64 (m + 1) 65536 (omega (arith, type_small h)) tt

    pub type_less : length s ≤ 65535 → left (on.Types (m + 1)) < left (on.Types n)
    unfolding left
    type_less h = let f = found in omega (arith, type_small h, f.place)

    pub type_given : (rd : Reading) (before after : List ℕ) (stop : ℕ)
        → ((walked : Path → Answer Bool) → AllWalked rd s walked → (d : Declaration) (t : TypeDecl) → get_elem? (declarations xs) m ≡ some d → d.named ≡ a_type t → Puts (type_line (schema_name d.path).bytes (item_name d.path).bytes (flags_of rd xs walked d.path)) 0 stop before after)
        → (work : List ℕ) → GivesFirst rd s names work (on.Types n) work before after (Some (record { stop = stop; next = on.Types (m + 1) }))
    unfolding Rest Gives types_from type_lines type_lines_of
    type_given rd before after stop F work =
        let f = found in
        record {
          first = λ walked W ls q.
              let P = F walked W f.it f.decl there f.is in
              let l : type_lines rd xs walked (drop n (declarations xs)) ≡ type_lines rd xs walked (drop m (declarations xs)) = f.lines rd walked ∙ ap (type_lines rd xs walked) (drop-drop f.on n (declarations xs) ∙ ap (λ (k : ℕ). drop k (declarations xs)) (sym f.place)) in
              rw (q.lines, l, nth_drop (declarations xs) m f.it there, f.is) (
                some_bytes (schema_name f.it.path).bytes (item_name f.it.path).bytes _ stop before after P,
                P,
                record { ready = q.ready; lines = rw (add-one m) refl },
              );
        }

pub ruleset typing = (type_none, type_stands, type_fits, type_less, type_given)
