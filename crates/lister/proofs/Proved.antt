-- Every claim holds.
use mathlib.Core.Path.{◌≡◌, refl, sym, ap, ◌∙◌}
use mathlib.Core.List.{List, [], ◌∷◌}
use mathlib.Core.Bool.{Bool, true}
use Prim.Native.Nat.{ℕ}
use native.Mathlib.Omega.{arith}
use lib.ListN.{take}
use Rattle.std.specs.Prelude.{Some, None}
use Rattle.refusal.specs.MeaningAnswer.{Answer, done, mapped}
use Rattle.grammar.specs.MeaningReading.{Reading}
use Rattle.sheet.proofs.Proved.{some_verdict}
use Rattle.schemas.specs.MeaningSchemas.{Schema}
use Rattle.scope.specs.MeaningScope.{Path}
use Rattle.declarations.specs.MeaningNamespace.{schemas_in, Declaration, Named}
use Rattle.declarations.specs.MeaningNamespace.Named.{a_type, an_entity}
use Rattle.namespace.specs.MeaningOrder.{in_order, Answers}
use Rattle.namespace.proofs.Clearing.{answers_once}
use Rattle.merging.specs.MeaningMerging.{Combined}
use Rattle.gathering.specs.MeaningCombined.{supertypes}
use Rattle.named_types.proofs.Proved.{walks_on, walks_once}
use Rattle.listing.specs.MeaningListing.{supertype_lines, flags_of, type_lines_of, type_lines, lines_of, listed, printed}
use Rattle.listing.specs.MeaningWhole.{AllWalked, ListsBy, Lists}
use Rattle.text.proofs.Putting.{puts_front}
use Rattle.lister.specs.MirrorRest.{Lines, Rest, Gives, Makes, over, line}
use Rattle.lister.specs.Claims.{SomeListing, OneListing, MadeIsListed}
use Rattle.lister.specs.declared.Cursor.{Cursor}

pub some_listing : SomeListing
unfolding Lists ListsBy AllWalked Answers
some_listing rd s bytes =
    let v = some_verdict rd s bytes in
    let walked : Path → Answer Bool = λ p. (walks_on rd (schemas_in s) p).0 in
    let o = in_order s true v.0 (done (tt {0})) (λ u. listed rd (schemas_in s) walked) in
    (printed o, (walked, λ p. (walks_on rd (schemas_in s) p).1, (o, (v.0, v.1, refl), refl)))

-- ---- what walks answer alike is listed alike

module _ (rd : Reading) (xs : List Schema) (v w : Path → Answer Bool) (same : (p : Path) → v p ≡ w p) where
  supertypes_alike : (g : List (Combined Path)) → supertype_lines rd xs v g ≡ supertype_lines rd xs w g
  unfolding supertype_lines
  supertypes_alike [] = refl
  supertypes_alike (c ∷ g) = rw (supertypes_alike g) refl

  type_alike : (p : Path) (d : Named) → type_lines_of rd xs v p d ≡ type_lines_of rd xs w p d
  unfolding type_lines_of flags_of
  type_alike p (a_type t) = rw (same p) refl
  type_alike p (an_entity e) = refl

  types_alike : (ds : List Declaration) → type_lines rd xs v ds ≡ type_lines rd xs w ds
  unfolding type_lines
  types_alike [] = refl
  types_alike (d ∷ ds) = rw (type_alike d.path d.named, types_alike ds) refl

  listed_alike : listed rd xs v ≡ listed rd xs w
  unfolding listed lines_of
  listed_alike = by (supertypes rd xs)
    where
      by : (o : Answer (List (Combined Path))) → mapped (lines_of rd xs v) o ≡ mapped (lines_of rd xs w) o
      by (done g) = rw (supertypes_alike g, types_alike) refl
      by (Answer.refused n p) = refl

pub one_listing : OneListing
unfolding Lists ListsBy AllWalked
one_listing rd s ls ls' L M =
    let same : (p : Path) → L.0 p ≡ M.0 p = λ p. walks_once rd (schemas_in s) p (L.0 p) (M.0 p) (L.1 p) (M.1 p) in
    let a = L.2 in
    let b = M.2 in
    let e : listed rd (schemas_in s) L.0 ≡ listed rd (schemas_in s) M.0 = listed_alike rd (schemas_in s) L.0 M.0 same in
    a.2 ∙ ap printed (answers_once rd s true (done (tt {0})) (λ u. listed rd (schemas_in s) M.0) a.0 b.0 (rw e at a.1) b.1) ∙ sym b.2

-- ---- what is made are the lines that are left

module _ (rd : Reading) (s names : List ℕ) (walked : Path → Answer Bool) (W : AllWalked rd s walked) where
  made_left : (work : List ℕ) (c : Cursor) (ls ms : Lines) → Makes rd s names work c ls → Rest rd s walked names work c ms → ls ≡ ms
  unfolding Gives
  made_left work c _ ms (over {work' = work'} {before = before} {after = after} f) q = none ms (f.first walked W ms q)
    where
      none : (ms : Lines) → Gives rd s walked names work' before after None ms → [] ≡ ms
      none [] g = refl
      none (m ∷ ms) g = absurd g
  made_left work c _ ms (line {work' = work'} {before = before} {after = after} {r = r} {ls = ls} f more) q = some ms (f.first walked W ms q) (λ k x. made_left work' r.next ls k more x)
    where
      some : (ms : Lines) → Gives rd s walked names work' before after (Some r) ms → ((k : Lines) → Rest rd s walked names work' r.next k → ls ≡ k) → take r.stop after ∷ ls ≡ ms
      some [] g rest = absurd g
      some (m ∷ ms) g rest = rw (puts_front m r.stop before after g.1, rest ms g.2) refl

pub made_is_listed : MadeIsListed
unfolding Lists AllWalked
made_is_listed rd s names work c ls S M =
    let walked : Path → Answer Bool = λ p. (walks_on rd (schemas_in s) p).0 in
    let W : AllWalked rd s walked = λ p. (walks_on rd (schemas_in s) p).1 in
    let z = S.all walked W in
    (walked, W, rw (made_left rd s names walked W work c ls z.0 M z.2) z.1)
