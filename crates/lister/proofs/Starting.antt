-- `start`: what is asked and gathered, and all lines of the listing.
use mathlib.Core.Path.{◌≡◌, refl, ◌∙◌}
use mathlib.Core.List.{List, [], ◌∷◌, ◌++◌, map}
use mathlib.Core.Bool.{Bool, true, false}
use Prim.Native.Nat.{ℕ, ◌≤◌}
use borrow.Author.Tests.{le-leb}
use lib.Dec.{leb}
use lib.ListN.{length}
use Rattle.refusal.specs.MeaningAnswer.{Answer, done, refused, mapped, or_else, ◌>>=◌}
use Rattle.std.specs.Prelude.{Result, Ok, Err}
use Rattle.refusal.specs.Told.{number_of, told, told_refusal}
use Rattle.refusal.specs.declared.Refusal.{Refusal}
use Rattle.grammar.specs.MeaningReading.{Reading}
use Rattle.grammar.specs.MeaningGrammar.{most_bytes}
use Rattle.sheet.specs.MeaningSheet.{Is}
use Rattle.sheet.specs.Claims.{AllBytes}
use Rattle.grammar.proofs.Choosing.{clash}
use Rattle.scope.specs.MeaningScope.{Path}
use Rattle.declarations.specs.MeaningNamespace.{schemas_in}
use Rattle.namespace.specs.MeaningOrder.{in_order, Answers}
use Rattle.merging.specs.MirrorStream.{stream_of, paired, owners_from}
use Rattle.gathering.specs.MirrorGathering.{streams}
use Rattle.gathering.specs.declared.Streams.{Streams}
use Rattle.supertypes.specs.MeaningWorkspace.{enough}
use Rattle.supertypes.specs.MirrorStanding.{Both, Gathers}
use Rattle.supertypes.proofs.Answering.{answers_then}
use Rattle.supertypes.proofs.Asking.{asked_refused}
use Rattle.text.specs.MeaningText.{refused_line}
use Rattle.noting.specs.MirrorNoted.{Noted}
use Rattle.listing.specs.MeaningListing.{listed, printed}
use Rattle.listing.specs.MeaningWhole.{ListsBy}
use Rattle.listing.proofs.Proved.{accepted_is_short}
use Rattle.lister.specs.MirrorRest.{Lines, supertypes_from, Rest, Starts}
use Rattle.lister.specs.declared.Cursor.TheVariants as cursor
use Rattle.lister.proofs.Supertypes.{listed_by}

-- what is answered with a value was asked of a sheet without a fault
accepted : {A B : Type 0} (rd : Reading) (s : List ℕ) (long : Bool) (o : Answer A) (own : A → Answer B) (b : B) → Answers rd s long o own (done b) → Is rd s (done tt)
unfolding Answers in_order
accepted {A} {B} rd s long o own b a = by (leb (length s) most_bytes) long a.0 a.1 a.2
  where
    by : (x y : Bool) (v : Answer (Unit {0})) → Is rd s v → done b ≡ or_else 1 x (or_else 2 y (v >>= λ u. o >>= own)) → Is rd s (done tt)
    by false y v i e = clash (cc)
    by true false v i e = clash (cc)
    by true true (refused n p) i e = clash (cc)
    by true true (done u) i e = i

module _ (rd : Reading) (s work : List ℕ) (r : Result (Unit {0} × Streams) Refusal) (work' : List ℕ) (g : Gathers rd s work (told {A = Unit {0}} (Ok tt)) r work') (long : 32768 ≤ length work) where
  is_long : enough work ≡ true
  unfolding enough
  is_long = le-leb 32768 (length work) long

  -- all lines, of the records
  abbrev lines : (Path → Answer Bool) → Both → Answer Lines
  lines walked b = done (supertypes_from rd s walked b (owners_from [] (b.0 ++ map paired b.1)))

  pub start_refused : (names : List ℕ) (why : Refusal) → r ≡ Err why → Starts rd s names work' (cursor.Refusal why)
  unfolding ListsBy printed Rest stream_of
  start_refused names why e =
      record {
        all = λ walked W. (
          refused_line (number_of why.reason) why.place ∷ [],
          (
            told_refusal why,
            rw is_long at (asked_refused rd s work (done (tt {0})) r work' g (done (tt {0})) (λ u. u) refl (λ u. listed rd (schemas_in s) walked) (λ u. lines walked) (λ u i. listed_by rd s walked) why e),
            refl,
          ),
          refl,
        );
      }

  -- the records are what was asked and gathered, one behind the other
  in_turn : (k : Both → Answer Lines) (m : Answer Both) → (m >>= k) ≡ (mapped (λ (b : Both). (tt {0}, b)) m >>= λ (z : Unit {0} × Both). k z.1)
  in_turn k (done b) = refl
  in_turn k (refused n p) = refl

  pub start_done : AllBytes s → (names : List ℕ) → Noted s names → (x : Streams) → r ≡ Ok (tt, x) → Starts rd s names work' (cursor.Supertypes (record { streams = x; at = 0 }))
  unfolding ListsBy printed Rest stream_of
  start_done a names n x e =
      let z = g.stands (tt, x) e in
      let b = z.0 in
      let own : Unit {0} → Answer (Unit {0} × Both) = λ u. mapped (λ (b : Both). (u, b)) (streams rd (schemas_in s)) in
      let i : Answers rd s (enough work) (done (tt {0})) own (done (tt, b)) = rw z.1 at g.is in
      record {
        all = λ walked W. (
          supertypes_from rd s walked b (owners_from [] (b.0 ++ map paired b.1)),
          (
            lines walked b,
            rw is_long at (answers_then (done (tt {0})) (done (tt {0})) (λ u. u) refl own (λ u. listed rd (schemas_in s) walked) (λ (z : Unit {0} × Both). lines walked z.1) (λ u k. listed_by rd s walked ∙ in_turn (lines walked) (streams rd (schemas_in s))) rd s (enough work) (done (tt, b)) i),
            refl,
          ),
          record {
            ready = record { short = accepted_is_short rd s a (accepted rd s (enough work) (done (tt {0})) own (tt, b) i); few = z.3; noted = n };
            both = b;
            from = record { stands = z.2; passed = []; coming = b.0 ++ map paired b.1; all = refl; there = refl };
            lines = refl;
          },
        );
      }
