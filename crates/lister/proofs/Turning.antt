-- `next_line`: each cursor's line, and what a caller knows of the next.
use mathlib.Core.Path.{◌≡◌, refl}
use mathlib.Core.List.{List, [], ◌∷◌}
use mathlib.Core.Bool.{Bool}
use Prim.Native.Nat.{ℕ, ◌≤◌, ◌<◌}
use native.Mathlib.Omega.{arith}
use lib.ListN.{length}
use Rattle.std.specs.Prelude.{Option, Some, None}
use Rattle.refusal.specs.MeaningAnswer.{Answer}
use Rattle.refusal.specs.Told.{number_of}
use Rattle.refusal.specs.declared.Refusal.{Refusal}
use Rattle.grammar.specs.MeaningReading.{Reading}
use Rattle.scope.specs.MeaningScope.{Path}
use Rattle.declarations.specs.MeaningNamespace.{schemas_in}
use Rattle.named_types.proofs.Proved.{walks_on}
use Rattle.text.specs.MeaningText.{refused_line}
use Rattle.text.specs.MirrorText.{Puts}
use Rattle.listing.specs.MeaningWhole.{AllWalked}
use Rattle.lister.specs.MirrorRest.{Lines, Ready, Rest, Gives, AtCursor, Starts, GivesFirst, left, Falls}
use Rattle.lister.specs.declared.Cursor.{Cursor}
use Rattle.lister.specs.declared.Cursor.TheVariants as on
use Rattle.lister.specs.declared.Line.{Line}
use Rattle.lister.specs.declared.Parts.{Parts}
use Rattle.lister.specs.declared.Records.{Records}

-- ---- which cursor it is

module _ (rd : Reading) (s names work : List ℕ) (c : Cursor) where
  pub at_supertypes : AtCursor rd s names work c → (x : Records) → c ≡ on.Supertypes x → AtCursor rd s names work (on.Supertypes x)
  at_supertypes A x e = rw e at A

  pub at_parts : AtCursor rd s names work c → (p : Parts) → c ≡ on.Parts p → AtCursor rd s names work (on.Parts p)
  at_parts A p e = rw e at A

  pub at_types : AtCursor rd s names work c → (n : ℕ) → c ≡ on.Types n → Ready s names
  unfolding Rest
  at_types A n e = let B : AtCursor rd s names work (on.Types n) = rw e at A in B.rest.ready

  pub same_given : (d : Cursor) → c ≡ d → (work' before after : List ℕ) (r : Option Line) → GivesFirst rd s names work d work' before after r → GivesFirst rd s names work c work' before after r
  same_given d e work' before after r f = rw e f

  pub types_given : (n : ℕ) → c ≡ on.Types n → (before after : List ℕ) (r : Option Line) → ((work : List ℕ) → GivesFirst rd s names work (on.Types n) work before after r) → GivesFirst rd s names work c work before after r
  types_given n e before after r f = rw e (f work)

  -- ---- the refusal, and the end
  pub refusal_given : (why : Refusal) → c ≡ on.Refusal why → (before after : List ℕ) (stop n : ℕ) → n ≡ number_of why.reason → Puts (refused_line n why.place) 0 stop before after → GivesFirst rd s names work c work before after (Some (record { stop = stop; next = on.End }))
  unfolding Rest Gives refused_line
  refusal_given why e before after stop n i P =
      let line = refused_line (number_of why.reason) why.place in
      let there : Puts line 0 stop before after = rw i at P in
      record { first = λ walked W ls q. let z : ls ≡ line ∷ [] = rw e at q in rw z (omega (arith, there.end), there, refl) }

  pub end_given : c ≡ on.End → (l : List ℕ) → GivesFirst rd s names work c work l l None
  unfolding Rest Gives
  end_given e l = record { first = λ walked W ls q. let z : ls ≡ [] = rw e at q in rw z refl }

module _ (c : Cursor) where
  pub same_falls : (d : Cursor) → c ≡ d → (r : Option Line) → Falls d r → Falls c r
  same_falls d e r f = rw e f

  pub refusal_falls : (why : Refusal) → c ≡ on.Refusal why → left on.End < left c
  unfolding left
  refusal_falls why e = rw e (omega arith)

pub ruleset turning = (at_supertypes, at_parts, at_types, same_given, same_falls, types_given, refusal_given, refusal_falls, end_given)

-- ---- for callers: lines are left at the start, and after each line; a line is inside the lent bytes

module _ (rd : Reading) (s names work : List ℕ) (c : Cursor) where
  pub starts_at : Starts rd s names work c → AtCursor rd s names work c
  unfolding AllWalked
  starts_at f =
      let walked : Path → Answer Bool = λ p. (walks_on rd (schemas_in s) p).0 in
      let W : AllWalked rd s walked = λ p. (walks_on rd (schemas_in s) p).1 in
      let z = f.all walked W in
      record { walked = walked; walks = W; lines = z.0; rest = z.2 }

  module _ (A : AtCursor rd s names work c) (work' before after : List ℕ) (r : Line) (f : GivesFirst rd s names work c work' before after (Some r)) where
    pub goes_on : AtCursor rd s names work' r.next
    unfolding Gives
    goes_on = by A.lines (f.first A.walked A.walks A.lines A.rest)
      where
        by : (ls : Lines) → Gives rd s A.walked names work' before after (Some r) ls → AtCursor rd s names work' r.next
        by [] g = absurd g
        by (l ∷ ls) g = record { walked = A.walked; walks = A.walks; lines = ls; rest = g.2 }

    pub line_inside : r.stop ≤ length before
    unfolding Gives
    line_inside = by A.lines (f.first A.walked A.walks A.lines A.rest)
      where
        by : (ls : Lines) → Gives rd s A.walked names work' before after (Some r) ls → r.stop ≤ length before
        by [] g = absurd g
        by (l ∷ ls) g = g.1.room

pub ruleset onward = (starts_at, goes_on, line_inside)
