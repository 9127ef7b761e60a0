-- Whether a listing has a line: nothing was made and all is left, or something was made.
use mathlib.Core.Path.{◌≡◌, refl, ◌∙◌, ap}
use mathlib.Core.List.{List, [], ◌∷◌}
use mathlib.Core.Bool.{Bool, true, false}
use Prim.Native.Nat.{ℕ}
use Rattle.std.specs.Prelude.{Some, None}
use Rattle.refusal.specs.MeaningAnswer.{Answer}
use Rattle.grammar.specs.MeaningReading.{Reading}
use Rattle.scope.specs.MeaningScope.{Path}
use Rattle.declarations.specs.MeaningNamespace.{schemas_in}
use Rattle.named_types.proofs.Proved.{walks_on}
use Rattle.listing.specs.MeaningWhole.{AllWalked, Lists}
use Rattle.lister.specs.MirrorRest.{Lines, Rest, Gives, Starts, GivesFirst}
use Rattle.lister.specs.declared.Cursor.{Cursor}
use Rattle.lister.specs.declared.Line.{Line}
use Rattle.lister.proofs.Proved.{one_listing}
use Rattle.replay.specs.Listed.{has_line, Told}

-- after some lines: whether there was one
unfoldable pub Since : (rd : Reading) (s names : List ℕ) → (walked : Path → Answer Bool) → (some : Bool) → (work : List ℕ) → Cursor → Lines → Type 0
Since rd s names walked true work c ls = true ≡ has_line ls
Since rd s names walked false work c ls = Rest rd s walked names work c ls

pub record Making (rd : Reading) (s names work₀ : List ℕ) (first : Cursor) (some : Bool) (work : List ℕ) (c : Cursor) : Type 0 where
  pub since : (walked : Path → Answer Bool) → AllWalked rd s walked → (ls : Lines) → Rest rd s walked names work₀ first ls → Since rd s names walked some work c ls

pub making_first : (rd : Reading) (s names work : List ℕ) (c : Cursor) → Making rd s names work c false work c
unfolding Since
making_first rd s names work c = record { since = λ walked W ls q. q }

module _ (rd : Reading) (s names work₀ : List ℕ) (first : Cursor) (some : Bool) (work : List ℕ) (c : Cursor) (M : Making rd s names work₀ first some work c) where
  pub making_next : (work' before after : List ℕ) (r : Line) → GivesFirst rd s names work c work' before after (Some r) → Making rd s names work₀ first true work' r.next
  unfolding Since Gives has_line
  making_next work' before after r f = record { since = λ walked W ls q. by some walked W ls (M.since walked W ls q) }
    where
      has : (walked : Path → Answer Bool) (ls : Lines) → Gives rd s walked names work' before after (Some r) ls → true ≡ has_line ls
      has walked [] g = absurd g
      has walked (l ∷ ls) g = refl

      by : (b : Bool) (walked : Path → Answer Bool) → AllWalked rd s walked → (ls : Lines) → Since rd s names walked b work c ls → true ≡ has_line ls
      by true walked W ls q = q
      by false walked W ls q = has walked ls (f.first walked W ls q)

  pub making_over : (work' before after : List ℕ) → GivesFirst rd s names work c work' before after None → Told rd s names work₀ first some
  unfolding Since Gives has_line
  making_over work' before after f = record { says = λ walked W ls q. by some walked W ls (M.since walked W ls q) }
    where
      has : (walked : Path → Answer Bool) (ls : Lines) → Gives rd s walked names work' before after None ls → false ≡ has_line ls
      has walked [] g = refl
      has walked (l ∷ ls) g = absurd g

      by : (b : Bool) (walked : Path → Answer Bool) → AllWalked rd s walked → (ls : Lines) → Since rd s names walked b work c ls → b ≡ has_line ls
      by true walked W ls q = q
      by false walked W ls q = has walked ls (f.first walked W ls q)

pub told_whole : (rd : Reading) (s names work : List ℕ) (c : Cursor) (r : Bool) → Starts rd s names work c → Told rd s names work c r → (ls : Lines) → Lists rd s ls → r ≡ has_line ls
unfolding Lists AllWalked
told_whole rd s names work c r S T ls L =
    let walked : Path → Answer Bool = λ p. (walks_on rd (schemas_in s) p).0 in
    let W : AllWalked rd s walked = λ p. (walks_on rd (schemas_in s) p).1 in
    let z = S.all walked W in
    T.says walked W z.0 z.2 ∙ ap has_line (one_listing rd s z.0 ls (walked, W, z.1) L)

pub ruleset making = (making_first, making_next, making_over)
