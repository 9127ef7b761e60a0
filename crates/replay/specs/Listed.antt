-- Whether a listing has a line.
use Rattle.std.specs.Prelude.{ℕ, ◌≡◌, List, [], ◌∷◌, Bool, true, false}
use Rattle.refusal.specs.MeaningAnswer.{Answer}
use Rattle.grammar.specs.MeaningReading.{Reading}
use Rattle.scope.specs.MeaningScope.{Path}
use Rattle.listing.specs.MeaningWhole.{AllWalked}
use Rattle.lister.specs.MirrorRest.{Lines, Rest}
use Rattle.lister.specs.declared.Cursor.{Cursor}

unfoldable pub has_line : Lines → Bool
has_line [] = false
has_line (l ∷ ls) = true

-- whether lines are left at a cursor
pub record Told (rd : Reading) (s names work : List ℕ) (c : Cursor) (r : Bool) : Type 0 where
  pub says : (walked : Path → Answer Bool) → AllWalked rd s walked → (ls : Lines) → Rest rd s walked names work c ls → r ≡ has_line ls
