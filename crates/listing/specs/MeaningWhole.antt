-- The listing of a sheet, by its bytes.
use Rattle.std.specs.Prelude.{ℕ, ◌≡◌, List, Bool, true}
use Rattle.refusal.specs.MeaningAnswer.{Answer, done}
use Rattle.grammar.specs.MeaningReading.{Reading}
use Rattle.scope.specs.MeaningScope.{Path}
use Rattle.declarations.specs.MeaningNamespace.{schemas_in}
use Rattle.namespace.specs.MeaningOrder.{Answers}
use Rattle.named_types.specs.MeaningWalk.{Walks}
use Rattle.listing.specs.MeaningListing.{listed, printed}

-- from every path, what the walk through named types answers
unfoldable pub AllWalked : Reading → (sheet : List ℕ) → (Path → Answer Bool) → Type 0
AllWalked rd s walked = (p : Path) → Walks rd (schemas_in s) p (walked p)

-- these are the lines, with what the walks answer
unfoldable pub ListsBy : Reading → (sheet : List ℕ) → (Path → Answer Bool) → List (List ℕ) → Type 0
ListsBy rd s walked ls = (o : Answer (List (List ℕ))) × Answers rd s true (done (tt {0})) (λ u. listed rd (schemas_in s) walked) o × (ls ≡ printed o)

-- these are the lines of the listing of a sheet
unfoldable pub Lists : Reading → (sheet : List ℕ) → List (List ℕ) → Type 0
Lists rd s ls = (walked : Path → Answer Bool) × AllWalked rd s walked × ListsBy rd s walked ls
