-- What the public functions promise.
use Rattle.std.specs.declared.cmp.Ordering.{Ordering}
use Rattle.std.specs.Prelude.{ℕ, ◌≡◌, List, Option, Result}
use Rattle.refusal.specs.Told.{told_by}
use Rattle.refusal.specs.declared.Refusal.{Refusal}
use Rattle.grammar.specs.MeaningReading.{Reading}
use Rattle.query.specs.MeaningQuery.{order_of}
use Rattle.scope.specs.Told.{told_compared}

-- `order`: r is how the scope that the left query asks for stands to the right one's
unfoldable pub PromiseOrder : Reading → (left right : List ℕ) → Result (Option Ordering) Refusal → Type 0
PromiseOrder rd left right r = told_by told_compared r ≡ order_of rd left right
