-- What the public functions promise: the answer, and the end state of everything borrowed.
use Rattle.std.specs.Prelude.{ℕ, ◌≡◌, List, Bool}
use Rattle.refusal.specs.MeaningAnswer.{Answer, done}
use Rattle.grammar.specs.MeaningReading.{Reading}
use Rattle.scope.specs.MeaningScope.{Path}
use Rattle.query.specs.MeaningQuery.{path_query}
use Rattle.scope.specs.Told.{told_path}
use Rattle.scope.specs.Held.{path_in}
use Rattle.declarations.specs.MeaningNamespace.{schemas_in}
use Rattle.namespace.specs.MeaningOrder.{Answers}
use Rattle.supertypes.specs.MeaningWorkspace.{enough, left}
use Rattle.named_types.specs.MeaningWalk.{Walks}
use Rattle.type_ref.specs.MeaningTypes.{from_path}
use Rattle.type_ref.specs.Told.{told_type_ref}
use Rattle.type_ref.specs.declared.TypeRef.{TypeRef}
use Rattle.type_ref.specs.declared.TypeRef.TheVariants.{Named, Entity, Refused}

-- the answer's path is written as its names stand in the query, with zeros past its last step
unfoldable pub Written : List ℕ → TypeRef → Type 0
Written q (Named x) = x.path ≡ path_in (told_path q x.path)
Written q (Entity x) = x.path ≡ path_in (told_path q x.path)
Written q (Refused why) = Unit {0}

-- `from_path`: w is what the walk answers from the path asked for
unfoldable pub PromiseType : Reading → (sheet query work : List ℕ) → TypeRef → (work' : List ℕ) → Type 0
PromiseType rd s q work r work' =
    (w : Answer Bool) × ((p : Path) → path_query q ≡ done p → Walks rd (schemas_in s) p w)
    × Answers rd s (enough work) (path_query q) (from_path rd (schemas_in s) w) (told_type_ref q r) × Written q r × (work' ≡ left s work)
