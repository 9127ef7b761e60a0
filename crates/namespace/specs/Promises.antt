-- What the public functions promise.
use Rattle.std.specs.Prelude.{ℕ, ◌≡◌, List, [], Result, true}
use Rattle.refusal.specs.MeaningAnswer.{Answer, done, refused, mapped}
use Rattle.refusal.specs.Told.{told}
use Rattle.refusal.specs.declared.Refusal.{Refusal}
use Rattle.grammar.specs.MeaningReading.{Reading}
use Rattle.sheet.specs.MeaningName.{Name}
use Rattle.scope.specs.MeaningScope.{Path}
use Rattle.query.specs.MeaningQuery.{resolve_query, path_query}
use Rattle.declarations.specs.MeaningNamespace.{schemas_in, resolve_of, get_of, path_at}
use Rattle.namespace.specs.MeaningOrder.{Answers}

-- `resolve`: the number of the declaration that a name means in a scope
unfoldable pub PromiseResolve : Reading → (sheet query : List ℕ) → Result ℕ Refusal → Type 0
PromiseResolve rd s q r = Answers rd s true (resolve_query q) (resolve_of rd (schemas_in s)) (told r)

-- `get`: the number of the first declaration with an equal path
unfoldable pub PromiseGet : Reading → (sheet query : List ℕ) → Result ℕ Refusal → Type 0
PromiseGet rd s q r = Answers rd s true (path_query q) (get_of rd (schemas_in s)) (told r)

-- ---- `as_path`: "schema name and item name as the parts of the sheet that hold them, by a question each; refused, the part is empty and a third question tells why"

-- the path of the declaration with the index
unfoldable pub Asked : Reading → List ℕ → ℕ → Answer Path → Type 0
Asked rd s i o = Answers rd s true (done i) (path_at (schemas_in s)) o

unfoldable pub part_of : (Path → Name) → Answer Path → List ℕ
part_of name (done p) = (name p).bytes
part_of name (refused n place) = []

-- `schema_name` and `item_name`
unfoldable pub PromisePart : (Path → Name) → Reading → List ℕ → ℕ → List ℕ → Type 0
PromisePart name rd s i b = (o : Answer Path) × Asked rd s i o × (b ≡ part_of name o)

-- `as_path`
unfoldable pub PromisePath : Reading → List ℕ → ℕ → Result (Unit {0}) Refusal → Type 0
PromisePath rd s i r = (o : Answer Path) × Asked rd s i o × (told r ≡ mapped (λ p. tt) o)
