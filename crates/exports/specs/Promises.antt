-- What each export promises.
use Rattle.std.specs.Prelude.{ℕ, ◌-◌, ◌≡◌, List, take, drop}
use Rattle.refusal.specs.MeaningAnswer.{Answer, done, refused, mapped}
use Rattle.grammar.specs.MeaningReading.Reading.{rust}
use Rattle.sheet.specs.MeaningName.{Name}
use Rattle.scope.specs.MeaningScope as meaning
use Rattle.scope.specs.MeaningScope.{Path}
use Rattle.namespace.specs.Promises.{Asked, PromisePart}
use Rattle.codes.specs.MeaningCode.{read}

-- what C reads is what an answer tells that keeps the question's own promise
abbrev pub Exported : {A : Type 0} → (told : A → Answer ℕ) → (Promised : A → Type 0) → (number value : ℕ) → Type 0
Exported {A} told Promised number value = (a : A) × Promised a × (told a ≡ read number value)

-- the place after a name; 0 where it is refused
unfoldable pub stop_of : (Path → Name) → Answer Path → ℕ
stop_of name (done p) = meaning.stop (name p)
stop_of name (refused n place) = 0

-- `schema_name` and `item_name`: the part of the sheet from start to stop is the one that the question promises, and it is the very part that holds the name
unfoldable pub ExportedName : (name : Path → Name) → (sheet : List ℕ) → (index number start stop : ℕ) → Type 0
ExportedName name s i number start stop =
    (o : Answer Path) × Asked rust s i o × (mapped (λ p. (name p).at) o ≡ read number start) × (stop ≡ stop_of name o) × PromisePart name rust s i (take (stop - start) (drop start s))
