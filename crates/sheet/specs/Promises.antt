-- What the public functions promise.
use Rattle.std.specs.Prelude.{ℕ, List, Result}
use Rattle.refusal.specs.Told.{told}
use Rattle.refusal.specs.declared.Refusal.{Refusal}
use Rattle.grammar.specs.MeaningReading.{Reading}
use Rattle.sheet.specs.MeaningSheet.{Is}

-- `verdict`: r is the verdict on the sheet s
unfoldable pub PromiseVerdict : Reading → List ℕ → Result (Unit {0}) Refusal → Type 0
PromiseVerdict rd s r = Is rd s (told r)
