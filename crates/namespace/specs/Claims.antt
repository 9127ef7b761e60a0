-- One input allows one outcome: each claim is a type, and proofs/Proved.antt has a member of each.
use Rattle.std.specs.Prelude.{ℕ, ◌≡◌, List, Result}
use Rattle.refusal.specs.declared.Refusal.{Refusal}
use Rattle.grammar.specs.MeaningReading.{Reading}
use Rattle.sheet.specs.MeaningName.{Name}
use Rattle.scope.specs.MeaningScope.{Path}
use Rattle.namespace.specs.Promises.{PromiseResolve, PromiseGet, PromisePart, PromisePath}

abbrev pub ResolveOnce : Type 0
ResolveOnce = (rd : Reading) (s q : List ℕ) (r r' : Result ℕ Refusal) → PromiseResolve rd s q r → PromiseResolve rd s q r' → r ≡ r'

abbrev pub GetOnce : Type 0
GetOnce = (rd : Reading) (s q : List ℕ) (r r' : Result ℕ Refusal) → PromiseGet rd s q r → PromiseGet rd s q r' → r ≡ r'

abbrev pub PartOnce : Type 0
PartOnce = (name : Path → Name) (rd : Reading) (s : List ℕ) (i : ℕ) (b b' : List ℕ) → PromisePart name rd s i b → PromisePart name rd s i b' → b ≡ b'

abbrev pub PathOnce : Type 0
PathOnce = (rd : Reading) (s : List ℕ) (i : ℕ) (r r' : Result (Unit {0}) Refusal) → PromisePath rd s i r → PromisePath rd s i r' → r ≡ r'
