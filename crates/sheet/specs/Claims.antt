-- What is proved of the verdict, to be read without the proofs: each claim is a type, and proofs/Proved.antt has a member of each.
use Rattle.std.specs.Prelude.{ℕ, ◌<◌, ◌≡◌, ◌↔◌, List, get_or, Result}
use Rattle.refusal.specs.MeaningAnswer.{Answer, done, refused}
use Rattle.refusal.specs.Told.{told}
use Rattle.refusal.specs.declared.Refusal.{Refusal}
use Rattle.grammar.specs.MeaningReading.{Reading}
use Rattle.sheet.specs.MeaningSheet.{Fault, First, Is}
use Rattle.sheet.specs.Promises.{PromiseVerdict}

-- ---- by the meaning alone

abbrev pub AllBytes : List ℕ → Type 0
AllBytes s = (i : ℕ) → get_or s i 0 < 256

-- one sheet has one verdict
abbrev pub OneVerdict : Type 0
OneVerdict = (rd : Reading) (s : List ℕ) (v w : Answer (Unit {0})) → Is rd s v → Is rd s w → v ≡ w

-- and every sheet has one
abbrev pub SomeVerdict : Type 0
SomeVerdict = (rd : Reading) (s : List ℕ) → AllBytes s → (v : Answer (Unit {0})) × Is rd s v

-- ---- of every answer that `verdict` can give

-- a refusal comes exactly when the table says, with the number and the place that it says
abbrev pub RefusesExactly : Type 0
RefusesExactly = (rd : Reading) (s : List ℕ) (r : Result (Unit {0}) Refusal) → PromiseVerdict rd s r → (n p : ℕ) → (told r ≡ refused n p) ↔ First rd s n p

-- a sheet is accepted exactly when it has no fault
abbrev pub AcceptsExactly : Type 0
AcceptsExactly = (rd : Reading) (s : List ℕ) (r : Result (Unit {0}) Refusal) → PromiseVerdict rd s r → (told r ≡ done tt) ↔ ((n p : ℕ) → Fault rd s n p → ⊥)

-- different answers say different things
abbrev pub ToldInjective : Type 0
ToldInjective = (r r' : Result (Unit {0}) Refusal) → told r ≡ told r' → r ≡ r'

-- one sheet allows one outcome
abbrev pub VerdictOnce : Type 0
VerdictOnce = (rd : Reading) (s : List ℕ) (r r' : Result (Unit {0}) Refusal) → PromiseVerdict rd s r → PromiseVerdict rd s r' → r ≡ r'
