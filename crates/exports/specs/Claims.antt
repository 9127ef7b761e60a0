-- What is proved of the exports, to be read without the proofs: each claim is a type, and proofs/Proved.antt has a member of it.
use Rattle.std.specs.Prelude.{ℕ, ◌≡◌, List}
use Rattle.refusal.specs.MeaningAnswer.{Answer}
use Rattle.grammar.specs.MeaningReading.Reading.{rust}
use Rattle.sheet.specs.MeaningName.{Name}
use Rattle.scope.specs.MeaningScope.{Path}
use Rattle.instantiables.specs.Told.{told_listed}
use Rattle.operators.specs.MeaningOperators.{Operator, Several}
use Rattle.operands.specs.MeaningOperands.{Operand}
use Rattle.algebra.specs.Promises.{PromiseNew, PromiseSingle, PromiseCompare, PromiseTwo, PromiseSeveral}
use Rattle.sheet.specs.Promises.{PromiseVerdict}
use Rattle.query.specs.Promises.{PromiseOrder}
use Rattle.namespace.specs.Promises.{PromiseResolve, PromiseGet, PromisePath}
use Rattle.constraints.specs.Promises.{PromiseSupertype, PromiseList, PromiseNumber, PromiseRow, PromiseKth}
use Rattle.type_ref.specs.Promises.{PromiseType}
use Rattle.codes.specs.Told.{numbered, judged, decided, compared_parts, compared_scopes, typed}
use Rattle.exports.specs.Promises.{Exported, ExportedName}

-- one call allows one outcome: number, value, and the end state of what is lent besides
abbrev pub Once : {A S : Type 0} → (told : A → Answer ℕ) → (Promised : A → S → Type 0) → Type 0
Once {A} {S} told Promised = (n m v w : ℕ) (x y : S) → Exported told (λ a. Promised a x) n v → Exported told (λ a. Promised a y) m w → (n ≡ m) × (v ≡ w) × (x ≡ y)

-- the same where nothing else is written to
abbrev pub OnceAlone : {A : Type 0} → (told : A → Answer ℕ) → (Promised : A → Type 0) → Type 0
OnceAlone told Promised = (n m v w : ℕ) → Exported told Promised n v → Exported told Promised m w → (n ≡ m) × (v ≡ w)

-- every export, by its question's promise
pub record ExportedOnce : Type 0 where
  pub new : (indices out : List ℕ) → Once told_listed (PromiseNew indices out)
  pub single : (index : ℕ) (out : List ℕ) → Once told_listed (PromiseSingle index out)
  pub compare : (left right : List ℕ) → OnceAlone compared_parts (PromiseCompare left right)
  pub two : (op : Operator) (i j : Operand) (left right out : List ℕ) → Once told_listed (PromiseTwo op i j left right out)
  pub several : (op : Several) (counts rows out : List ℕ) → Once told_listed (PromiseSeveral op counts rows out)
  pub verdict : (s : List ℕ) → OnceAlone judged (PromiseVerdict rust s)
  pub order : (left right : List ℕ) → OnceAlone compared_scopes (PromiseOrder rust left right)
  pub resolve : (s q : List ℕ) → OnceAlone numbered (PromiseResolve rust s q)
  pub get : (s q : List ℕ) → OnceAlone numbered (PromiseGet rust s q)
  pub as_path : (s : List ℕ) (index : ℕ) → OnceAlone judged (PromisePath rust s index)
  pub is_supertype : (s q work : List ℕ) → Once decided (PromiseSupertype rust s q work)
  pub list : (s q work out : List ℕ) → Once told_listed (λ a (x : List ℕ × List ℕ). PromiseList rust s q work out a x.0 x.1)
  pub number_of : (s q row work : List ℕ) → Once numbered (PromiseNumber rust s q row work)
  pub row_at : (s q : List ℕ) (number : ℕ) (work out : List ℕ) → Once told_listed (λ a (x : List ℕ × List ℕ). PromiseRow rust s q number work out a x.0 x.1)
  pub supertype_at : (s : List ℕ) (number : ℕ) (work : List ℕ) → Once numbered (PromiseKth rust s number work)
  pub from_path : (s q work : List ℕ) → Once (typed q) (PromiseType rust s q work)

-- of a name where it stands, not its bytes alone
abbrev pub NameOnce : Type 0
NameOnce = (name : Path → Name) (s : List ℕ) (i n m v w a b : ℕ) → ExportedName name s i n v a → ExportedName name s i m w b → (n ≡ m) × (v ≡ w) × (a ≡ b)
