-- What a refusal in the code, and an answer that may be one, say in the paper's numbers.
use Rattle.std.specs.Prelude.{ℕ, Result, Ok, Err}
use Rattle.refusal.specs.declared.Reason.{Reason}
use Rattle.refusal.specs.declared.Reason.TheVariants.{SheetTooLong, WorkspaceTooShort, Misfit, BadName, TooMuch, Undeclared, NoDeclaration, SecondRule, TooFewTerms, TooManyFactors, TooManySets, BufferTooShort, NamedThroughItself, NoType, Malformed, NoSupertype, NoNumber}
use Rattle.refusal.specs.declared.Refusal.{Refusal}
use Rattle.refusal.specs.MeaningAnswer.{Answer, done, refused}

abbrev pub number_of : Reason → ℕ
number_of SheetTooLong = 1
number_of WorkspaceTooShort = 2
number_of Misfit = 3
number_of BadName = 4
number_of TooMuch = 5
number_of Undeclared = 6
number_of NoDeclaration = 7
number_of SecondRule = 8
number_of TooFewTerms = 9
number_of TooManyFactors = 10
number_of TooManySets = 11
number_of BufferTooShort = 12
number_of NamedThroughItself = 13
number_of NoType = 14
number_of Malformed = 15
number_of NoSupertype = 16
number_of NoNumber = 17

abbrev pub told_refusal : {A : Type 0} → Refusal → Answer A
told_refusal r = refused (number_of r.reason) r.place

-- an answer, of whose value is told what f says of it
abbrev pub told_by : {A B : Type 0} → (A → B) → Result A Refusal → Answer B
told_by f (Ok a) = done (f a)
told_by f (Err why) = told_refusal why

-- an answer, of whose value all is told
abbrev pub told : {A : Type 0} → Result A Refusal → Answer A
told (Ok a) = done a
told (Err why) = told_refusal why
