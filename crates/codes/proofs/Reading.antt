-- C reads each answer from its code, since no reason has the number 0.
use mathlib.Core.Path.{◌≡◌, refl}
use Prim.Native.Nat.{ℕ}
use Rattle.std.specs.Prelude.{Result, Ok, Err}
use Rattle.refusal.specs.MeaningAnswer.{refused}
use Rattle.refusal.specs.declared.Reason.{Reason}
use Rattle.refusal.specs.declared.Reason.TheVariants.{SheetTooLong, WorkspaceTooShort, Misfit, BadName, TooMuch, Undeclared, NoDeclaration, SecondRule, TooFewTerms, TooManyFactors, TooManySets, BufferTooShort, NamedThroughItself, NoType, Malformed, NoSupertype, NoNumber}
use Rattle.refusal.specs.declared.Refusal.{Refusal}
use Rattle.refusal.specs.Told.{number_of, told_by}
use Rattle.codes.specs.MeaningCode.{read}
use Rattle.codes.specs.MirrorCode.{code_of}

pub refusal_read : (r : Reason) (place : ℕ) → refused (number_of r) place ≡ read (number_of r) place
refusal_read SheetTooLong place = refl
refusal_read WorkspaceTooShort place = refl
refusal_read Misfit place = refl
refusal_read BadName place = refl
refusal_read TooMuch place = refl
refusal_read Undeclared place = refl
refusal_read NoDeclaration place = refl
refusal_read SecondRule place = refl
refusal_read TooFewTerms place = refl
refusal_read TooManyFactors place = refl
refusal_read TooManySets place = refl
refusal_read BufferTooShort place = refl
refusal_read NamedThroughItself place = refl
refusal_read NoType place = refl
refusal_read Malformed place = refl
refusal_read NoSupertype place = refl
refusal_read NoNumber place = refl

pub code_read : {A : Type 0} (f : A → ℕ) (a : Result A Refusal) → told_by f a ≡ read (code_of (told_by f a)).number (code_of (told_by f a)).value
code_read f (Ok a) = refl
code_read f (Err why) = refusal_read why.reason why.place
