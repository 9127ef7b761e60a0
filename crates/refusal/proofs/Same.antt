-- Two refusals that say the same are one.
use mathlib.Core.Path.{◌≡◌, refl, sym, ap, ◌∙◌}
use Rattle.std.specs.Prelude.{ℕ, cond, eqb}
use Rattle.refusal.specs.declared.Reason.{Reason}
use Rattle.refusal.specs.declared.Reason.TheVariants.{SheetTooLong, WorkspaceTooShort, Misfit, BadName, TooMuch, Undeclared, NoDeclaration, SecondRule, TooFewTerms, TooManyFactors, TooManySets, BufferTooShort, NamedThroughItself, NoType, Malformed, NoSupertype, NoNumber}
use Rattle.refusal.specs.declared.Refusal.{Refusal}
use Rattle.refusal.specs.Told.{number_of}

-- the reason with a number
abbrev reason_of : ℕ → Reason
reason_of n = cond (eqb n 1) SheetTooLong (cond (eqb n 2) WorkspaceTooShort (cond (eqb n 3) Misfit (cond (eqb n 4) BadName (cond (eqb n 5) TooMuch (cond (eqb n 6) Undeclared (cond (eqb n 7) NoDeclaration (cond (eqb n 8) SecondRule (cond (eqb n 9) TooFewTerms (cond (eqb n 10) TooManyFactors (cond (eqb n 11) TooManySets (cond (eqb n 12) BufferTooShort (cond (eqb n 13) NamedThroughItself (cond (eqb n 14) NoType (cond (eqb n 15) Malformed (cond (eqb n 16) NoSupertype (NoNumber))))))))))))))))

own_number : (r : Reason) → reason_of (number_of r) ≡ r
own_number SheetTooLong = refl
own_number WorkspaceTooShort = refl
own_number Misfit = refl
own_number BadName = refl
own_number TooMuch = refl
own_number Undeclared = refl
own_number NoDeclaration = refl
own_number SecondRule = refl
own_number TooFewTerms = refl
own_number TooManyFactors = refl
own_number TooManySets = refl
own_number BufferTooShort = refl
own_number NamedThroughItself = refl
own_number NoType = refl
own_number Malformed = refl
own_number NoSupertype = refl
own_number NoNumber = refl

pub same_refusal : (r q : Refusal) → number_of r.reason ≡ number_of q.reason → r.place ≡ q.place → r ≡ q
same_refusal r q n p =
    let e : r.reason ≡ q.reason = sym (own_number r.reason) ∙ ap reason_of n ∙ own_number q.reason in
    λ i. record { reason = e i; place = p i }
