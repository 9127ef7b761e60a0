-- What the functions of one step know of a field without a fault.
use mathlib.Core.Path.{◌≡◌, refl}
use mathlib.Core.List.{List}
use mathlib.Core.Bool.{Bool, true, false, cond}
use Prim.Native.Nat.{ℕ, ◌+◌, ◌-◌, ◌<◌, ◌≤◌}
use native.Mathlib.Omega.{arith}
use borrow.Author.Tests.{eq-eqb, ne_eqb, eqb-true, lt-ltb, le-ltb, ltb-true, ltb-false}
use lib.Dec.{ltb, eqb}
use lib.ListN.{length, take, drop}
use Rattle.std.specs.Prelude.{Option, Some, None}
use Rattle.refusal.specs.MeaningAnswer.{refused}
use Rattle.refusal.specs.Told.{number_of}
use Rattle.refusal.specs.declared.Reason.{Reason}
use Rattle.refusal.specs.declared.Reason.TheVariants.{SheetTooLong, WorkspaceTooShort, Misfit, BadName, TooMuch, Undeclared, NoDeclaration, SecondRule, TooFewTerms, TooManyFactors, TooManySets, BufferTooShort, NamedThroughItself, NoType, Malformed, NoSupertype, NoNumber}
use Rattle.grammar.specs.MeaningReading.{Reading}
use Rattle.sheet.specs.MeaningSheet.{size_of}
use Rattle.grammar.specs.MirrorTable.{row_count, cell_at, in_table, row_of, answer_at}
use Rattle.sheet.specs.MirrorField.{field_at}
use Rattle.sheet.specs.MirrorCheck.{value_fault, depth_fault, or_next, field_fault, on_fault, on_field, step_at}
use Rattle.sheet.specs.declared.Field.{Field}
use Rattle.sheet.specs.declared.Counts.{Counts}
use Rattle.grammar.proofs.Choosing.{either, clash}
use Rattle.grammar.proofs.Serving.{row_found, row_missing}

-- ---- the field

module _ (s : List ℕ) (at e : ℕ) where
  abbrev pub Inside : Option Field → Type 0
  Inside None = Unit {0}
  Inside (Some f) = (at < f.start) × (f.start ≤ f.stop) × (f.stop ≤ e)

  pub inside : Inside (field_at s at e)
  unfolding field_at
  inside =
      either Inside (ltb (e - at) 3) None _ (λ _. tt)
      (λ h. either Inside (ltb (e - (at + 3)) (size_of s at)) None _ (λ _. tt)
      (λ k. omega (arith, ltb-false (e - at) 3 h, ltb-false (e - (at + 3)) (size_of s at) k)))

  -- the part of the bytes that is a field's value
  module _ (f : Field) (q : field_at s at e ≡ Some f) where
    lies : (at < f.start) × (f.start ≤ f.stop) × (f.stop ≤ e)
    lies = let i = inside in rw q at i

    pub value_order : f.start ≤ f.stop
    value_order = lies.1

    pub value_in : e ≤ length s → f.stop ≤ length s
    value_in l = let i = lies in omega arith

-- ---- its faults

or_zero : (m n : ℕ) → or_next m n ≡ 0 → (m ≡ 0) × (n ≡ 0)
unfolding or_next
or_zero m n q = go (eqb m 0) refl q
  where
    go : (b : Bool) → eqb m 0 ≡ b → ◌≡◌ {A = ℕ} (cond b n m) 0 → (m ≡ 0) × (n ≡ 0)
    go true e k = (eqb-true m 0 e, k)
    go false e k = clash (let z : eqb m 0 ≡ true = eq-eqb m 0 k in cc)

-- a field without a fault has a row that takes it, a value of its kind, and room for its depth
pub record NoFault (rd : Reading) (v : List ℕ) (r d : ℕ) : Type 0 where
  pub row : r < row_count
  pub answer : answer_at rd r ≡ 0
  pub value : value_fault v r ≡ 0
  pub room : cell_at r 9 ≤ d

pub no_fault : (rd : Reading) (v : List ℕ) (r d : ℕ) → field_fault rd v r d ≡ 0 → NoFault rd v r d
unfolding field_fault depth_fault
no_fault rd v r d q = go (ltb r row_count) refl q
  where
    room : (b : Bool) → ltb d (cell_at r 9) ≡ b → ◌≡◌ {A = ℕ} (cond b 5 0) 0 → cell_at r 9 ≤ d
    room true e k = clash (let z : ◌≡◌ {A = ℕ} 5 0 = k in omega arith)
    room false e k = ltb-false d (cell_at r 9) e

    go : (b : Bool) → ltb r row_count ≡ b → ◌≡◌ {A = ℕ} (cond b (or_next (answer_at rd r) (or_next (value_fault v r) (depth_fault d r))) 3) 0 → NoFault rd v r d
    go true e k =
        let x = or_zero (answer_at rd r) (or_next (value_fault v r) (depth_fault d r)) k in
        let y = or_zero (value_fault v r) (depth_fault d r) x.1 in
        record { row = ltb-true r row_count e; answer = x.0; value = y.0; room = room (ltb d (cell_at r 9)) refl y.1 }
    go false e k = clash (let z : ◌≡◌ {A = ℕ} 3 0 = k in omega arith)

pub faultless : (rd : Reading) (v : List ℕ) (r d : ℕ) → NoFault rd v r d → field_fault rd v r d ≡ 0
unfolding field_fault or_next depth_fault
faultless rd v r d f = simp (lt-ltb r row_count f.row, f.answer, f.value, le-ltb d (cell_at r 9) f.room)

pub room : (rd : Reading) (v : List ℕ) (r d : ℕ) → field_fault rd v r d ≡ 0 → cell_at r 9 ≤ d
room rd v r d q = (no_fault rd v r d q).room

-- a tag without a row may not stand
pub no_row : (rd : Reading) (v : List ℕ) (r d : ℕ) → in_table r ≡ None → field_fault rd v r d ≡ 3
unfolding field_fault
no_row rd v r d h = rw (le-ltb r row_count (row_missing r h)) refl

-- no reason has the number 0
a_fault : (why : Reason) → eqb (number_of why) 0 ≡ false
a_fault SheetTooLong = refl
a_fault WorkspaceTooShort = refl
a_fault Misfit = refl
a_fault BadName = refl
a_fault TooMuch = refl
a_fault Undeclared = refl
a_fault NoDeclaration = refl
a_fault SecondRule = refl
a_fault TooFewTerms = refl
a_fault TooManyFactors = refl
a_fault TooManySets = refl
a_fault BufferTooShort = refl
a_fault NamedThroughItself = refl
a_fault NoType = refl
a_fault Malformed = refl
a_fault NoSupertype = refl
a_fault NoNumber = refl

pub ruleset stepping = (value_order, value_in, row_found, no_row, room)

-- a field with a fault stops the step
pub step_fault : (rd : Reading) (s : List ℕ) (p st at e d : ℕ) (c : Counts) → (at ≡ e → ⊥) → (f : Field) → field_at s at e ≡ Some f → (r : ℕ) → in_table (row_of p st f.tag) ≡ Some r
    → (why : Reason) → number_of why ≡ field_fault rd (take (f.stop - f.start) (drop f.start s)) r d → refused (number_of why) at ≡ step_at rd s p st at e d c
unfolding step_at on_field on_fault
step_fault rd s p st at e d c n f k r h why w = simp (ne_eqb at e n, k, (row_found (row_of p st f.tag) r h).1, ← w, a_fault why)
