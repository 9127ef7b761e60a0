-- What the cases of the code's types mean, in the papers' words.
use Rattle.std.specs.Prelude.{ℕ, Result, Ok, Err}
use Rattle.refusal.specs.MeaningAnswer.{Answer, done, refused}
use Rattle.refusal.specs.Told.{number_of}
use Rattle.refusal.specs.declared.Reason.{Reason}
use Rattle.grammar.specs.MeaningReading as meaning
use Rattle.sheet.specs.declared.Reading.{Reading}
use Rattle.sheet.specs.declared.Reading.TheVariants.{Rust}

unfoldable pub told_reading : Reading → meaning.Reading
told_reading Rust = meaning.Reading.rust

-- what is wrong: the reason's number, or 0 where nothing is
abbrev pub told_fault : {A : Type 0} → Result A Reason → ℕ
told_fault (Ok a) = 0
told_fault (Err why) = number_of why

-- an answer of one place, at which each of its refusals is
abbrev pub told_at : {A : Type 0} → ℕ → Result A Reason → Answer A
told_at at (Ok a) = done a
told_at at (Err why) = refused (number_of why) at
