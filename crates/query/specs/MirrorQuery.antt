-- How what a query asks for stands in the code's structs.
use Rattle.std.specs.Prelude.{ℕ, ◌≤◌, ◌≡◌, List, length, Some, None, Result, Ok, Err}
use Rattle.std.specs.Prelude as code
use Rattle.std.proofs.Math.Option.{Option, none, some}
use Rattle.refusal.specs.MeaningAnswer.{Answer, done, refused}
use Rattle.refusal.specs.declared.Reason.TheVariants.{Malformed}
use Rattle.refusal.specs.declared.Refusal.{Refusal}
use Rattle.sheet.specs.MeaningName.{Name}
use Rattle.scope.specs.MeaningScope as meaning
use Rattle.scope.specs.MeaningScope.{Step, most_steps, stop}
use Rattle.query.specs.MeaningQuery.{step_at, word_at, Taken, steps_at, Question}
use Rattle.scope.specs.Held.{kind_in, rung_of, scope_of}
use Rattle.sheet.specs.declared.Field.{Field}
use Rattle.scope.specs.declared.ScopeType.{ScopeType}
use Rattle.scope.specs.declared.Rung.{Rung}
use Rattle.query.specs.declared.Reached.{Reached}
use Rattle.query.specs.declared.Place.{Place}
use Rattle.query.specs.declared.AskedName.{AskedName}

unfoldable pub kind_out : Option meaning.ScopeType → code.Option ScopeType
kind_out none = None
kind_out (some k) = Some (kind_in k)

unfoldable pub step_out : Option Step → code.Option Rung
step_out none = None
step_out (some x) = Some (rung_of x)

unfoldable pub word_out : Option Name → code.Option Field
word_out none = None
word_out (some x) = Some (record { tag = 0x10; start = x.at; stop = stop x })

-- the step and the name that stand at a place, as the code holds them
abbrev pub step_in : List ℕ → ℕ → code.Option Rung
step_in q at = step_out (step_at q at)

abbrev pub word_in : List ℕ → ℕ → code.Option Field
word_in q at = word_out (word_at q at)

unfoldable pub reached_of : Taken → Reached
reached_of t = record { scope = scope_of t.steps; at = t.after }

-- ---- readers

-- a place of a query, and where the query ends
abbrev pub InQuery : List ℕ → (at end : ℕ) → Type 0
InQuery q at end = (at ≤ end) × (end ≡ length q)

-- the place after what stands at `at`, where that stops: the same where nothing does
unfoldable pub past_of : {A : Type 0} → (A → ℕ) → code.Option A → ℕ → ℕ
past_of stop_of None at = at
past_of stop_of (Some x) at = stop_of x

-- a reader's place that has moved on: the query still ends where it did
abbrev pub moved_to : ℕ → Place → Place
moved_to at p = record { at = at; end = p.end }

-- past the step, or past the name, that stands there
abbrev pub past_step : List ℕ → Place → Place
past_step q p = moved_to (past_of (λ x. x.stop) (step_in q p.at) p.at) p

abbrev pub past_word : List ℕ → Place → Place
past_word q p = moved_to (past_of (λ x. x.stop) (word_in q p.at) p.at) p

-- the steps that a query begins with, and what stands behind them
abbrev pub front : List ℕ → Taken
front q = steps_at most_steps q 0

-- ---- the answers: what was asked for, as f holds it, or where the query is malformed

unfoldable pub asked_by : {A B : Type 0} → (A → B) → Answer A → Result B Refusal
asked_by f (done a) = Ok (f a)
asked_by f (refused n place) = Err (record { reason = Malformed; place = place })

unfoldable pub name_in : Question → AskedName
name_in a = record { scope = scope_of a.scope; start = a.word.at; stop = stop a.word }
