-- What the cases of the code's inner answers mean.
use Rattle.std.specs.Prelude.{ℕ, ◌-◌, ◌≤◌, ◌≡◌, List, Result, length, take, drop}
use Rattle.refusal.specs.MeaningAnswer.{Answer}
use Rattle.refusal.specs.Told.{told_by}
use Rattle.refusal.specs.declared.Refusal.{Refusal}
use Rattle.sheet.specs.MeaningName.{Name}
use Rattle.schemas.specs.MeaningSchemas as schemas
use Rattle.named_types.specs.MirrorTypes.{Turn, stops, onto}
use Rattle.named_types.specs.declared.Body.{Body}
use Rattle.named_types.specs.declared.Body.TheVariants as body
use Rattle.named_types.specs.declared.Step.{Step}
use Rattle.named_types.specs.declared.Step.TheVariants.{Ends, Goes}

-- the name that stands between two places
unfoldable pub name_within : List ℕ → (start stop : ℕ) → Name
name_within s a b = record { at = a; bytes = take (b - a) (drop a s) }

-- a type's body, as the bytes have it
abbrev pub BodyIs : List ℕ → schemas.Body → Body → Type 0
BodyIs s x body.Simple = (k : ℕ) × (x ≡ schemas.Body.simple k)
BodyIs s x body.Enumeration = x ≡ schemas.Body.enumeration
BodyIs s x (body.Named at) = (x ≡ schemas.Body.named (name_within s at.start at.stop)) × (at.start ≤ at.stop) × (at.stop ≤ length s)
BodyIs s x body.Other = x ≡ schemas.Body.other

abbrev pub turn_told : Step → Turn
turn_told (Ends b) = stops b
turn_told (Goes n) = onto n

abbrev pub told_turn : Result Step Refusal → Answer Turn
told_turn = told_by turn_told
