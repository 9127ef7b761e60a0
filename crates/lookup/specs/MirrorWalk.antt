-- A walk over the fields of a value.
use Rattle.std.specs.Prelude.{◌≡◌, Option, Some, None}
use Rattle.sheet.specs.MirrorField.{field_at}
use Rattle.sheet.specs.declared.Field.{Field}
use Rattle.lookup.specs.declared.walking.Walk.{Walk}

-- the field that stands at the place, if one does, is given, and the place moves on past it
abbrev pub GivesField : Walk → Option Field → Walk → Type 0
GivesField old None new = field_at old.s.now old.at old.end ≡ None
GivesField old (Some f) new = (field_at old.s.now old.at old.end ≡ Some f) × (new.s.now ≡ old.s.now) × (new.end ≡ old.end) × (new.at ≡ f.stop)
