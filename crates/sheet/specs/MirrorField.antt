-- What stands at a place of a value.
use Rattle.std.specs.Prelude.{ℕ, ◌+◌, ◌-◌, List, cond, ltb, Option, Some, None}
use Rattle.sheet.specs.MeaningSheet.{tag_of, size_of}
use Rattle.sheet.specs.declared.Field.{Field}

-- the field at `at`, if it ends within a value that ends at e: its tag, and where its value starts and stops
unfoldable pub field_at : List ℕ → ℕ → ℕ → Option Field
field_at s at e = cond (ltb (e - at) 3) None (cond (ltb (e - (at + 3)) (size_of s at)) None (Some (record { tag = tag_of s at; start = at + 3; stop = at + 3 + size_of s at })))
