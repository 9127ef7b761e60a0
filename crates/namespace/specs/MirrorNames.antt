-- Where a name of a declaration's path stands in the sheet.
use Rattle.std.specs.Prelude.{ℕ, ◌≡◌, List, Result, Ok, Err}
use Rattle.refusal.specs.MeaningAnswer.{done}
use Rattle.refusal.specs.Told.{told_refusal}
use Rattle.refusal.specs.declared.Refusal.{Refusal}
use Rattle.grammar.specs.MeaningReading.{Reading}
use Rattle.sheet.specs.MeaningName.{Name}
use Rattle.scope.specs.MeaningScope.{Path}
use Rattle.declarations.specs.MeaningNamespace.{schema_name, item_name}
use Rattle.lookup.specs.MirrorLookup.{span_of, Lies}
use Rattle.lookup.specs.declared.Span.{Span}
use Rattle.namespace.specs.Promises.{Asked}
use Rattle.namespace.specs.declared.PathName.{PathName}
use Rattle.namespace.specs.declared.PathName.TheVariants.{Schema, Item}

unfoldable pub name_within : PathName → Path → Name
name_within Schema p = schema_name p
name_within Item p = item_name p

-- the name of the path with the index stands in the span
pub record NameSpells (rd : Reading) (s : List ℕ) (i : ℕ) (which : PathName) (v : Span) : Type 0 where
  pub path : Path
  pub asked : Asked rd s i (done path)
  pub spans : v ≡ span_of (name_within which path)
  pub lies : Lies s (name_within which path)

-- or there is no such path, and why
abbrev pub NameStands : Reading → List ℕ → ℕ → PathName → Result Span Refusal → Type 0
NameStands rd s i which (Ok v) = NameSpells rd s i which v
NameStands rd s i which (Err why) = Asked rd s i (told_refusal why)
