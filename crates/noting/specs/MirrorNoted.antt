-- Where names stand in a sheet, and where that is noted.
use Rattle.std.specs.Prelude.{ℕ, ◌+◌, ◌*◌, ◌-◌, ◌≤◌, ◌≡◌, List, length, take, drop, get_or}
use Rattle.lookup.specs.declared.Span.{Span}
use Rattle.declarations.specs.MeaningNamespace.{schemas_in}
use Rattle.noting.specs.MeaningNames.{names_of}

-- the bytes from one place to another
abbrev pub bytes_at : List ℕ → Span → List ℕ
bytes_at s span = take (span.stop - span.start) (drop span.start s)

-- these bytes stand there
pub record Spells (s bytes : List ℕ) (span : Span) : Type 0 where
  pub order : span.start ≤ span.stop
  pub within : span.stop ≤ length s
  pub there : bytes_at s span ≡ bytes

-- ---- the names that are noted

abbrev pub span_at : List ℕ → ℕ → Span
span_at names k = record { start = get_or names k 0; stop = get_or names (k + 1) 0 }

-- four numbers say where the names of a declaration stand
pub record NotedAt (s names : List ℕ) (i : ℕ) : Type 0 where
  pub schema : Spells s (names_of (schemas_in s) i).schema (span_at names (4 * i))
  pub item : Spells s (names_of (schemas_in s) i).item (span_at names (4 * i + 2))

-- all that there is room for
abbrev pub Noted : (sheet names : List ℕ) → Type 0
Noted s names = (i : ℕ) → 4 * i + 4 ≤ length names → NotedAt s names i
