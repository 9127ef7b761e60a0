-- Which fields hold fields.
use Rattle.std.specs.Prelude.{ℕ, Bool, true, false}
use Rattle.grammar.specs.MeaningGrammar.{Kind, kind_of}
use Rattle.grammar.specs.MeaningGrammar.Kind.{name, simple, empty, fields}

-- does a tag hold fields?
abbrev pub holds_fields : Kind → Bool
holds_fields name = false
holds_fields simple = false
holds_fields empty = false
holds_fields fields = true

abbrev pub nests : ℕ → Bool
nests t = holds_fields (kind_of t)
