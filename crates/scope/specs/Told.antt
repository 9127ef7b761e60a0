-- What the cases of the code's types mean, in the papers' words.
use Rattle.std.specs.declared.cmp.Ordering.{Ordering}
use Rattle.std.specs.declared.cmp.Ordering.TheVariants.{Less, Equal, Greater}
use Rattle.std.specs.Prelude.{ℕ, ◌-◌, List, [], ◌∷◌, take, drop, Option, Some, None}
use Rattle.scope.specs.MeaningScope as meaning
use Rattle.scope.specs.MeaningScope.{Comparison}
use Rattle.scope.specs.declared.ScopeType.{ScopeType}
use Rattle.scope.specs.declared.ScopeType.TheVariants.{Entity, Alias, Function, Procedure, Query, Repeat, Rule, Schema, SubType, «Type»}
use Rattle.scope.specs.declared.Rung.{Rung}
use Rattle.scope.specs.declared.Scope.{Scope}
use Rattle.scope.specs.declared.Path.{Path}

abbrev pub told_kind : ScopeType → meaning.ScopeType
told_kind Entity = meaning.ScopeType.entity
told_kind Alias = meaning.ScopeType.alias
told_kind Function = meaning.ScopeType.function
told_kind Procedure = meaning.ScopeType.procedure
told_kind Query = meaning.ScopeType.query
told_kind Repeat = meaning.ScopeType.repeat
told_kind Rule = meaning.ScopeType.rule
told_kind Schema = meaning.ScopeType.schema
told_kind SubType = meaning.ScopeType.sub_type
told_kind «Type» = meaning.ScopeType.type

-- the left scope against the right one
unfoldable pub told_compared : Option Ordering → Comparison
told_compared (Some Less) = meaning.Comparison.less
told_compared (Some Equal) = meaning.Comparison.equal
told_compared (Some Greater) = meaning.Comparison.greater
told_compared None = meaning.Comparison.unordered

-- a step, a scope and a path, by the bytes that their names stand in
unfoldable pub told_step : List ℕ → Rung → meaning.Step
told_step s x = record { kind = told_kind x.kind; name = record { at = x.start; bytes = take (x.stop - x.start) (drop x.start s) } }

unfoldable pub told_scope : List ℕ → Scope → meaning.Scope
told_scope s x = take x.count (told_step s x.one ∷ told_step s x.two ∷ told_step s x.three ∷ [])

unfoldable pub told_path : List ℕ → Path → meaning.Path
told_path s x = record { scope = told_scope s x.scope; item = told_step s x.item }
