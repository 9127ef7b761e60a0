-- How steps, scopes and paths are held in the code's structs: what Told tells, the other way round.
use Rattle.std.specs.Prelude.{List, [], ◌∷◌}
use Rattle.scope.specs.MeaningScope as meaning
use Rattle.scope.specs.MeaningScope.{Step, stop}
use Rattle.scope.specs.declared.ScopeType.{ScopeType}
use Rattle.scope.specs.declared.ScopeType.TheVariants.{Entity, Alias, Function, Procedure, Query, Repeat, Rule, Schema, SubType, «Type»}
use Rattle.scope.specs.declared.Rung.{Rung}
use Rattle.scope.specs.declared.Scope.{Scope}
use Rattle.scope.specs.declared.Path.{Path}

abbrev pub kind_in : meaning.ScopeType → ScopeType
kind_in meaning.ScopeType.entity = Entity
kind_in meaning.ScopeType.alias = Alias
kind_in meaning.ScopeType.function = Function
kind_in meaning.ScopeType.procedure = Procedure
kind_in meaning.ScopeType.query = Query
kind_in meaning.ScopeType.repeat = Repeat
kind_in meaning.ScopeType.rule = Rule
kind_in meaning.ScopeType.schema = Schema
kind_in meaning.ScopeType.sub_type = SubType
kind_in meaning.ScopeType.type = «Type»

unfoldable pub rung_of : Step → Rung
rung_of x = record { kind = kind_in x.kind; start = x.name.at; stop = stop x.name }

-- what stands past the last step
abbrev pub no_rung : Rung
no_rung = record { kind = Entity; start = 0; stop = 0 }

abbrev pub scope_0 : Scope
scope_0 = record { count = 0; one = no_rung; two = no_rung; three = no_rung }

abbrev pub scope_1 : Rung → Scope
scope_1 x = record { count = 1; one = x; two = no_rung; three = no_rung }

abbrev pub scope_2 : Rung → Rung → Scope
scope_2 x y = record { count = 2; one = x; two = y; three = no_rung }

abbrev pub scope_3 : Rung → Rung → Rung → Scope
scope_3 x y z = record { count = 3; one = x; two = y; three = z }

unfoldable pub scope_of : List Step → Scope
scope_of [] = scope_0
scope_of (x ∷ []) = scope_1 (rung_of x)
scope_of (x ∷ y ∷ []) = scope_2 (rung_of x) (rung_of y)
scope_of (x ∷ y ∷ z ∷ w) = scope_3 (rung_of x) (rung_of y) (rung_of z)

unfoldable pub path_in : meaning.Path → Path
path_in p = record { scope = scope_of p.scope; item = rung_of p.item }
