-- What the code asks of spans, and how it takes one step more or less.
use Rattle.std.specs.Prelude.{ℕ, ◌≤◌, List, cond, length, eqb, Option, Some, None}
use Rattle.scope.specs.Held.{scope_0, scope_1, scope_2, scope_3}
use Rattle.scope.specs.declared.Rung.{Rung}
use Rattle.scope.specs.declared.Scope.{Scope}

-- the span of a name lies in the bytes
pub record Spans (s : List ℕ) (x : Rung) : Type 0 where
  pub ordered : x.start ≤ x.stop
  pub inside : x.stop ≤ length s

pub record Fits (s : List ℕ) (x : Scope) : Type 0 where
  pub few : x.count ≤ 3
  pub first : Spans s x.one
  pub second : Spans s x.two
  pub third : Spans s x.three

-- ---- one step more, one step less

unfoldable pub pushed_on : Scope → Rung → Option Scope
pushed_on s x = cond (eqb s.count 0) (Some (scope_1 x)) (cond (eqb s.count 1) (Some (scope_2 s.one x)) (cond (eqb s.count 2) (Some (scope_3 s.one s.two x)) None))

unfoldable pub popped_from : Scope → Option Scope
popped_from s = cond (eqb s.count 0) None (cond (eqb s.count 1) (Some scope_0) (cond (eqb s.count 2) (Some (scope_1 s.one)) (Some (scope_2 s.one s.two))))

unfoldable pub last_of : Scope → Rung
last_of s = cond (eqb s.count 1) s.one (cond (eqb s.count 2) s.two s.three)
