-- The claims of specs/Claims.antt.
use mathlib.Core.Path.{sym, ◌∙◌}
use Rattle.scope.specs.MeaningScope.{most_steps}
use Rattle.scope.proofs.Proved.{told_injective}
use Rattle.query.specs.Promises.{PromiseOrder}
use Rattle.query.specs.Claims.{OrderOnce, ScopeAccepts, ScopeRefuses, PathAccepts, PathRefuses, ResolveAccepts, ResolveRefuses, StepMoves, WordMoves, ScopeMoves}
use Rattle.query.proofs.Accepting.{step_moves, word_moves, taken_stand, scope_done, whole_scope, scope_fails, fails_scope, path_done, whole_path, path_fails, fails_path, resolve_done, asks_resolve, resolve_fails, fails_resolve}

pub order_once : OrderOnce
unfolding PromiseOrder
order_once rd left right r r' x y = told_injective r r' (x ∙ sym y)

pub scope_accepts : ScopeAccepts
scope_accepts q xs = (scope_done q xs, whole_scope q xs)

pub scope_refuses : ScopeRefuses
scope_refuses q n at = (scope_fails q n at, λ f. rw f.0 (fails_scope q at f.1))

pub path_accepts : PathAccepts
path_accepts q p = (path_done q p, whole_path q p)

pub path_refuses : PathRefuses
path_refuses q n at = (path_fails q n at, λ f. rw f.0 (fails_path q at f.1))

pub resolve_accepts : ResolveAccepts
resolve_accepts q a = (resolve_done q a, asks_resolve q a)

pub resolve_refuses : ResolveRefuses
resolve_refuses q n at = (resolve_fails q n at, λ f. rw f.0 (fails_resolve q at f.1))

pub stepping_moves : StepMoves
stepping_moves = step_moves

pub wording_moves : WordMoves
wording_moves = word_moves

pub scoping_moves : ScopeMoves
scoping_moves = taken_stand most_steps
