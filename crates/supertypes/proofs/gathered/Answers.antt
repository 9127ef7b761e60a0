-- `gathered`: the order of refusals, then gathering.
use mathlib.Core.Path.{◌≡◌}
use native.Mathlib.Omega.{arith}
use Rattle.std.proofs.lemmas.Grind.{common_steps}
use Rattle.std.specs.Prelude.{Err}
use Rattle.supertypes.proofs.Standing.{gathers_refused, gathers_short, gathers_room, gathers_count, gathers_bounded, gathers_lost, gathers_done}
use Rattle.supertypes.proofs.gathered.Goals as goal

pub returns-in_err-accepted : goal.returns-in_err-accepted
returns-in_err-accepted g c =
    let handed : c.from_residual.result ≡ Err c.in_err-accepted.field-0.0 = grind (arith, common_steps) in
    gathers_refused _ _ c.args.workspace.now c.args.asked c.cleared.result c.cleared.ensures _ c.in_err-accepted.was _ handed

pub slice_bounds-gather-end : goal.slice_bounds-gather-end
slice_bounds-gather-end g c = gathers_room _ _ c.args.workspace.now c.args.asked c.cleared.result c.cleared.ensures _ c.in_ok-accepted.was

pub slice_bounds-gather-end-2 : goal.slice_bounds-gather-end-2
slice_bounds-gather-end-2 g c = gathers_count _ _ c.args.workspace.now c.args.asked c.cleared.result c.cleared.ensures _ c.in_ok-accepted.was

pub gather-requires-clause-sheet_len_bound : goal.gather-requires-clause-sheet_len_bound
gather-requires-clause-sheet_len_bound g c = (
  gathers_short _ _ c.args.workspace.now c.args.asked c.cleared.result c.cleared.ensures _ c.in_ok-accepted.was,
  gathers_bounded _ _ c.args.workspace.now c.args.asked c.cleared.result c.cleared.ensures _ c.in_ok-accepted.was (λ i. omega (arith, c.type_inv.sheet i)),
)

pub gather-requires-clause-in_bounds : goal.gather-requires-clause-in_bounds
gather-requires-clause-in_bounds g c =
    let count = gathers_count _ _ c.args.workspace.now c.args.asked c.cleared.result c.cleared.ensures _ c.in_ok-accepted.was in
    (omega arith, omega arith)

pub returns-in_err-streams : goal.returns-in_err-streams
returns-in_err-streams g c =
    let handed : c.from_residual-in_err-streams.result ≡ Err c.in_err-streams.field-0.0 = grind (arith, common_steps) in
    let count = gathers_count _ _ c.args.workspace.now c.args.asked c.cleared.result c.cleared.ensures _ c.in_ok-accepted.was in
    gathers_lost _ _ c.args.workspace.now c.args.asked c.cleared.result c.cleared.ensures _ c.in_ok-accepted.was (λ i. omega (arith, c.type_inv.sheet i)) _ _ (omega (arith, c.gather.auto.stream)) c.gather.ensures _ c.in_err-streams.was _ handed

pub returns : goal.returns
returns g c =
    let count = gathers_count _ _ c.args.workspace.now c.args.asked c.cleared.result c.cleared.ensures _ c.in_ok-accepted.was in
    gathers_done _ _ c.args.workspace.now c.args.asked c.cleared.result c.cleared.ensures _ c.in_ok-accepted.was (λ i. omega (arith, c.type_inv.sheet i)) _ _ (omega (arith, c.gather.auto.stream)) c.gather.ensures _ c.in_ok-streams.was
