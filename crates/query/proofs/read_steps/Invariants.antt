-- `read_steps` takes one step after the other: its loop keeps that the scope holds those before `from`.
use Prim.Native.Nat.{◌-◌}
use Rattle.query.proofs.Reaching.{Taking}
use Rattle.query.proofs.read_steps.Given as goal

abbrev pub invariant-loop-step : goal.invariant-loop-step
invariant-loop-step l = Taking l.q l.at l.from l.scope

abbrev pub decreases-loop-step : goal.decreases-loop-step
decreases-loop-step l = 3 - l.scope.count
