-- The list of an expression: refused, or handed out from the rows where it was worked out.
use mathlib.Core.Path.{◌≡◌}
use mathlib.Core.List.{List}
use Prim.Native.Nat.{ℕ, ◌≤◌}
use native.Mathlib.Omega.{arith}
use lib.ListN.{length}
use Rattle.std.specs.Prelude.{Result, Ok, Err}
use Rattle.refusal.specs.MeaningAnswer.{Answer, done, refused}
use Rattle.refusal.specs.declared.Refusal.{Refusal}
use Rattle.complex_entity.specs.MeaningParts.{Part}
use Rattle.instantiables.specs.Told.{told_listed}
use Rattle.instantiables.specs.declared.Instantiables.{Instantiables}
use Rattle.operands.specs.MirrorResults.{Within, FrontIf, Handed}
use Rattle.operands.specs.Promises.{Answers}
use Rattle.operands.proofs.Handing.{hand_answers}
use Rattle.evaluation.proofs.Walking.{valued_stands}
use Rattle.expression.specs.MeaningExpression.{Expr, eval}
use Rattle.expression.specs.MirrorNodes.{flat, Node}
use Rattle.terms.specs.MirrorValues as terms
use Rattle.terms.specs.MirrorValues.{Valuing}
use Rattle.replay_rows.specs.Asked.{ask_eval}

front_stands : (o : Answer (List Part)) (rows : List ℕ) → terms.FrontIf o rows → FrontIf o rows
front_stands (done L) rows f = f
front_stands (refused n place) rows f = tt

module _ (nodes before rows : List ℕ) (v : Result Instantiables Refusal) (roomy : 9984 ≤ length before) (same : length rows ≡ length before)
    (valued : (e : Expr ℕ) → nodes ≡ flat e → Valuing (eval e) rows (told_listed v)) where
  within : (e : Expr ℕ) → nodes ≡ flat e → Within (told_listed v) rows
  within e h = by v (valued e h)
    where
      by : (r : Result Instantiables Refusal) → Valuing (eval e) rows (told_listed r) → Within (told_listed r) rows
      by (Err why) w = tt
      by (Ok k) w = let s = (valued_stands e rows k.count w (omega (arith, roomy, same))).1 in omega (arith, s.small, s.room)

  pub eval_fits : Node nodes 12 → Within (told_listed v) rows
  eval_fits n = within n.expr n.is

  pub eval_handed : (out out' : List ℕ) (r : Result Instantiables Refusal) → Handed (told_listed v) rows out (told_listed r) out' → (e : Expr ℕ) → nodes ≡ flat e → Answers (ask_eval e (length out)) out r out'
  unfolding ask_eval
  eval_handed out out' r f e h =
      let w = valued e h in
      hand_answers (eval e) rows out v r out' (record { says = w.says; front = front_stands (eval e) rows w.stands; within = within e h }) f

pub ruleset evaluating = (eval_fits, eval_handed)
