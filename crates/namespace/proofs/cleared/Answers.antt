-- `cleared`: the order of refusals, once.
use borrow.Author.Rules.{rules}
use mathlib.Core.Bool.{not}
use mathlib.Core.Path.{ap}
use native.Mathlib.Omega.{arith}
use Rattle.namespace.proofs.Clearing.{clear_over, clear_room, clearing}
use Rattle.namespace.proofs.cleared.Goals as goal

pub returns-then-sheet-gt-MOST_BYTES : goal.returns-then-sheet-gt-MOST_BYTES
returns-then-sheet-gt-MOST_BYTES g c = clear_over _ c.args.sheet.now _ _ (λ i. omega (arith, c.type_inv.sheet i)) c.if-sheet-gt-MOST_BYTES.true _ c.into.ensures

pub returns-then-not-long : goal.returns-then-not-long
returns-then-not-long g c = clear_room _ c.args.sheet.now _ _ c.if-sheet-gt-MOST_BYTES.false (λ i. omega (arith, c.type_inv.sheet i)) (ap not c.if-not-long.true) _ c.into-then-not-long.ensures

pub returns-in_err-verdict_in : goal.returns-in_err-verdict_in
returns-in_err-verdict_in g c = search (clearing, rules)

pub returns : goal.returns
returns g c = search (clearing, rules)
