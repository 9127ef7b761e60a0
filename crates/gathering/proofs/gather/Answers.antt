-- `gather`: the three passes in their order.
use mathlib.Core.Path.{◌≡◌}
use native.Mathlib.Omega.{arith}
use Rattle.std.proofs.lemmas.Grind.{common_steps}
use Rattle.std.specs.Prelude.{Ok, Err}
use borrow.Author.Rules.{rules}
use Rattle.gathering.proofs.Gathering.{gathering}
use Rattle.gathering.proofs.gather.Goals as goal

pub walk-requires-clause-room : goal.walk-requires-clause-room
walk-requires-clause-room c = search (gathering, rules)

pub walk-requires-2-clause-room : goal.walk-requires-2-clause-room
walk-requires-2-clause-room c =
    let ruled : c.walk.result ≡ Ok c.in_ok-ruled.ruled = grind (arith, common_steps) in
    search (gathering, rules)

pub walk-requires-3-clause-room : goal.walk-requires-3-clause-room
walk-requires-3-clause-room c =
    let ruled : c.walk.result ≡ Ok c.in_ok-ruled.ruled = grind (arith, common_steps) in
    let constrained : c.walk-2.result ≡ Ok c.in_ok-rules.rules = grind (arith, common_steps) in
    search (gathering, rules)

pub returns-in_err-ruled : goal.returns-in_err-ruled
returns-in_err-ruled c =
    let lost : c.walk.result ≡ Err c.in_err-ruled.field-0.0 = grind (arith, common_steps) in
    let handed : c.from_residual.result ≡ Err c.in_err-ruled.field-0.0 = grind (arith, common_steps) in
    search (gathering, rules)

pub returns-in_err-rules : goal.returns-in_err-rules
returns-in_err-rules c =
    let ruled : c.walk.result ≡ Ok c.in_ok-ruled.ruled = grind (arith, common_steps) in
    let lost : c.walk-2.result ≡ Err c.in_err-rules.field-0.0 = grind (arith, common_steps) in
    let handed : c.from_residual-in_err-rules.result ≡ Err c.in_err-rules.field-0.0 = grind (arith, common_steps) in
    search (gathering, rules)

pub returns-in_err-used : goal.returns-in_err-used
returns-in_err-used c =
    let ruled : c.walk.result ≡ Ok c.in_ok-ruled.ruled = grind (arith, common_steps) in
    let constrained : c.walk-2.result ≡ Ok c.in_ok-rules.rules = grind (arith, common_steps) in
    let lost : c.walk-3.result ≡ Err c.in_err-used.field-0.0 = grind (arith, common_steps) in
    let handed : c.from_residual-in_err-used.result ≡ Err c.in_err-used.field-0.0 = grind (arith, common_steps) in
    search (gathering, rules)

pub returns : goal.returns
returns c =
    let ruled : c.walk.result ≡ Ok c.in_ok-ruled.ruled = grind (arith, common_steps) in
    let constrained : c.walk-2.result ≡ Ok c.in_ok-rules.rules = grind (arith, common_steps) in
    let subtypes : c.walk-3.result ≡ Ok c.in_ok-used.used = grind (arith, common_steps) in
    search (gathering, rules)
