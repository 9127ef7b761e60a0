-- `read_path` takes the last step for the item, where no fourth one stands.
use Rattle.std.proofs.Common.{◌≡◌, rules, arith, Some}
use Rattle.query.proofs.Routes.{routing}
use Rattle.query.proofs.read_path.Goals as goal

pub returns : goal.returns
returns c =
    let w : c.popped.result ≡ Some c.in_ok-outer.outer = (let v = c.ok_or.ensures.value in let u = c.in_ok-outer.was in grind arith) in
    search (w, routing, rules)
