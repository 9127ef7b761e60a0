-- `start`: gathered, then the names noted.
use Rattle.supertypes.proofs.Asking.{gathered_short}
use Rattle.lister.proofs.Starting.{start_refused, start_done}
use native.Mathlib.Omega.{arith}
use Rattle.sheet.specs.Claims.{AllBytes}
use borrow.Author.Rules.{rules}
use Rattle.lister.proofs.start.Goals as goal

pub returns-in-Err : goal.returns-in-Err
returns-in-Err c = search (gathered_short, start_refused, rules)

pub returns-in-Ok : goal.returns-in-Ok
returns-in-Ok c =
    let bytes : AllBytes c.args.sheet.now = λ i. omega (arith, c.type_inv.sheet i) in
    search (start_done, bytes, rules)
