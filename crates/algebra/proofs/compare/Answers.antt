use borrow.Author.Rules.{rules}
use Rattle.std.proofs.lemmas.Result.{err_from_is_err_and}
use Rattle.algebra.proofs.Asking.{comparing}
use Rattle.algebra.proofs.compare.Goals as goal

pub returns-in_err-in_order : goal.returns-in_err-in_order
returns-in_err-in_order c = let p = err_from_is_err_and c.from_residual.result c.from_residual.ensures.1 in rw (p.1, p.2) (search (comparing, c.in_err-in_order.was, rules))

pub read-requires-3 : goal.read-requires-3
read-requires-3 c = search (comparing, c.in_ok-in_order.was, rules)

pub read-requires-4 : goal.read-requires-4
read-requires-4 c = search (comparing, c.in_ok-in_order.was, rules)

pub returns : goal.returns
returns c = search (comparing, c.in_ok-in_order.was, rules)
