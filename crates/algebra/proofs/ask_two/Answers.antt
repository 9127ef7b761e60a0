use borrow.Author.Rules.{rules}
use Rattle.std.proofs.lemmas.Result.{err_from_is_err_and}
use Rattle.algebra.proofs.Asking.{asking_two}
use Rattle.algebra.proofs.ask_two.Goals as goal

pub returns-in_err-in_order : goal.returns-in_err-in_order
returns-in_err-in_order g c = let p = err_from_is_err_and c.from_residual.result c.from_residual.ensures.1 in rw (p.1, p.2) (search (asking_two, c.in_err-in_order.was, rules))

pub value-answer-requires : goal.value-answer-requires
value-answer-requires g c = search (asking_two, c.in_ok-in_order.was, rules)

pub returns : goal.returns
returns g c = search (asking_two, c.in_ok-in_order.was, rules)
