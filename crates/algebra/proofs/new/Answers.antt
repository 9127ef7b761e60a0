use borrow.Author.Rules.{rules}
use Rattle.std.proofs.lemmas.Result.{err_from_is_err_and}
use Rattle.algebra.proofs.Asking.{asking_part}
use Rattle.algebra.proofs.new.Goals as goal

pub returns-in_err-new : goal.returns-in_err-new
returns-in_err-new c = let p = err_from_is_err_and c.from_residual.result c.from_residual.ensures.1 in rw (p.1, p.2) (search (asking_part, c.in_err-new.was, rules))

pub returns : goal.returns
returns c = search (asking_part, c.in_ok-new.was, rules)
