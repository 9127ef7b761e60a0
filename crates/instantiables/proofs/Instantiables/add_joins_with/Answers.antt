use borrow.Author.Rules.{rules}
use Rattle.std.proofs.lemmas.Result.{err_from_is_err_and}
use Rattle.instantiables.proofs.Feeds.{joining}
use Rattle.instantiables.proofs.Instantiables.add_joins_with.Goals as goal

pub loop-i-init : goal.loop-i-init
loop-i-init c = search (joining, rules)

pub returns-in_err-part : goal.returns-in_err-part
returns-in_err-part c = let p = err_from_is_err_and c.from_residual.result c.from_residual.ensures.1 in rw (p.1, p.2) (search (joining, c.in_err-part.was, rules))

pub returns-in_default : goal.returns-in_default
returns-in_default c = search (joining, c.in_ok-part.was, rules)

pub loop-i-preserved : goal.loop-i-preserved
loop-i-preserved c = search (joining, c.in_ok-part.was, rules)

pub returns : goal.returns
returns c = search (joining, rules)
