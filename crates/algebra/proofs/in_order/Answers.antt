use borrow.Author.Rules.{rules}
use Rattle.algebra.proofs.Asking.{order_is}
use Rattle.algebra.proofs.in_order.Goals as goal

pub returns : goal.returns
returns c = order_is _ (λ k w q. search rules) _ _ _ _ c.and.ensures c.map_err.ensures.cases
