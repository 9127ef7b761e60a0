-- `order_in` compares scopes that lie in their queries.
use borrow.Author.Rules.{rules}
use Rattle.query.proofs.Ordering.{ordering}
use Rattle.query.proofs.order_in.Goals as goal

pub compare-requires : goal.compare-requires
compare-requires c = search (ordering, rules)
