-- `occurs` meets its contract.
use Rattle.std.proofs.Common.{rules}
use borrow.Author.Tests.{tests}
use Rattle.std.proofs.lemmas.Iterator.Search.{any_from_yields_List}
use Rattle.merging.proofs.Walking.{walk_yields}
use Rattle.merging.proofs.Asking.{names_in, occurring_is}
use Rattle.merging.proofs.occurs.Goals as goal

pub returns : goal.returns
returns c =
    occurring_is c.args.stream.now c.args.owner c.args.index c.any.result
    (any_from_yields_List (names_in c.args.owner c.args.index) _ _ _ c.any.ensures.ran (walk_yields c.of.result c.args.stream.now c.of.ensures) (λ x b q k. search (rules, tests)))
