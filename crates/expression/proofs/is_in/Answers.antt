-- `is_in` meets its contract: the nodes are the chunks of three.
use Rattle.std.proofs.Common.{rules}
use borrow.Author.Tests.{tests}
use Rattle.std.proofs.lemmas.Iterator.Search.{any_from_yields_List}
use Rattle.expression.proofs.Occurrence.{names, chunks_are, scan_is}
use Rattle.expression.proofs.is_in.Goals as goal

pub returns : goal.returns
returns c =
    scan_is c.args.index c.args.nodes.now c.any.result
    (any_from_yields_List (names c.args.index) _ _ _ c.any.ensures.ran (chunks_are c.chunks_exact.result c.args.nodes.now c.chunks_exact.ensures.rest c.chunks_exact.ensures.size)
    (λ x b q k. search (rules, tests)))
