-- `Table::row_of` finds the first row that serves.
use Rattle.std.proofs.Common.{rules, ◌≡◌, get_or, [], true, false}
use borrow.Author.Tests.{tests}
use Rattle.std.proofs.lemmas.Iterator.{first_from_Range}
use Rattle.grammar.specs.MirrorRows.{rows}
use Rattle.grammar.specs.MirrorTable.{serves, row_of}
use Rattle.grammar.proofs.Serving.{seek_row, first_from}
use Rattle.grammar.proofs.Table.row_of.Goals as goal

pub returns : goal.returns
returns c =
    let p = c.args.parent.tag in
    let st = c.args.state in
    let t = c.args.tag in
    first_from (serves p st t) c.args.parent.first (row_of p st t) (seek_row p st t c.args.parent.first c.args.parent.found) c.find.result (first_from_Range _ _ _ c.find.result (λ i. serves p st t (get_or rows i []) ≡ true) (λ i. serves p st t (get_or rows i []) ≡ false) c.find.ensures.ran (λ x q k. search (rules, tests)) (λ x q k. search (rules, tests)))
