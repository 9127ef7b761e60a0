-- `Table::first_row` finds the first row of a parent.
use Rattle.std.proofs.Common.{rules, ◌≡◌, get_or, [], true, false}
use borrow.Author.Tests.{tests}
use Rattle.std.proofs.lemmas.Iterator.{first_from_Range}
use Rattle.grammar.specs.MirrorRows.{rows}
use Rattle.grammar.specs.MirrorTable.{belongs, first_row}
use Rattle.grammar.proofs.Serving.{seek_first, first_from}
use Rattle.grammar.proofs.Table.first_row.Goals as goal

pub returns : goal.returns
returns c =
    let p = c.args.parent in
    first_from (belongs p) 0 (first_row p) (seek_first p) c.find.result (first_from_Range _ _ _ c.find.result (λ i. belongs p (get_or rows i []) ≡ true) (λ i. belongs p (get_or rows i []) ≡ false) c.find.ensures.ran (λ x q k. search (rules, tests)) (λ x q k. search (rules, tests)))
