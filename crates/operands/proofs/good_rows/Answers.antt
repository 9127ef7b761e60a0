use borrow.Author.Rules.{rules}
use borrow.Author.Tests.{tests}
use Prim.Native.Nat.{min}
use mathlib.Core.Path.{◌∙◌}
use lib.ListN.{take}
use Rattle.std.proofs.lemmas.Iterator.{YieldsList-from_take}
use Rattle.std.proofs.lemmas.Iterator.Consumers.{count_from_yields_List}
use Rattle.std.proofs.lemmas.Iterator.Search.{YieldsList-from_take_while}
use Rattle.std.proofs.lemmas.List.Folds.{length-prefix_len}
use Rattle.operands.specs.MeaningOperands.{is_row}
use Rattle.operands.proofs.Counting.{whole_rows, yields_rows, good_rows_are}
use Rattle.operands.proofs.good_rows.Goals as goal

pub returns : goal.returns
returns c =
    good_rows_are c.args.n c.count.result c.args.rows.now
    (count_from_yields_List {v = λ x. x.now} c.take_while.result _ c.count.ensures.ran
    (YieldsList-from_take_while _ is_row (YieldsList-from_take (min c.args.n 128) (yields_rows c.args.rows.now _ (cc) (cc)) (search rules)) c.take_while.ensures.closure c.take_while.ensures.done (λ x b q k. search (rules, tests)))
    ∙ length-prefix_len is_row (take (min c.args.n 128) (whole_rows c.args.rows.now)))
