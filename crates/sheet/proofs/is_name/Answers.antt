-- `is_name` tells names.
use Rattle.std.proofs.Common.{rules, ◌≡◌}
use borrow.Author.Tests.{tests}
use Rattle.std.proofs.lemmas.Iterator.{YieldsList-from_slice}
use Rattle.std.proofs.lemmas.Iterator.Search.{all_from_yields_List}
use Rattle.std.specs.List.{list_all}
use Rattle.sheet.specs.MeaningName.{is_name_byte}
use Rattle.sheet.proofs.Spelling.{spelt}
use Rattle.sheet.proofs.is_name.Goals as goal
use Rattle.sheet.proofs.is_name.Goals.{then-v-from, else-v-from}

pub returns-then-starts_with_letter : goal.returns-then-starts_with_letter
returns-then-starts_with_letter c =
    let a : c.all.result ≡ list_all is_name_byte c.args.v.now = all_from_yields_List is_name_byte _ _ c.all.result c.all.ensures.ran (YieldsList-from_slice c.args.v.now (cc)) (λ x b q k. search (rules, tests)) in
    elim c.if-v-from.branch [ then-v-from w ↦ search (spelt, a, rules) | else-v-from w ↦ search rules ]
