use borrow.Author.Rules.{rules}
use Rattle.complex_entity.proofs.Rows.{row_read}
use Rattle.complex_entity.proofs.PartialComplexEntity.of.Goals as goal

pub returns : goal.returns
returns c = search (row_read, rules)
