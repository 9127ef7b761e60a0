use borrow.Author.Rules.{rules}
use Rattle.complex_entity.proofs.Rows.{row_written}
use Rattle.complex_entity.proofs.PartialComplexEntity.put.Goals as goal

pub returns : goal.returns
returns c = search (row_written, rules)
