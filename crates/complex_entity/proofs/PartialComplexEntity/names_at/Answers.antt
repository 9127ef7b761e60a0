use borrow.Author.Rules.{rules}
use Rattle.complex_entity.proofs.Lending.{row_names}
use Rattle.complex_entity.proofs.PartialComplexEntity.names_at.Goals as goal

pub returns : goal.returns
returns c = search (row_names, rules)
