use borrow.Author.Rules.{rules}
use Rattle.complex_entity.proofs.Containment.{has_found}
use Rattle.complex_entity.proofs.PartialComplexEntity.has.Goals as goal

pub returns : goal.returns
returns c = search (has_found, rules)
