use borrow.Author.Rules.{rules}
use Rattle.operators.proofs.Valuing.{valuing}
use Rattle.operators.proofs.SubOperator.value.Goals as goal

pub returns : goal.returns
returns c = search (valuing, rules)
