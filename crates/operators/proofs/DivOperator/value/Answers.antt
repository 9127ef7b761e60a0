use borrow.Author.Rules.{rules}
use Rattle.operators.proofs.Valuing.{valuing}
use Rattle.operators.proofs.DivOperator.value.Goals as goal

pub returns : goal.returns
returns c = search (valuing, rules)
