use borrow.Author.Rules.{rules}
use Rattle.operators.proofs.Valuing.{valuing}
use Rattle.operators.proofs.AddOperator.value.Goals as goal

pub add-answer-requires : goal.add-answer-requires
add-answer-requires c = search (valuing, rules)

pub returns-in_default : goal.returns-in_default
returns-in_default c = search (valuing, rules)

pub add-requires : goal.add-requires
add-requires c = search (valuing, rules)

pub returns : goal.returns
returns c = search (valuing, rules)
