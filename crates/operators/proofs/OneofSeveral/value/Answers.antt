use borrow.Author.Rules.{rules}
use Rattle.operators.proofs.Valuing.{valuing_all}
use Rattle.operators.proofs.OneofSeveral.value.Goals as goal

pub returns : goal.returns
returns c = search (valuing_all, rules)
