-- `count_all`: past the last declaration there are so many fewer.
use borrow.Author.Rules.{rules}
use Rattle.named_types.proofs.Few.{counting}
use Rattle.named_types.proofs.count_all.Goals as goal

pub returns-in-Ok : goal.returns-in-Ok
returns-in-Ok c = search (counting, rules)

pub returns-in-Err : goal.returns-in-Err
returns-in-Err c = search (counting, rules)
