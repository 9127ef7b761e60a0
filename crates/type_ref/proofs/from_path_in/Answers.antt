-- `from_path_in`: by what `is_supertype` answers.
use borrow.Author.Rules.{rules}
use Rattle.type_ref.proofs.Telling.{telling}
use Rattle.type_ref.proofs.from_path_in.Goals as goal

pub typed-requires : goal.typed-requires
typed-requires c = search (telling, rules)

pub returns-in-Ok : goal.returns-in-Ok
returns-in-Ok c = search (telling, rules)

pub returns-in-Err : goal.returns-in-Err
returns-in-Err c = search (telling, rules)
