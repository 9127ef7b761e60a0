-- `hand_out_name`: where the name stands, or why it does not.
use borrow.Author.Rules.{rules}
use Rattle.exports.proofs.Naming.{naming}
use Rattle.exports.proofs.names.hand_out_name.Goals as goal

pub returns-in-Ok : goal.returns-in-Ok
returns-in-Ok c = search (naming, rules)

pub returns-in-Err : goal.returns-in-Err
returns-in-Err c = search (naming, rules)
