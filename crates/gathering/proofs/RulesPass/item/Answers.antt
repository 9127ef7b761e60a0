-- the record of the rule, if its owner has none yet.
use borrow.Author.Rules.{rules}
use Rattle.gathering.proofs.Records.{ruling}
use Rattle.gathering.proofs.RulesPass.item.Goals as goal

pub returns-in_default : goal.returns-in_default
returns-in_default c = search (ruling, rules)

pub put_record-answer-requires-clause-room : goal.put_record-answer-requires-clause-room
put_record-answer-requires-clause-room c = search (ruling, rules)

pub returns-in_default-answer : goal.returns-in_default-answer
returns-in_default-answer c = search (ruling, rules)

pub is_owner-requires : goal.is_owner-requires
is_owner-requires c = search (ruling, rules)

pub returns-then-is_owner : goal.returns-then-is_owner
returns-then-is_owner c = search (ruling, rules)

pub returns : goal.returns
returns c = search (ruling, rules)
