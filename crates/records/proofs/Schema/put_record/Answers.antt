-- `put_record`: its nodes stand one number further on, and its owner is put in before them.
use borrow.Author.Rules.{rules}
use Rattle.records.proofs.Records.{recording}
use Rattle.records.proofs.Schema.put_record.Goals as goal

pub read_node-answer-requires-clause-deep : goal.read_node-answer-requires-clause-deep
read_node-answer-requires-clause-deep c = search (recording, rules)

pub returns-in_default : goal.returns-in_default
returns-in_default c = search (recording, rules)

pub bounds-stream-used : goal.bounds-stream-used
bounds-stream-used c = search (recording, rules)

pub returns : goal.returns
returns c = search (recording, rules)
