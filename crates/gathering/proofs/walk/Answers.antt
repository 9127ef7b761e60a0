use borrow.Author.Rules.{rules}
use Rattle.records.proofs.Seeking.{meeting}
use Rattle.gathering.proofs.Walking.{all_start, all_room, whole_kept, walking}
use Rattle.gathering.proofs.walk.Goals as goal

pub loop-field-init : goal.loop-field-init
loop-field-init g c = all_start _ _ _ _ _ _ c.requires.sheet_len_bound c.requires.room

pub returns : goal.returns
returns g c = search (walking, meeting, whole_kept, rules)

pub in_schema-answer-requires-clause-room : goal.in_schema-answer-requires-clause-room
in_schema-answer-requires-clause-room g c = search (all_room _ _ _ _ _ _ _ _ _ _ _ c.loop-field.invariant, rules)

pub returns-in_default-answer : goal.returns-in_default-answer
returns-in_default-answer g c = search (walking, meeting, whole_kept, rules)

pub loop-field-preserved : goal.loop-field-preserved
loop-field-preserved g c = search (walking, meeting, whole_kept, rules)
