use mathlib.Core.Path.{◌∙◌}
use borrow.Author.Rules.{rules}
use Rattle.records.proofs.Seeking.{meeting}
use Rattle.gathering.proofs.Walking.{items_start, items_room, fields_next, walking}
use Rattle.gathering.proofs.items.Goals as goal

pub loop-field-init : goal.loop-field-init
loop-field-init g c = items_start _ _ _ _ _ _ _ _ _ _ (c.TAG-tag.ensures ∙ g.met.P.Pass.tagged) c.requires.within c.requires.room

pub returns : goal.returns
returns g c = search (walking, meeting, rules)

pub item-answer-requires-clause-room : goal.item-answer-requires-clause-room
item-answer-requires-clause-room g c = search (items_room _ _ _ _ _ _ _ _ _ _ _ _ _ c.loop-field.invariant, rules)

pub returns-in_default-answer : goal.returns-in_default-answer
returns-in_default-answer g c = search (walking, meeting, rules)

pub loop-field-preserved : goal.loop-field-preserved
loop-field-preserved g c = fields_next _ _ _ _ _ _ _ _ _ _ _ _ _ c.loop-field.invariant _ c.next_field.ensures c.in-Some.field c.in-Some.is c.item-answer.result c.item-answer.new.stream c.item-answer.ensures c.in-Ok.next c.in-Ok.is c.item-answer.auto.stream
