use borrow.Author.Rules.{rules}
use Rattle.lookup.proofs.Fields.{fields}
use Rattle.lookup.proofs.Turning.{turning}
use Rattle.lookup.proofs.Looks.{looking}
use Rattle.lookup.proofs.look.Goals as goal

pub loop-field-init : goal.loop-field-init
loop-field-init c = search (looking, turning, fields, rules)

pub has_name-requires : goal.has_name-requires
has_name-requires c = search (looking, turning, fields, rules)

pub returns-then-has_name : goal.returns-then-has_name
returns-then-has_name c = search (looking, turning, fields, rules)

pub loop-field-preserved-then-field-tag : goal.loop-field-preserved-then-field-tag
loop-field-preserved-then-field-tag c = search (looking, turning, fields, rules)

pub loop-field-preserved : goal.loop-field-preserved
loop-field-preserved c = search (looking, turning, fields, rules)

pub returns-then-number-past : goal.returns-then-number-past
returns-then-number-past c = search (looking, turning, fields, rules)

pub returns-in-None : goal.returns-in-None
returns-in-None c = search (looking, turning, fields, rules)
