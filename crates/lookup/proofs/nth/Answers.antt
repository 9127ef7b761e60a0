use borrow.Author.Rules.{rules}
use Rattle.lookup.proofs.Fields.{fields}
use Rattle.lookup.proofs.Turning.{turning}
use Rattle.lookup.proofs.Looks.{picking}
use Rattle.lookup.proofs.nth.Goals as goal

pub loop-field-init : goal.loop-field-init
loop-field-init c = search (picking, turning, fields, rules)

pub returns-then-left-eq0 : goal.returns-then-left-eq0
returns-then-left-eq0 c = search (picking, turning, fields, rules)

pub loop-field-preserved-then-field-tag : goal.loop-field-preserved-then-field-tag
loop-field-preserved-then-field-tag c = search (picking, turning, fields, rules)

pub loop-field-preserved : goal.loop-field-preserved
loop-field-preserved c = search (picking, turning, fields, rules)

pub returns : goal.returns
returns c = search (picking, turning, fields, rules)
