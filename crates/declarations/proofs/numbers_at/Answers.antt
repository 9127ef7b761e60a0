use borrow.Author.Rules.{rules}
use Rattle.lookup.proofs.Fields.{fields}
use Rattle.lookup.proofs.Turning.{turning}
use Rattle.declarations.proofs.Walks.{counting}
use Rattle.declarations.proofs.numbers_at.Goals as goal

pub loop-field-preserved-in-32 : goal.loop-field-preserved-in-32
loop-field-preserved-in-32 c = search (counting, turning, fields, rules)

pub loop-field-preserved-in-48 : goal.loop-field-preserved-in-48
loop-field-preserved-in-48 c = search (counting, turning, fields, rules)

pub loop-field-preserved : goal.loop-field-preserved
loop-field-preserved c = search (counting, turning, fields, rules)

pub returns : goal.returns
returns c = search (counting, turning, fields, rules)
