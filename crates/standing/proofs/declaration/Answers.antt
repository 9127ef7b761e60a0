use borrow.Author.Rules.{rules}
use Rattle.lookup.proofs.Fields.{fields}
use Rattle.lookup.proofs.Turning.{turning}
use Rattle.standing.proofs.Standing.{going}
use Rattle.standing.proofs.declaration.Goals as goal

pub loop-tag-init : goal.loop-tag-init
loop-tag-init c = search (going, turning, fields, rules)

pub in_fields-requires : goal.in_fields-requires
in_fields-requires c = search (going, turning, fields, rules)

pub returns-in-Ok : goal.returns-in-Ok
returns-in-Ok c = search (going, turning, fields, rules)

pub loop-tag-preserved-in-Err : goal.loop-tag-preserved-in-Err
loop-tag-preserved-in-Err c = search (going, turning, fields, rules)

pub loop-tag-preserved : goal.loop-tag-preserved
loop-tag-preserved c = search (going, turning, fields, rules)

pub returns : goal.returns
returns c = search (going, turning, fields, rules)
