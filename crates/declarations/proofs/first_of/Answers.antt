use borrow.Author.Rules.{rules}
use Rattle.lookup.proofs.Fields.{fields}
use Rattle.lookup.proofs.Turning.{turning}
use Rattle.declarations.proofs.Walks.{getting}
use Rattle.declarations.proofs.first_of.Goals as goal

pub loop-tag-init : goal.loop-tag-init
loop-tag-init c = search (getting, turning, fields, rules)

pub numbers_at-numbers-requires : goal.numbers_at-numbers-requires
numbers_at-numbers-requires c = search (getting, turning, fields, rules)

pub has_name-requires : goal.has_name-requires
has_name-requires c = search (getting, turning, fields, rules)

pub in_kind-requires : goal.in_kind-requires
in_kind-requires c = search (getting, turning, fields, rules)

pub returns-in-Ok : goal.returns-in-Ok
returns-in-Ok c = search (getting, turning, fields, rules)

pub loop-tag-preserved-in_default : goal.loop-tag-preserved-in_default
loop-tag-preserved-in_default c = search (getting, turning, fields, rules)

pub loop-tag-preserved-else-has_name : goal.loop-tag-preserved-else-has_name
loop-tag-preserved-else-has_name c = search (getting, turning, fields, rules)

pub loop-tag-preserved : goal.loop-tag-preserved
loop-tag-preserved c = search (getting, turning, fields, rules)

pub returns : goal.returns
returns c = search (getting, turning, fields, rules)
