use borrow.Author.Rules.{rules}
use Rattle.lookup.proofs.Fields.{fields}
use Rattle.named_types.proofs.Bodies.{bodying}
use Rattle.named_types.proofs.body_at.Goals as goal

pub returns-in-33 : goal.returns-in-33
returns-in-33 c = search (bodying, fields, rules)

pub returns-in-34 : goal.returns-in-34
returns-in-34 c = search (bodying, fields, rules)

pub returns-in-35 : goal.returns-in-35
returns-in-35 c = search (bodying, fields, rules)

pub returns-in-36 : goal.returns-in-36
returns-in-36 c = search (bodying, fields, rules)

pub loop-tag-smaller : goal.loop-tag-smaller
loop-tag-smaller c = search (bodying, fields, rules)

pub loop-tag-preserved : goal.loop-tag-preserved
loop-tag-preserved c = search (bodying, fields, rules)

pub returns : goal.returns
returns c = search (bodying, fields, rules)
