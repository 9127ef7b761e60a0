use borrow.Author.Rules.{rules}
use Rattle.records.proofs.Seeking.{seeking}
use Rattle.records.proofs.next_field.Goals as goal

pub returns-then-field-high : goal.returns-then-field-high
returns-then-field-high c = search (seeking, rules)

pub loop-field-smaller : goal.loop-field-smaller
loop-field-smaller c = search (seeking, rules)

pub loop-field-preserved : goal.loop-field-preserved
loop-field-preserved c = search (seeking, rules)

pub returns : goal.returns
returns c = search (seeking, rules)
