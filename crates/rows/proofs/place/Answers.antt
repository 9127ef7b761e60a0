use borrow.Author.Rules.{rules}
use Rattle.rows.proofs.Halving.{placing}
use Rattle.rows.proofs.place.Goals as goal

pub loop-low-init : goal.loop-low-init
loop-low-init c = search (placing, rules)

pub loop-low-preserved-in-Less : goal.loop-low-preserved-in-Less
loop-low-preserved-in-Less c = search (placing, rules)

pub returns-in-Equal : goal.returns-in-Equal
returns-in-Equal c = search (placing, rules)

pub loop-low-preserved : goal.loop-low-preserved
loop-low-preserved c = search (placing, rules)

pub returns : goal.returns
returns c = search (placing, rules)
