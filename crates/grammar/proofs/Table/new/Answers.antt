-- `Table::new` is the table that the grammar's lines make.
use Rattle.std.proofs.Common.{refl}
use Rattle.grammar.specs.MirrorRows.{rows}
use Rattle.grammar.proofs.Table.new.Goals as goal

pub invariant_of-result : goal.invariant_of-result
unfolding rows
invariant_of-result c = record { made = refl }
