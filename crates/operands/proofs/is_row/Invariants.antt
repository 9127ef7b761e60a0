-- The invariant: what is left of the row from i decides.
use Rattle.operands.specs.MeaningOperands.{is_row}
use Rattle.operands.proofs.Shapes.{Shaping}
use Rattle.operands.proofs.is_row.Given as goal

abbrev pub invariant-loop-i : goal.invariant-loop-i
invariant-loop-i l = Shaping l.row l.count l.low l.i (is_row l.row)
