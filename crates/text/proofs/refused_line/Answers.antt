-- `refused_line` meets its contract.
use Rattle.text.proofs.Lines.{refused_line_law}
use Rattle.text.proofs.Digits.{decimal_wide}
use Rattle.std.proofs.Common.{arith}
use Rattle.text.proofs.Putting.{putting}
use borrow.Author.Rules.{rules}
use Rattle.text.proofs.refused_line.Goals as goal

pub put_decimal-end-requires : goal.put_decimal-end-requires
put_decimal-end-requires c = omega (arith, decimal_wide c.args.place (omega arith))

pub line_end-requires : goal.line_end-requires
line_end-requires c = omega (arith, decimal_wide c.args.place (omega arith))

pub returns : goal.returns
returns c = rw refused_line_law (search (putting, rules))
