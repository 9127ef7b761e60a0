-- `put_refused` meets its contract.
use Rattle.text.proofs.Digits.{decimal_length}
use Rattle.std.proofs.Common.{arith}
use Rattle.text.specs.MirrorText.{refused_text}
use Rattle.text.proofs.Lines.{puts_refused}
use borrow.Author.Rules.{rules}
use Rattle.text.proofs.put_refused.Goals as goal

pub put_decimal-requires : goal.put_decimal-requires
put_decimal-requires c = omega (arith, decimal_length c.from.result (omega arith))

pub returns : goal.returns
unfolding refused_text
returns c = (search (puts_refused, rules), omega (arith, decimal_length c.from.result (omega arith)))
