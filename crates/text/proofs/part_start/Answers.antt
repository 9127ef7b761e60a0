-- `part_start` meets its contract.
use Rattle.text.proofs.Digits.{decimal_length}
use Rattle.std.proofs.Common.{arith}
use Rattle.text.proofs.part_start.Goals as goal

pub put_decimal-end-requires : goal.put_decimal-end-requires
put_decimal-end-requires c = omega (arith, decimal_length c.args.number c.requires.0)

pub put_byte-requires : goal.put_byte-requires
put_byte-requires c = omega (arith, decimal_length c.args.number c.requires.0)
