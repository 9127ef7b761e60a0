-- `put_both` meets its contract.
use borrow.Author.Rules.{rules}
use Rattle.std.proofs.Common.{arith}
use Rattle.text.specs.MeaningText.{flags}
use Rattle.text.proofs.Putting.{putting}
use Rattle.text.proofs.Lines.{flag_length}
use Rattle.text.proofs.put_both.Goals as goal

pub put_byte-second-requires : goal.put_byte-second-requires
put_byte-second-requires c = omega (arith, flag_length c.args.both.simple)

pub put_flag-requires : goal.put_flag-requires
put_flag-requires c = omega (arith, flag_length c.args.both.simple)

pub returns : goal.returns
unfolding flags
returns c = search (putting, rules)
