-- `type_line` meets its contract.
use Rattle.text.specs.MeaningText.{word_type, type_line}
use Rattle.text.proofs.Lines.{start_length, item_line}
use Rattle.std.proofs.Common.{arith}
use Rattle.text.proofs.Putting.{putting}
use borrow.Author.Rules.{rules}
use Rattle.text.proofs.type_line.Goals as goal

pub put_flags-end-requires : goal.put_flags-end-requires
put_flags-end-requires c = omega (arith, start_length word_type c.args.schema.now c.args.item.now)

pub line_end-requires : goal.line_end-requires
line_end-requires c = omega (arith, start_length word_type c.args.schema.now c.args.item.now)

pub returns : goal.returns
unfolding type_line
returns c = rw item_line (search (putting, rules))
