-- `supertype_line` meets its contract.
use Rattle.text.specs.MeaningText.{word_supertype, supertype_line}
use Rattle.text.proofs.Lines.{start_length, item_line}
use Rattle.std.proofs.Common.{arith}
use Rattle.text.proofs.Putting.{putting}
use borrow.Author.Rules.{rules}
use Rattle.text.proofs.supertype_line.Goals as goal

pub put_count-end-requires : goal.put_count-end-requires
put_count-end-requires c = (c.requires.0, omega (arith, start_length word_supertype c.args.schema.now c.args.item.now))

pub line_end-requires : goal.line_end-requires
line_end-requires c = omega (arith, start_length word_supertype c.args.schema.now c.args.item.now)

pub returns : goal.returns
unfolding supertype_line
returns c = rw item_line (search (putting, rules))
