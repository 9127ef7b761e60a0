-- `put_start` meets its contract.
use Rattle.text.proofs.Lines.{path_length}
use Rattle.std.proofs.Common.{arith}
use Rattle.text.specs.MirrorText.{start_text}
use Rattle.text.proofs.Putting.{putting}
use borrow.Author.Rules.{rules}
use Rattle.text.proofs.put_start.Goals as goal

pub put_byte-requires : goal.put_byte-requires
put_byte-requires c = omega (arith, path_length c.args.schema.now c.args.item.now)

pub returns : goal.returns
unfolding start_text
returns c = search (putting, rules)
