-- `put_bytes` meets its contract.
use Rattle.text.proofs.Putting.{puts_all}
use Rattle.text.proofs.put_bytes.Goals as goal

pub returns : goal.returns
returns c = puts_all c.args.bytes.now c.copy_from_slice.new.self c.args.at c.args.out.now c.copy_from_slice.ensures.after c.requires
