-- `number_of`: what `meant_in` found, or 6 at the name's first byte.
use Rattle.records.proofs.Known.{known}
use Rattle.records.proofs.Schema.number_of.Goals as goal

pub meant_in-requires : goal.meant_in-requires
meant_in-requires c = (c.requires.short, known _ _ _ _ c.args.self.now.is_last)
