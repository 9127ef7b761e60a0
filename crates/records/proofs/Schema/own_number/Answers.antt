-- `own_number`: the number of the first declaration with the entity's own path.
use Rattle.records.proofs.Known.{known}
use Rattle.records.proofs.Schema.own_number.Goals as goal

pub first_in-requires : goal.first_in-requires
first_in-requires c = (c.requires.short, known _ _ _ _ c.args.self.now.is_last)
