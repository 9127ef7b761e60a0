-- Lines are left at the start, and whether there is one is told of the whole listing.
use Rattle.std.proofs.lemmas.Result.{IfOk-weaker}
use Rattle.sheet.specs.Told.{told_reading}
use Rattle.lister.proofs.Turning.{starts_at}
use Rattle.replay.proofs.Listed.{told_whole}
use Rattle.replay.proofs.listings.put_listing.Goals as goal

pub put_lines-requires : goal.put_lines-requires
put_lines-requires g c = starts_at _ _ _ _ _ c.start-first.ensures

pub returns : goal.returns
unfolding told_reading
returns g c = IfOk-weaker c.put_lines.result _ _ (λ some told. told_whole _ _ _ _ _ some c.start-first.ensures told) c.put_lines.ensures
