-- `print_listing`: lines are left at the start.
use Rattle.lister.proofs.Turning.{starts_at}
use Rattle.dinkolafe.proofs.print_listing.Goals as goal

pub print_lines-requires-clause-at_cursor : goal.print_lines-requires-clause-at_cursor
print_lines-requires-clause-at_cursor g c = starts_at _ _ _ _ _ c.start-first.ensures
