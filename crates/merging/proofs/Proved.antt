-- Every claim holds.
use Rattle.merging.specs.Claims.{Projected, OwnersInOrder}
use Rattle.merging.proofs.Finding.{find_gathered}
use Rattle.merging.proofs.Ordering.{owners_gathered}

pub projected : Projected
projected N same E = find_gathered E

pub owners_in_order : OwnersInOrder
owners_in_order N same E = owners_gathered E
