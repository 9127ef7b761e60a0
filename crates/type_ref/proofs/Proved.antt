-- The claim holds.
use Rattle.type_ref.specs.Claims.{TypeOnce}
use Rattle.type_ref.proofs.Telling.{one_outcome}

pub type_once : TypeOnce
type_once = one_outcome
