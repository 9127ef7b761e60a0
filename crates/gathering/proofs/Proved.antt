-- Every claim holds.
use Rattle.gathering.specs.Claims.{AllDeclared}
use Rattle.gathering.proofs.Numbering.{declared}

pub all_declared : AllDeclared
all_declared = declared
