-- `flags_of` meets its contract.
use Rattle.listing.proofs.Typing.{flags_nowhere, flags_known, flags_refused}
use Rattle.listing.proofs.flags_of.Goals as goal

pub returns-in_err-first : goal.returns-in_err-first
returns-in_err-first c = flags_nowhere _ _ _ _ _ c.first_of.ensures _ c.in_err-first.ensures.value _ c.from_residual.ensures.1

pub returns-in_err-simple : goal.returns-in_err-simple
returns-in_err-simple c = flags_refused _ _ _ _ _ c.first_of.ensures _ _ c.in_ok-first.ensures.value c.from-number.ensures _ c.walk.ensures _ c.in_err-simple.was _ c.from_residual-in_err-simple.ensures.1

pub returns : goal.returns
returns c = flags_known _ _ _ _ _ c.first_of.ensures _ _ c.in_ok-first.ensures.value c.from-number.ensures _ c.walk.ensures _ c.is_enumeration-enumeration.ensures _ c.in_ok-simple.was
