-- `counted`: gathered, then counted.
use Rattle.constraints.proofs.Questions.{handed_up, counted_refused, counted_done}
use Rattle.constraints.proofs.counted.Goals as goal

pub returns-in_err-number : goal.returns-in_err-number
returns-in_err-number c = counted_refused _ _ _ _ _ _ c.gathered.ensures _ c.in_err-number.was _ (handed_up _ _ c.from_residual.ensures.1)

pub returns : goal.returns
returns c = counted_done _ _ _ _ _ _ c.gathered.ensures _ _ c.in_ok-number.was _ c.count_to.ensures
