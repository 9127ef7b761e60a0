-- `decided`: gathered, then decided.
use Rattle.constraints.proofs.Questions.{handed_up, path_stands, decided_refused, decided_done}
use Rattle.constraints.proofs.decided.Goals as goal

pub returns-in_err-path : goal.returns-in_err-path
returns-in_err-path c = decided_refused _ _ _ _ _ c.read_path.ensures _ _ c.gathered.ensures _ c.in_err-path.was _ (handed_up _ _ c.from_residual.ensures.1)

pub owns-requires-clause-sheet_len_bound : goal.owns-requires-clause-sheet_len_bound
owns-requires-clause-sheet_len_bound c = path_stands _ _ _ _ _ c.read_path.ensures _ _ c.gathered.ensures _ _ c.in_ok-path.was

pub returns : goal.returns
returns c = decided_done _ _ _ _ _ c.read_path.ensures _ _ c.gathered.ensures _ _ c.in_ok-path.was _ c.owns.ensures
