-- `list_handed`: gathered, valued, handed out.
use Rattle.constraints.proofs.Questions.{handed_up, path_stands, list_refused, list_none, list_given}
use Rattle.constraints.proofs.list_handed.Goals as goal

pub returns-in_err-path : goal.returns-in_err-path
returns-in_err-path c = list_refused _ _ _ _ _ c.read_path.ensures _ _ c.gathered.ensures _ _ c.in_err-path.was _ (handed_up _ _ c.from_residual.ensures.1)

pub list_at-answer-requires-clause-sheet_len_bound : goal.list_at-answer-requires-clause-sheet_len_bound
list_at-answer-requires-clause-sheet_len_bound c = path_stands _ _ _ _ _ c.read_path.ensures _ _ c.gathered.ensures _ _ c.in_ok-path.was

pub returns-in_default : goal.returns-in_default
returns-in_default c = list_none _ _ _ _ _ c.read_path.ensures _ _ c.gathered.ensures _ _ _ c.in_ok-path.was _ _ c.list_at-answer.ensures c.list_at-answer.auto.workspace _ c.in_default.is _ c.in_default.is

pub returns : goal.returns
returns c = list_given _ _ _ _ _ c.read_path.ensures _ _ c.gathered.ensures _ _ _ c.in_ok-path.was _ _ c.list_at-answer.ensures c.list_at-answer.auto.workspace _ c.in-Ok.is _ _ c.hand_out.ensures
