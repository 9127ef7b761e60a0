-- `row_handed`: gathered, valued, and the set at the number handed out.
use Rattle.constraints.proofs.Questions.{handed_up, path_stands, row_refused, row_none, row_past, row_handed}
use Rattle.constraints.proofs.row_handed.Goals as goal

pub returns-in_err-path : goal.returns-in_err-path
returns-in_err-path c = row_refused _ _ _ _ _ c.read_path.ensures _ _ c.gathered.ensures _ _ _ c.in_err-path.was _ (handed_up _ _ c.from_residual.ensures.1)

pub list_at-answer-requires-clause-sheet_len_bound : goal.list_at-answer-requires-clause-sheet_len_bound
list_at-answer-requires-clause-sheet_len_bound c = path_stands _ _ _ _ _ c.read_path.ensures _ _ c.gathered.ensures _ _ c.in_ok-path.was

pub returns-in_default : goal.returns-in_default
returns-in_default c = row_none _ _ _ _ _ c.read_path.ensures _ _ c.gathered.ensures _ _ _ _ c.in_ok-path.was _ _ c.list_at-answer.ensures c.list_at-answer.auto.workspace _ c.in_default.is _ c.in_default.is

pub returns-in_err-part : goal.returns-in_err-part
returns-in_err-part c = row_past _ _ _ _ _ c.read_path.ensures _ _ c.gathered.ensures _ _ _ _ c.in_ok-path.was _ _ c.list_at-answer.ensures c.list_at-answer.auto.workspace _ c.in-Ok.is _ c.set_at.ensures _ c.in_err-part.was _ (handed_up _ _ c.from_residual-in_err-part.ensures.1)

pub returns : goal.returns
returns c = row_handed _ _ _ _ _ c.read_path.ensures _ _ c.gathered.ensures _ _ _ _ c.in_ok-path.was _ _ c.list_at-answer.ensures c.list_at-answer.auto.workspace _ c.in-Ok.is _ c.set_at.ensures _ c.in_ok-part.was _ _ c.hand_out_part.ensures
