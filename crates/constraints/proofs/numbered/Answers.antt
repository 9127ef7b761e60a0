-- `numbered`: gathered, valued, and the part looked up.
use Rattle.constraints.proofs.Questions.{handed_up, number_rows, number_stands, number_refused, number_none, number_found}
use Rattle.constraints.proofs.numbered.Goals as goal

pub returns-in_err-path : goal.returns-in_err-path
returns-in_err-path c = number_refused _ _ _ _ _ _ c.read_path_and_row-asked.ensures.says c.read_path_and_row-asked.ensures.within _ _ c.gathered.ensures _ c.in_err-path.was _ (handed_up _ _ c.from_residual.ensures.1)

pub list_at-requires-clause-sheet_len_bound : goal.list_at-requires-clause-sheet_len_bound
list_at-requires-clause-sheet_len_bound c = number_stands _ _ _ _ _ _ c.read_path_and_row-asked.ensures.says c.read_path_and_row-asked.ensures.within _ _ c.gathered.ensures _ _ _ c.in_ok-path.was

pub returns-in_err-list : goal.returns-in_err-list
returns-in_err-list c = number_none _ _ _ _ _ _ c.read_path_and_row-asked.ensures.says c.read_path_and_row-asked.ensures.within _ _ c.gathered.ensures _ _ _ c.in_ok-path.was _ _ c.list_at.ensures c.list_at.auto.workspace _ c.in_err-list.was _ (handed_up _ _ c.from_residual-in_err-list.ensures.1)

pub returns : goal.returns
returns c = number_found _ _ _ _ _ _ c.read_path_and_row-asked.ensures.says c.read_path_and_row-asked.ensures.within _ _ c.gathered.ensures _ _ _ c.in_ok-path.was _ _ c.list_at.ensures c.list_at.auto.workspace _ c.in_ok-list.was _ c.number_of.ensures

pub number_of-requires : goal.number_of-requires
number_of-requires c = number_rows _ _ _ _ _ _ c.read_path_and_row-asked.ensures.says c.read_path_and_row-asked.ensures.within _ _ c.gathered.ensures _ _ _ c.in_ok-path.was _ _ c.list_at.ensures c.list_at.auto.workspace _ c.in_ok-list.was
