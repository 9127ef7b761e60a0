-- `read_path_and_row`: the path, then the row.
use Rattle.constraints.proofs.Questions.{read_path_refused, read_row_refused, read_both, read_fits}
use Rattle.constraints.proofs.read_path_and_row.Goals as goal

pub returns-in-Err-Err-clause-says : goal.returns-in-Err-Err-clause-says
returns-in-Err-Err-clause-says c = read_path_refused _ _ _ c.read_path.ensures _ c.in-Err-Err.is-0

pub returns-in-Err-Ok-clause-says : goal.returns-in-Err-Ok-clause-says
returns-in-Err-Ok-clause-says c = read_path_refused _ _ _ c.read_path.ensures _ c.in-Err-Ok.is-0

pub returns-in-Ok-Err-clause-says : goal.returns-in-Ok-Err-clause-says
returns-in-Ok-Err-clause-says c = read_row_refused _ _ _ c.read_path.ensures _ c.in-Ok-Err.is-0 _ c.read_row.ensures _ c.in-Ok-Err.is-1

pub returns-in-Ok-Ok-clause-says : goal.returns-in-Ok-Ok-clause-says
returns-in-Ok-Ok-clause-says c = read_both _ _ _ c.read_path.ensures _ c.in-Ok-Ok.is-0 _ c.read_row.ensures _ c.in-Ok-Ok.is-1

pub returns-in-Ok-Ok-clause-within : goal.returns-in-Ok-Ok-clause-within
returns-in-Ok-Ok-clause-within c = read_fits _ c.args.row.now _ c.read_path.ensures _ c.in-Ok-Ok.is-0
