-- `put_path` meets its contract.
use Rattle.text.specs.MeaningText.{path_text}
use Rattle.text.proofs.Putting.{putting}
use borrow.Author.Rules.{rules}
use Rattle.text.proofs.put_path.Goals as goal

pub returns : goal.returns
unfolding path_text
returns c = search (putting, rules)
