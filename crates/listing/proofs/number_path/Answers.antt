-- `number_path` meets its contract.
use Rattle.listing.proofs.Spelling.{spelt}
use borrow.Author.Rules.{rules}
use Rattle.listing.proofs.number_path.Goals as goal

pub put_next-requires : goal.put_next-requires
put_next-requires c = search (spelt, rules)

pub returns : goal.returns
returns c = search (spelt, rules)
