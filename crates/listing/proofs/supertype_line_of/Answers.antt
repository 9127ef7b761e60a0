-- `supertype_line_of` meets its contract.
use Rattle.listing.proofs.Spelling.{spelt}
use borrow.Author.Rules.{rules}
use Rattle.listing.proofs.supertype_line_of.Goals as goal

pub supertype_line-requires : goal.supertype_line-requires
supertype_line-requires c = search (spelt, rules)

pub returns : goal.returns
returns c = search (spelt, rules)
