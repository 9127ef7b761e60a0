-- `type_line_of` meets its contract.
use Rattle.listing.proofs.Spelling.{spelt}
use Rattle.listing.proofs.Typing.{puts_type}
use borrow.Author.Rules.{rules}
use Rattle.listing.proofs.type_line_of.Goals as goal

pub type_line-requires : goal.type_line-requires
type_line-requires c = search (spelt, puts_type, rules)

pub returns : goal.returns
returns c = search (spelt, puts_type, rules)
