-- `in_schema`: the name's bytes are those of its part of the sheet.
use borrow.Author.Rules.{rules}
use Rattle.lookup.proofs.Names.{spanned}
use Rattle.gathering.proofs.Beginning.{beginning}
use Rattle.gathering.proofs.in_schema.Goals as goal

pub items-requires-clause-room : goal.items-requires-clause-room
items-requires-clause-room g c = rw c.new-schema.ensures.1 (search (beginning, spanned, rules))
