use borrow.Author.Rules.{rules}
use Rattle.listing.proofs.Listing.{listing}
use Rattle.listing.proofs.part_line.Goals as goal

pub loop-i-init : goal.loop-i-init
loop-i-init c = search (listing, rules)

pub loop-i-preserved : goal.loop-i-preserved
loop-i-preserved c = search (listing, rules)

pub returns : goal.returns
returns c = search (listing, rules)
