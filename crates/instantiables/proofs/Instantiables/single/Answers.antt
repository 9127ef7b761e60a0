use borrow.Author.Rules.{rules}
use Rattle.instantiables.proofs.Listings.{put_one}
use Rattle.instantiables.proofs.Instantiables.single.Goals as goal

pub returns : goal.returns
returns c = search (put_one, rules)
