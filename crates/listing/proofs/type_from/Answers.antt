use borrow.Author.Rules.{rules}
use Rattle.listing.proofs.Typing.{seeking, seek_small}
use Rattle.listing.proofs.type_from.Goals as goal

pub returns-then-tag-eq32 : goal.returns-then-tag-eq32
returns-then-tag-eq32 c = search (seeking, seek_small, rules)

pub overflow_add-n : goal.overflow_add-n
overflow_add-n c = search (seeking, seek_small, rules)

pub loop-tag-smaller : goal.loop-tag-smaller
loop-tag-smaller c = search (seeking, seek_small, rules)

pub loop-tag-preserved : goal.loop-tag-preserved
loop-tag-preserved c = search (seeking, seek_small, rules)

pub returns : goal.returns
returns c = search (seeking, seek_small, rules)
