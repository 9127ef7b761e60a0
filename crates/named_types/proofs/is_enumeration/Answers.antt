-- `is_enumeration`: a law for each way out.
use borrow.Author.Rules.{rules}
use Rattle.named_types.proofs.Stepping.{enumerating}
use Rattle.named_types.proofs.is_enumeration.Goals as goal

pub returns-in_default : goal.returns-in_default
returns-in_default c = search (enumerating, rules)

pub returns-in-Enumeration : goal.returns-in-Enumeration
returns-in-Enumeration c = search (enumerating, rules)

pub returns-in_default-matches : goal.returns-in_default-matches
returns-in_default-matches c = search (enumerating, rules)

pub returns-else-tag-eq32 : goal.returns-else-tag-eq32
returns-else-tag-eq32 c = search (enumerating, rules)
