-- `rule_of`: the first expression of the first mark, if it gives a rule.
use borrow.Author.Rules.{rules}
use Rattle.records.proofs.Seeking.{meeting}
use Rattle.records.proofs.Spelling.{ruling}
use Rattle.records.proofs.rule_of.Goals as goal

pub returns-in_err-mark : goal.returns-in_err-mark
returns-in_err-mark c = search (ruling, meeting, rules)

pub returns-then-gives_rule : goal.returns-then-gives_rule
returns-then-gives_rule c = search (ruling, meeting, rules)

pub returns : goal.returns
returns c = search (ruling, meeting, rules)
