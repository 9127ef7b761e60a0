-- `next_line`: what the cursor says.
use Rattle.lister.proofs.Turning.{turning}
use borrow.Author.Rules.{rules}
use Rattle.lister.proofs.next_line.Goals as goal

pub next_type-requires-clause-ready : goal.next_type-requires-clause-ready
next_type-requires-clause-ready c = search (turning, rules)

pub returns-in-Refusal-clause-gives : goal.returns-in-Refusal-clause-gives
returns-in-Refusal-clause-gives c = search (turning, rules)

pub returns-in-Refusal-clause-falls : goal.returns-in-Refusal-clause-falls
returns-in-Refusal-clause-falls c = search (turning, rules)

pub returns-in-End-clause-gives : goal.returns-in-End-clause-gives
returns-in-End-clause-gives c = search (turning, rules)
