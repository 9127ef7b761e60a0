use mathlib.Core.Path.{◌≡◌}
use native.Mathlib.Omega.{arith}
use Rattle.std.proofs.lemmas.Grind.{common_steps}
use Rattle.std.specs.Prelude.{Ok, Err}
use borrow.Author.Rules.{rules}
use Rattle.records.proofs.Seeking.{meeting}
use Rattle.records.proofs.Nodes.{noding, terming}
use Rattle.records.proofs.Schema.+read_node_read_terms.Goals as goal

pub read_node-returns-in_err-number : goal.read_node-returns-in_err-number
read_node-returns-in_err-number t c =
    let lost : c.number_of.result ≡ Err c.in_err-number.field-0.0 = grind (arith, common_steps) in
    let handed : c.from_residual.result ≡ Err c.in_err-number.field-0.0 = grind (arith, common_steps) in
    search (noding, rules)

pub read_node-put_node-requires : goal.read_node-put_node-requires
read_node-put_node-requires t c = search (noding, rules)

pub read_node-returns : goal.read_node-returns
read_node-returns t c = search (noding, rules)

pub read_node-put_node-body-requires : goal.read_node-put_node-body-requires
read_node-put_node-body-requires t c = search (noding, rules)

pub read_node-overflow_sub-depth : goal.read_node-overflow_sub-depth
read_node-overflow_sub-depth t c = search (noding, rules)

pub read_node-read_terms-answer-requires : goal.read_node-read_terms-answer-requires
read_node-read_terms-answer-requires t c = search (noding, rules)

pub read_node-returns-in_default : goal.read_node-returns-in_default
read_node-returns-in_default t c = search (noding, rules)

pub read_node-overflow_sub-stream : goal.read_node-overflow_sub-stream
read_node-overflow_sub-stream t c = search (noding, rules)

pub read_node-overflow_cast-stream : goal.read_node-overflow_cast-stream
read_node-overflow_cast-stream t c = search (noding, rules)

pub read_terms-returns : goal.read_terms-returns
read_terms-returns t c = search (terming, meeting, rules)

pub read_terms-read_node-answer-requires : goal.read_terms-read_node-answer-requires
read_terms-read_node-answer-requires t c = search (terming, meeting, rules)

pub read_terms-returns-in_default-answer : goal.read_terms-returns-in_default-answer
read_terms-returns-in_default-answer t c = search (terming, meeting, rules)

pub read_terms-loop-term-preserved : goal.read_terms-loop-term-preserved
read_terms-loop-term-preserved t c = search (terming, meeting, rules)

pub read_terms-overflow_sub-depth : goal.read_terms-overflow_sub-depth
read_terms-overflow_sub-depth t c = search (terming, meeting, rules)

pub read_node-returns-then-field-eq80 : goal.read_node-returns-then-field-eq80
read_node-returns-then-field-eq80 t c =
    let found : c.number_of.result ≡ Ok c.in_ok-number.number = grind (arith, common_steps) in
    search (noding, rules)
