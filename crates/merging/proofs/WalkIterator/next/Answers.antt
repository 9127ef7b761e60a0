-- `next` meets its contract.
use Rattle.std.proofs.Common.{rules, arith, ◌≡◌, sym, ap, ◌∙◌, length, get_or}
use borrow.Author.Tests.{tests}
use Rattle.merging.proofs.Walking.{no_owner, no_span, no_nodes, walks_on}
use Rattle.merging.proofs.WalkIterator.next.Goals as goal

pub returns-in_err-owner-clause-steps : goal.returns-in_err-owner-clause-steps
returns-in_err-owner-clause-steps c = search (no_owner, rules)

pub returns-in_err-span-clause-steps : goal.returns-in_err-span-clause-steps
returns-in_err-span-clause-steps c = search (no_span, rules, tests)

pub returns-in_err-nodes-clause-steps : goal.returns-in_err-nodes-clause-steps
returns-in_err-nodes-clause-steps c = search (no_nodes, rules, tests)

pub returns-clause-steps : goal.returns-clause-steps
returns-clause-steps c =
    let n = c.in_ok-nodes.ensures.cases in
    let l = c.in_ok-owner.behind.now in
    let look = c.in_ok-span.ensures.lookup.3 in
    let e : get_or l 2 0 ≡ c.from.result = sym (look.1 0) ∙ search rules in
    walks_on c.args.self.now c.in_ok-owner.owner.now c.from.result l c.in_ok-nodes.nodes.now c.in_ok-nodes.rest.now c.in_ok-owner.ensures.cases.0 look.0 e n.0 n.1 n.2

pub returns-clause-goes : goal.returns-clause-goes
returns-clause-goes c =
    let e = (returns-clause-steps c).1 in
    record {
      on = λ f. (tt, tt, omega (arith, ap length e));
      keeps = tt;
      rests = λ f. tt;
    }
