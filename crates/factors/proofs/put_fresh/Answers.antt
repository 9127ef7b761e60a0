-- `put_fresh` meets its contract.
use borrow.Author.Rules.{rules}
use Rattle.factors.proofs.Putting.{add_sub, adding}
use Rattle.factors.proofs.put_fresh.Goals as goal

pub loop-pair-init : goal.loop-pair-init
loop-pair-init c = search (adding, rules)

pub bounds-pair-1 : goal.bounds-pair-1
bounds-pair-1 c =
    let k = add_sub c.args.rules.now c.args.pairs.now c.args.owner c.args.nodes.now c.loop-pair.nodes c.args.used c.loop-pair.stop c.loop-pair.pair-iterator c.next.new.self c.next.result c.loop-pair.invariant c.next.ensures.steps c.in-Some.pair c.in-Some.is in
    search rules

pub put_node-stop-requires : goal.put_node-stop-requires
put_node-stop-requires c = search (adding, rules)

pub loop-pair-preserved-then-not-occurs : goal.loop-pair-preserved-then-not-occurs
loop-pair-preserved-then-not-occurs c = search (adding, rules)

pub loop-pair-preserved : goal.loop-pair-preserved
loop-pair-preserved c = search (adding, rules)

pub returns : goal.returns
returns c = search (adding, rules)
