-- `alone` meets its contract.
use Rattle.std.proofs.Common.{rules, refl}
use borrow.Author.Tests.{tests}
use Rattle.std.proofs.lemmas.Iterator.Consumers.{YieldsList-at, YieldsList-from_filter}
use Rattle.merging.specs.MirrorWalk.{shown}
use Rattle.merging.proofs.Walking.{walk_yields}
use Rattle.merging.proofs.Asking.{has}
use Rattle.merging.proofs.Standing.{own, none_left, one_left, some_left, no_more, alone_none, alone_long, alone_whole, alone_more, alone_one}
use Rattle.merging.proofs.alone.Goals as goal
use Rattle.merging.proofs.alone.Goals.{then-eq, else-eq}

pub returns-in_err-first : goal.returns-in_err-first
returns-in_err-first c =
    alone_none c.args.rules.now c.args.owner c.args.stop (own c.args.owner c.args.rules.now) refl
    (none_left shown c.filter-own.result (own c.args.owner c.args.rules.now) c.next.new.self c.in_err-first.ensures.steps
    (YieldsList-from_filter _ (has c.args.owner) (YieldsList-at c.filter-own.ensures.source (walk_yields c.of.result c.args.rules.now c.of.ensures)) c.filter-own.ensures.closure (λ x b q k. search (rules, tests)))) _ c.from_residual.ensures

pub bounds-first-0 : goal.bounds-first-0
bounds-first-0 c =
    let n = one_left shown c.filter-own.result (own c.args.owner c.args.rules.now) c.next.new.self c.in_ok-first.first c.in_ok-first.ensures.steps
    (YieldsList-from_filter _ (has c.args.owner) (YieldsList-at c.filter-own.ensures.source (walk_yields c.of.result c.args.rules.now c.of.ensures)) c.filter-own.ensures.closure (λ x b q k. search (rules, tests))) in
    let k = alone_long c.args.rules.now c.args.owner c.args.stop (own c.args.owner c.args.rules.now) refl (shown c.in_ok-first.first) n.0 n.1 c.requires in
    search rules

pub returns-then-is_whole : goal.returns-then-is_whole
returns-then-is_whole c =
    let n = one_left shown c.filter-own.result (own c.args.owner c.args.rules.now) c.next.new.self c.in_ok-first.first c.in_ok-first.ensures.steps
    (YieldsList-from_filter _ (has c.args.owner) (YieldsList-at c.filter-own.ensures.source (walk_yields c.of.result c.args.rules.now c.of.ensures)) c.filter-own.ensures.closure (λ x b q k. search (rules, tests))) in
    elim c.if-eq.branch [
      | then-eq w ↦ alone_whole c.args.rules.now c.args.owner c.args.stop (own c.args.owner c.args.rules.now) refl (shown c.in_ok-first.first) n.0 n.1 (search (rules, tests))
      | else-eq w ↦
          let m = some_left shown c.next.new.self n.0 w.next-else-eq.new.self w.next-else-eq.result w.next-else-eq.ensures.steps (search rules) n.2 in
          alone_more c.args.rules.now c.args.owner c.args.stop (own c.args.owner c.args.rules.now) refl (shown c.in_ok-first.first) n.0 n.1 m.0 m.1 m.2
    ]

pub returns-else-is_whole : goal.returns-else-is_whole
returns-else-is_whole c =
    let n = one_left shown c.filter-own.result (own c.args.owner c.args.rules.now) c.next.new.self c.in_ok-first.first c.in_ok-first.ensures.steps
    (YieldsList-from_filter _ (has c.args.owner) (YieldsList-at c.filter-own.ensures.source (walk_yields c.of.result c.args.rules.now c.of.ensures)) c.filter-own.ensures.closure (λ x b q k. search (rules, tests))) in
    elim c.if-eq.branch [
      | then-eq w ↦ search rules
      | else-eq w ↦
          alone_one c.args.rules.now c.args.owner c.args.stop (own c.args.owner c.args.rules.now) refl (shown c.in_ok-first.first) n.0 n.1 (search (rules, tests))
          (no_more shown c.next.new.self n.0 w.next-else-eq.new.self w.next-else-eq.result w.next-else-eq.ensures.steps (search rules) n.2)
    ]
