use Rattle.std.proofs.Common.{ap, ◌∙◌, rules}
use Rattle.merging.specs.MirrorWalk.{left}
use Rattle.merging.proofs.Owners.{enter_start, enter_fits, entering}
use Rattle.merging.proofs.next_owner.Goals as goal

pub offset_bounds-stream-from : goal.offset_bounds-stream-from
offset_bounds-stream-from c = search (entering, rules)

pub slice_bounds-of-count : goal.slice_bounds-of-count
slice_bounds-of-count c = search (entering, rules)

pub slice_bounds-of-start : goal.slice_bounds-of-start
slice_bounds-of-start c = search (entering, rules)

pub loop-record-init : goal.loop-record-init
loop-record-init c = enter_start _ _ _ c.requires (ap left c.into_iter-record-iterator.ensures.into_iter_gives ∙ c.of-record-items.ensures)

pub overflow_add-next : goal.overflow_add-next
overflow_add-next c = search (entering, rules)

pub overflow_add-next-in-loop-record : goal.overflow_add-next-in-loop-record
overflow_add-next-in-loop-record c =
    let h = enter_fits c.args.stream.now c.args.from c.loop-record.at c.loop-record.record-iterator c.next.new.self c.next.result c.loop-record.invariant c.next.ensures.steps c.in-Some.record c.in-Some.is in search rules

pub slice_bounds-is_owner-end : goal.slice_bounds-is_owner-end
slice_bounds-is_owner-end c = search (entering, rules)

pub is_owner-requires : goal.is_owner-requires
is_owner-requires c = search (entering, rules)

pub returns-then-not-is_owner : goal.returns-then-not-is_owner
returns-then-not-is_owner c = search (entering, rules)

pub loop-record-preserved : goal.loop-record-preserved
loop-record-preserved c = search (entering, rules)

pub returns : goal.returns
returns c = search (entering, rules)
