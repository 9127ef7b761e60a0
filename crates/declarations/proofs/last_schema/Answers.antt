use mathlib.Core.Path.{ap, ◌∙◌}
use borrow.Author.Rules.{rules}
use Rattle.lookup.specs.declared.walking.Walk.{Walk}
use Rattle.lookup.proofs.Fields.{field_order, fields}
use Rattle.lookup.proofs.Turning.{walk_gives, walk_starts, turning}
use Rattle.declarations.proofs.Walks.{seek_start, seek_there, seek_room, seeking}
use Rattle.declarations.proofs.last_schema.Goals as goal

pub loop-tag-init : goal.loop-tag-init
loop-tag-init c =
    let g = c.into_iter-tag-iterator.ensures.into_iter_gives in
    let o = c.of-tag-items.ensures in (
      walk_starts _ _ _ (ap (λ (w : Walk). w.s.now) g ∙ o.bytes) (ap (λ (w : Walk). w.end) g ∙ o.ends),
      seek_start _ _ _ c.requires _ (ap (λ (w : Walk). w.at) g ∙ o.begins),
    )

pub numbers_at-numbers-requires : goal.numbers_at-numbers-requires
numbers_at-numbers-requires c =
    let f = c.loop-tag.invariant.1 in
    let y = walk_gives _ _ _ _ _ c.loop-tag.invariant.0 c.next.ensures.steps in
    (field_order _ _ _ _ y _ c.in-Some.is, seek_there _ _ _ _ _ _ _ f _ y _ c.in-Some.is, seek_room _ _ _ _ _ _ _ f _ y _ c.in-Some.is)

pub has_name-requires : goal.has_name-requires
has_name-requires c = search (seeking, turning, fields, rules)

pub loop-tag-preserved-then-has_name : goal.loop-tag-preserved-then-has_name
loop-tag-preserved-then-has_name c = search (seeking, turning, fields, rules)

pub loop-tag-preserved-else-has_name : goal.loop-tag-preserved-else-has_name
loop-tag-preserved-else-has_name c = search (seeking, turning, fields, rules)

pub loop-tag-preserved : goal.loop-tag-preserved
loop-tag-preserved c = search (seeking, turning, fields, rules)

pub returns : goal.returns
returns c = search (seeking, turning, fields, rules)
