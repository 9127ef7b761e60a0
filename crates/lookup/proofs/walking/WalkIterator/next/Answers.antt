-- `next` meets its contract.
use native.Mathlib.Omega.{arith}
use Rattle.lookup.proofs.Fields.{field_start, field_order, field_in}
use Rattle.lookup.proofs.walking.WalkIterator.next.Goals as goal

pub invariant_of-self : goal.invariant_of-self
invariant_of-self c =
    let w = c.args.self.now in
    let i = field_in w.s.now w.at w.end _ c.field_at.ensures _ c.in_ok-field.was in
    let o = field_order w.s.now w.at w.end _ c.field_at.ensures _ c.in_ok-field.was in
    record { within = (omega (arith, i, o), w.within.1) }

pub returns-clause-goes : goal.returns-clause-goes
returns-clause-goes c =
    let w = c.args.self.now in
    let i = field_in w.s.now w.at w.end _ c.field_at.ensures _ c.in_ok-field.was in
    let o = field_order w.s.now w.at w.end _ c.field_at.ensures _ c.in_ok-field.was in
    let z = field_start w.s.now w.at w.end _ c.field_at.ensures _ c.in_ok-field.was in
    record {
      on = λ f. (tt, tt, omega (arith, i, o, z));
      keeps = tt;
      rests = λ f. tt;
    }
