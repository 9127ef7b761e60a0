-- `take_in` meets its contract: one law for each way through it.
use mathlib.Core.Path.{sym, ◌∙◌}
use native.Mathlib.Omega.{arith}
use borrow.Author.Rules.{rules}
use Rattle.instantiables.proofs.Factors.{copied_sets}
use Rattle.terms.proofs.Taking.{taking, taken_not, own_stands, own_sets, own_small, above, term_sets, taken_first}
use Rattle.terms.proofs.take_in.Goals as goal

pub returns-in_default : goal.returns-in_default
returns-in_default c = taken_not _ _ _ _ _ _ c.in_default.is _ c.in_default.is

pub slice_bounds-copy-count : goal.slice_bounds-copy-count
slice_bounds-copy-count c = omega (arith, above c.args.rows.now c.args.term.count c.requires.ready.1)

pub slice_bounds-copy-start : goal.slice_bounds-copy-start
slice_bounds-copy-start c = omega (arith, above c.args.rows.now c.args.term.count c.requires.ready.1)

pub copy-requires : goal.copy-requires
copy-requires c = search (taking, rules)

pub andor_step-requires-clause-stands : goal.andor_step-requires-clause-stands
andor_step-requires-clause-stands c = search (taking, rules)

pub andor_step-requires-clause-sets : goal.andor_step-requires-clause-sets
andor_step-requires-clause-sets c = search (taking, rules)

pub overflow_mul-own : goal.overflow_mul-own
overflow_mul-own c = omega (arith, own_small _ _ c.args.rows.now c.in-Ok.is c.requires.ready.0)

pub copy-requires-in-And-2 : goal.copy-requires-in-And-2
copy-requires-in-And-2 c = search (taking, rules)

pub bitand-requires-clause-in_bounds : goal.bitand-requires-clause-in_bounds
bitand-requires-clause-in_bounds c = search (taking, rules)

pub bitand-requires-clause-sets : goal.bitand-requires-clause-sets
bitand-requires-clause-sets c = (
  copied_sets c.args.rows.now _ c.args.scratch.now _ (own_stands _ _ c.args.rows.now c.in-Ok.is c.requires.ready.0) c.copy-in-And-2.ensures (own_sets _ _ c.args.rows.now c.in-Ok.is c.requires.ready.0),
  term_sets c.args.rows.now c.args.factor.now _ c.args.term.count c.requires.ready.1 c.copy.ensures c.requires.ready.2,
)

pub add-requires : goal.add-requires
add-requires c = search (taking, rules)

pub returns-in-Andor : goal.returns-in-Andor
returns-in-Andor c = search (taking, rules)

pub returns-in-And : goal.returns-in-And
returns-in-And c = taken_first _ _ _ _ c.requires.ready.1 c.copy.ensures _ _ _ _ c.in-Ok.is _ (sym c.from.ensures ∙ c.in-And.is) c.if-n-eq0.true c.copy-in-And.ensures

pub returns-in-And-2 : goal.returns-in-And-2
returns-in-And-2 c = search (taking, rules)

pub returns-in-Reference : goal.returns-in-Reference
returns-in-Reference c = search (taking, rules)
