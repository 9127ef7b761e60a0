-- The claims of specs/Claims.antt.
use mathlib.Core.Path.{◌≡◌, refl, sym, ap, ◌∙◌}
use Rattle.std.specs.declared.cmp.Ordering.{Ordering}
use Rattle.std.specs.declared.cmp.Ordering.TheVariants.{Less, Equal, Greater}
use Rattle.std.specs.Prelude.{Option, Some, None, Ok, Err}
use Rattle.refusal.proofs.Same.{same_refusal}
use Rattle.grammar.proofs.Choosing.{clash}
use Rattle.scope.specs.MeaningScope.{Comparison}
use Rattle.scope.specs.MeaningScope.Comparison.{less, equal, greater, unordered}
use Rattle.scope.specs.Told.{told_compared}
use Rattle.scope.specs.Claims.{NamesReflexive, NamesSymmetric, NamesTransitive, OrderReflexive, EqualExactly, GreaterExactly, LessExactly, ToldInjective, PushAppends, PushRefuses, PopDrops}
use Rattle.scope.proofs.Equality.{name_refl, name_sym, name_trans, scope_refl}
use Rattle.scope.proofs.Beginnings.{equal_same, same_equal, greater_begins, begins_greater, less_begins, begins_less}
use Rattle.scope.proofs.Holding.{push_appends, push_refused, pop_drops}

pub names_reflexive : NamesReflexive
names_reflexive = name_refl

pub names_symmetric : NamesSymmetric
names_symmetric = name_sym

pub names_transitive : NamesTransitive
names_transitive = name_trans

pub order_reflexive : OrderReflexive
order_reflexive rd a = same_equal rd a a (scope_refl rd a)

pub equal_exactly : EqualExactly
equal_exactly rd a b = (equal_same rd a b, same_equal rd a b)

pub greater_exactly : GreaterExactly
greater_exactly rd a b = (greater_begins rd a b, begins_greater rd a b)

pub less_exactly : LessExactly
less_exactly rd a b = (less_begins rd a b, begins_less rd a b)

-- an order by the comparison that it tells
abbrev order_of : Comparison → Option Ordering
order_of less = Some Less
order_of equal = Some Equal
order_of greater = Some Greater
order_of unordered = None

own_order : (o : Option Ordering) → order_of (told_compared o) ≡ o
unfolding told_compared
own_order (Some Less) = refl
own_order (Some Equal) = refl
own_order (Some Greater) = refl
own_order None = refl

pub told_injective : ToldInjective
told_injective (Ok o) (Ok o') q = let e : told_compared o ≡ told_compared o' = cc in ap Ok (sym (own_order o) ∙ ap order_of e ∙ own_order o')
told_injective (Ok o) (Err w) q = clash (cc)
told_injective (Err v) (Ok o) q = clash (cc)
told_injective (Err v) (Err w) q = ap Err (same_refusal v w (cc) (cc))

pub pushing_appends : PushAppends
pushing_appends = push_appends

pub pushing_refuses : PushRefuses
pushing_refuses = push_refused

pub popping_drops : PopDrops
popping_drops = pop_drops
