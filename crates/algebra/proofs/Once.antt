-- Different comparisons say different things.
use mathlib.Core.Path.{◌≡◌, refl, ap}
use Rattle.std.specs.Prelude.{Result, Ok, Err}
use Rattle.std.proofs.Common.{Ordering, Less, Equal, Greater}
use Rattle.refusal.specs.declared.Refusal.{Refusal}
use Rattle.complex_entity.specs.Told.{told_order}
use Rattle.operands.proofs.Cuts.{clash}
use Rattle.operands.proofs.Once.{refusal_once}
use Rattle.algebra.specs.Told.{told_compared}

order_once : (a b : Ordering) → told_order a ≡ told_order b → a ≡ b
order_once Less Less e = refl
order_once Less Equal e = clash (cc)
order_once Less Greater e = clash (cc)
order_once Equal Less e = clash (cc)
order_once Equal Equal e = refl
order_once Equal Greater e = clash (cc)
order_once Greater Less e = clash (cc)
order_once Greater Equal e = clash (cc)
order_once Greater Greater e = refl

pub compared_once : (r s : Result Ordering Refusal) → told_compared r ≡ told_compared s → r ≡ s
compared_once (Ok a) (Ok b) e = ap (λ (o : Ordering). Ok o) (order_once a b (cc))
compared_once (Ok a) (Err b) e = clash (cc)
compared_once (Err a) (Ok b) e = clash (cc)
compared_once (Err a) (Err b) e = ap (λ (w : Refusal). Err w) (refusal_once a b e)
