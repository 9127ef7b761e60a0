-- What `ok_or` says of the answer that it is given.
use mathlib.Core.Path.{◌≡◌, refl, ap}
use Rattle.std.specs.Prelude.{Option, Some, None, Ok, Err}
use Rattle.std.specs.Option.{ok_or}
use Rattle.grammar.proofs.Choosing.{clash}

pub ok_or_some : {A E : Type 0} (m : Option A) (e : E) (x : A) → Ok x ≡ ok_or m e → m ≡ Some x
ok_or_some (Some y) e x f = let z : y ≡ x = cc in ap Some z
ok_or_some None e x f = clash (cc)

pub ok_or_none : {A E : Type 0} (m : Option A) (e y : E) → Err y ≡ ok_or m e → (m ≡ None) × (y ≡ e)
ok_or_none (Some x) e y f = clash (cc)
ok_or_none None e y f = (refl, cc)
