-- What the code's answers say, in the paper's words.
use Prim.Native.Nat as nat
use Rattle.std.specs.declared.cmp.Ordering.{Ordering}
use Rattle.std.specs.declared.cmp.Ordering.TheVariants.{Less, Equal, Greater}

-- "The comparison answers -1, 0 or +1."
abbrev pub told_order : Ordering → nat.Ordering
told_order Less = nat.Ordering.lt
told_order Equal = nat.Ordering.eq
told_order Greater = nat.Ordering.gt
