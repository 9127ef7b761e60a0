-- What the library's comparisons say of numbers, of lists and of parts.
use Prim.Native.Nat.{ℕ, ◌<◌, compare}
use mathlib.Core.Path.{◌≡◌, sym}
use mathlib.Core.List.{List}
use lib.ListN.{length, drop}
use Rattle.std.specs.Cmp.{ranks}
use Rattle.std.specs.Ordering.{nat_cmp, MatchOrdering}
use Rattle.std.specs.declared.cmp.Ordering.{Ordering as Answered}
use Rattle.std.specs.declared.cmp.Ordering.TheVariants.{Less, Equal, Greater}
use Rattle.complex_entity.specs.MeaningParts.{lex}
use Rattle.complex_entity.specs.Told.{told_order}
use Rattle.complex_entity.proofs.Orders.{lt→cmp, gt→cmp, compare_self}

pub told_nat : (x y : ℕ) → told_order (nat_cmp x y) ≡ compare x y
told_nat x y = go (nat_cmp x y) (ranks x y)
  where
    go : (o : Answered) → MatchOrdering o (x < y) (x ≡ y) (y < x) → told_order o ≡ compare x y
    go Less h = sym (lt→cmp x y h)
    go Equal e = sym (rw e (compare_self y))
    go Greater h = sym (gt→cmp x y h)

-- the first k names are the same in both, and what is left decides
pub record Comparing (l r : List ℕ) (k : ℕ) : Type 0 where
  pub long : length l ≡ length r
  pub rest : lex (drop k l) (drop k r) ≡ lex l r
