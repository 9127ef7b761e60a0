-- The nodes that were read are an expression's, and end inside.
use mathlib.Core.Path.{◌≡◌, refl}
use mathlib.Core.List.{List}
use Prim.Native.Nat.{ℕ, ◌≤◌}
use lib.ListN.{length, take}
use Rattle.std.specs.Prelude.{Option, Some}
use Rattle.expression.specs.MirrorNodes.{Node}
use Rattle.nodes.specs.MirrorBuilding.{an_expression, Reads}

module _ (bytes before after : List ℕ) (r : Option ℕ) (n : ℕ) (is : r ≡ Some n) (read : Reads an_expression bytes 12 0 before after r) where
  pub nodes_inside : n ≤ length after
  nodes_inside = (read.only n is).inside

  pub nodes_stand : Node (take n after) 12
  nodes_stand = let b = read.only n is in rw b.front (record { expr = b.thing; is = refl; high = b.deep })
