-- The invariant: the value has no more digits than there were.
use Prim.Native.Nat.{◌^◌, ◌<◌}
use Rattle.lines.proofs.values.decimal_of.Given as goal

abbrev pub invariant-loop-glyph : goal.invariant-loop-glyph
invariant-loop-glyph l = l.value < 10 ^ l.glyph-index
