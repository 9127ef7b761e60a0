-- A line that is made behind others ends within the lent bytes.
use mathlib.Core.List.{List}
use Prim.Native.Nat.{ℕ, ◌+◌, ◌-◌, ◌≤◌}
use native.Mathlib.Omega.{arith}
use lib.ListN.{length, take, drop, length-take, length-drop}
use Rattle.std.specs.Prelude.{Some}
use Rattle.grammar.specs.MeaningReading.{Reading}
use Rattle.lister.specs.MirrorRest.{AtCursor, GivesFirst}
use Rattle.lister.specs.declared.Cursor.{Cursor}
use Rattle.lister.specs.declared.Line.{Line}
use Rattle.lister.proofs.Turning.{line_inside}

pub line_ends : (rd : Reading) (s names work : List ℕ) (c : Cursor) → AtCursor rd s names work c → (work' out : List ℕ) (at : ℕ) → at ≤ length out
    → (after : List ℕ) (r : Line) → GivesFirst rd s names work c work' (take (length out - at) (drop at out)) after (Some r) → at + r.stop ≤ length out
line_ends rd s names work c A work' out at h after r f =
    let i : r.stop ≤ length (take (length out - at) (drop at out)) = line_inside rd s names work c A work' (take (length out - at) (drop at out)) after r f in
    omega (arith, simp (length-take, length-drop) at i)
