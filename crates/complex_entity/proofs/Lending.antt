-- The names of a row where it stands, lent as a slice.
use Prim.Native.Nat.{ℕ, ◌+◌, ◌-◌, ◌≤◌, min}
use mathlib.Core.Path.{◌≡◌, ◌∙◌}
use mathlib.Core.List.{List}
use native.Mathlib.Omega.{arith}
use native.Mathlib.Nat.{add-zero, min-eq_left, min-eq_right}
use native.Mathlib.Decide.{dec_lt}
use lib.ListN.{length, get_or, take, drop, length-take}
use lib.Seq.{drop-drop, take_all, take-take, get_or-drop}
use Rattle.complex_entity.specs.MirrorParts.{part_at}

-- the first n of the first k
take_twice : (n k : ℕ) (l : List ℕ) → take n (take k l) ≡ take (min n k) l
take_twice n k l = elim (dec_lt k n) [
  | yes h ↦ let g : k ≤ n = omega arith in rw (min-eq_right g) (take_all n (take k l) (omega (arith, length-take k l)))
  | no h ↦ let g : n ≤ k = omega arith in rw (min-eq_left g) (take-take n k l g)
]

pub row_names : (rows : List ℕ) (at n : ℕ) → at + 13 ≤ length rows → n ≡ min (get_or rows at 0) 12
    → take (at + 1 + n - (at + 1)) (drop (at + 1) rows) ≡ part_at (drop at rows)
row_names rows at n h e =
    let c : get_or (drop at rows) 0 0 ≡ get_or rows at 0 = get_or-drop at rows 0 0 ∙ rw add-zero in
    let k : at + 1 + n - (at + 1) ≡ n = omega arith in
    rw (k, e, c, drop-drop 1 at rows, take_twice (get_or rows at 0) 12 (drop (at + 1) rows))
