-- Fields: that bytes begin with one, and with no other.
use mathlib.Core.Path.{◌≡◌, refl, sym, ap, ◌∙◌}
use mathlib.Core.List.{List, ◌∷◌, ◌++◌}
use Prim.Native.Nat.{ℕ, suc, ◌+◌, ◌*◌, ◌/◌, ◌%◌, ◌≤◌, ◌<◌}
use native.Mathlib.Omega.{arith}
use native.Mathlib.Nat.{div-add-mod'}
use lib.Arith.{digits_div, digits_mod}
use lib.ListN.{length, take, drop, get_or, length-append}
use lib.Seq.{length-take-le, take_at, drop_at}
use Rattle.std.proofs.Common.{take-append-drop}
use Rattle.nodes.specs.MeaningBytes.{field_of}
use Rattle.nodes.specs.MirrorBuilding.{Field, NoField}

-- two length bytes are those of a value that is so long
framed : (tag high low : ℕ) (value : List ℕ) → low < 256 → 256 * high + low ≡ length value → tag ∷ high ∷ low ∷ value ≡ field_of tag value
framed tag high low value h e =
    let n : length value ≡ high * 256 + low = omega arith in
    let a : length value / 256 ≡ high = ap (λ (k : ℕ). k / 256) n ∙ digits_div high h in
    let b : length value % 256 ≡ low = ap (λ (k : ℕ). k % 256) n ∙ digits_mod high h in
    rw (a, b) refl

-- fields that begin the same bytes are as long
pub as_long : (a b : ℕ) (v w k l : List ℕ) → field_of a v ++ k ≡ field_of b w ++ l → length v ≡ length w
as_long a b v w k l e =
    let h : length v / 256 ≡ length w / 256 = ap (λ (q : List ℕ). get_or q 1 0) e in
    let m : length v % 256 ≡ length w % 256 = ap (λ (q : List ℕ). get_or q 2 0) e in
    omega (arith, h, m, div-add-mod' (length v) 256, div-add-mod' (length w) 256)

-- and the same
pub same_field : {bytes field behind : List ℕ} → Field bytes field behind → (tag : ℕ) (value rest : List ℕ) → bytes ≡ field_of tag value ++ rest → (field ≡ field_of tag value) × (behind ≡ rest)
same_field {bytes} {field} {behind} f tag value rest e =
    let s : field ++ behind ≡ field_of tag value ++ rest = sym f.whole ∙ e in
    let n : length field ≡ length (field_of tag value) =
    ap length f.is ∙ ap (λ (k : ℕ). suc (suc (suc k))) (as_long (get_or field 0 0) tag (drop 3 field) value behind rest (ap (λ (l : List ℕ). l ++ behind) (sym f.is) ∙ s)) in (
      sym (take_at field behind (length field) refl) ∙ ap (take (length field)) s ∙ take_at (field_of tag value) rest (length field) (sym n),
      sym (drop_at field behind (length field) refl) ∙ ap (drop (length field)) s ∙ drop_at (field_of tag value) rest (length field) (sym n),
    )

pub field_long : {bytes field behind : List ℕ} → Field bytes field behind → 3 ≤ length field
field_long f = omega (arith, ap length f.is)

-- a header that is cut
pub short : (bytes : List ℕ) → length bytes < 3 → NoField bytes
short bytes h tag value behind e = omega (arith, ap length e)

-- a header that stands there
module _ (bytes l : List ℕ) (tag high low : ℕ) (s : bytes ≡ tag ∷ high ∷ low ∷ l) (h : low < 256) (n : ℕ) (i : n ≡ 3 + 256 * high + low) where
  pub cut : length bytes < n → NoField bytes
  cut k other value behind e =
      let q : tag ∷ high ∷ low ∷ l ≡ other ∷ length value / 256 ∷ length value % 256 ∷ (value ++ behind) = sym s ∙ e in
      let a : high ≡ length value / 256 = cc in
      let b : low ≡ length value % 256 = cc in
      omega (arith, a, b, div-add-mod' (length value) 256, ap length e, length-append value behind)

  pub stands : (field behind : List ℕ) → n ≤ length bytes → field ≡ take n bytes → behind ≡ drop n bytes → Field bytes field behind
  stands field behind k p q =
      let m : n ≡ suc (suc (suc (256 * high + low))) = omega arith in
      let v = take (256 * high + low) l in
      let g : field ≡ tag ∷ high ∷ low ∷ v = p ∙ rw (m, s) refl in
      let w : field ≡ field_of tag v = g ∙ framed tag high low v h (sym (length-take-le (256 * high + low) l (omega (arith, ap length s)))) in
      record {
        whole = sym (ap (λ (x : List ℕ). x ++ behind) p ∙ ap (λ (x : List ℕ). take n bytes ++ x) q ∙ take-append-drop n bytes);
        is = w ∙ rw w refl;
      }
