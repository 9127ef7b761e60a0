-- Laws of writing at a place: nothing, a byte, and one thing after another.
use mathlib.Core.Path.{◌≡◌, refl, sym, ◌∙◌, ap}
use mathlib.Core.List.{List}
use Prim.Native.Nat.{ℕ, ◌+◌, ◌-◌, ◌≤◌, ◌<◌}
use native.Mathlib.Omega.{arith}
use lib.ListN.{length, take, drop, set, length-set}
use lib.Seq.{take-set-le, drop-set-lt, take-take, drop-drop}
use Rattle.lines.specs.Places.{Written}

pub written_none : (at : ℕ) (l : List ℕ) → Written at at l l
written_none at l = record { size = refl; on = omega arith; room = λ h. h; kept = refl; past = refl }

pub written_byte : (at x : ℕ) (l : List ℕ) → at < length l → Written at (at + 1) l (set l at x)
written_byte at x l h =
    record {
      size = length-set l at x;
      on = omega arith;
      room = λ _. omega arith;
      kept = take-set-le at l at x (omega arith);
      past = drop-set-lt (at + 1) l at x (omega arith);
    }

-- what is past an earlier place is past a later one
past_later : (b c : ℕ) (x y : List ℕ) → b ≤ c → drop b y ≡ drop b x → drop c y ≡ drop c x
past_later b c x y h e =
    let k : b + (c - b) ≡ c = omega arith in
    sym (ap (λ (n : ℕ). drop n y) k) ∙ sym (drop-drop (c - b) b y) ∙ ap (drop (c - b)) e ∙ drop-drop (c - b) b x ∙ ap (λ (n : ℕ). drop n x) k

pub written_on : (a b c : ℕ) (x y z : List ℕ) → Written a b x y → Written b c y z → Written a c x z
written_on a b c x y z f g =
    record {
      size = g.size ∙ f.size;
      on = omega (arith, f.on, g.on);
      room = λ h. let h' : b ≤ length y = omega (arith, f.room h, f.size) in omega (arith, g.room h', f.size);
      kept = sym (take-take a b z f.on) ∙ ap (take a) g.kept ∙ take-take a b y f.on ∙ f.kept;
      past = g.past ∙ past_later b c x y g.on f.past;
    }

pub ruleset writes = (written_none, written_byte, written_on)
