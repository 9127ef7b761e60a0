-- Laws of putting text at a place: a byte, one text behind another, and the bytes of a slice one by one.
use mathlib.Core.Path.{◌≡◌, refl, sym, ◌∙◌, ap}
use mathlib.Core.List.{List, [], ◌∷◌, ◌++◌, append_assoc}
use Prim.Native.Nat.{ℕ, ◌+◌, ◌-◌, ◌≤◌}
use native.Mathlib.Numerals.{add-one}
use native.Mathlib.Omega.{arith}
use lib.ListN.{length, take, drop, set, length-set, length-drop, length-append, take-append-drop}
use borrow.Rule.Slice.PartMut.{put_mid}
use lib.Seq.{length-take-le, take_at, drop_at, drop-drop, set_split}
use Rattle.text.specs.MirrorText.{Puts}

pub puts_none : (at : ℕ) (l : List ℕ) → at ≤ length l → Puts [] at at l l
puts_none at l h = record { end = omega arith; room = h; size = refl; put = sym (take-append-drop at l) }

pub puts_byte : (at x : ℕ) (l : List ℕ) → at + 1 ≤ length l → Puts (x ∷ []) at (at + 1) l (set l at x)
puts_byte at x l h =
    record {
      end = refl;
      room = h;
      size = length-set l at x;
      put = rw (add-one at) (set_split l at x (omega arith));
    }

-- what stands before and behind a text that was put
module _ (s : List ℕ) (a b : ℕ) (x y : List ℕ) (f : Puts s a b x y) where
  front_long : length (take a x ++ s) ≡ b
  front_long =
      let k : a ≤ length x = omega (arith, f.end, f.room) in
      length-append (take a x) s ∙ ap (λ (n : ℕ). n + length s) (length-take-le a x k) ∙ sym f.end

  front_is : y ≡ (take a x ++ s) ++ drop b x
  front_is = f.put ∙ sym (append_assoc (take a x) s (drop b x))

  front : take b y ≡ take a x ++ s
  front = ap (take b) front_is ∙ take_at (take a x ++ s) (drop b x) b front_long

  back : (n : ℕ) → drop (b + n) y ≡ drop (b + n) x
  back n =
      sym (drop-drop n b y) ∙ ap (λ (l : List ℕ). drop n (drop b l)) front_is
      ∙ ap (drop n) (drop_at (take a x ++ s) (drop b x) b front_long) ∙ drop-drop n b x

-- what stands at the front is the text
pub puts_front : (s : List ℕ) (r : ℕ) (x y : List ℕ) → Puts s 0 r x y → take r y ≡ s
puts_front s r x y f = front s 0 r x y f

pub puts_on : (s t : List ℕ) (a b c : ℕ) (x y z : List ℕ) → Puts s a b x y → Puts t b c y z → Puts (s ++ t) a c x z
puts_on s t a b c x y z f g =
    record {
      end = omega (arith, f.end, g.end, length-append s t);
      room = omega (arith, g.room, f.size);
      size = g.size ∙ f.size;
      put =
          let k : drop c y ≡ drop c x = rw g.end (back s a b x y f (length t)) in
          g.put ∙ rw (front s a b x y f, k, append_assoc (take a x) s (t ++ drop c x), append_assoc s t (drop c x));
    }

-- ---- a slice's bytes
pub puts_all : (bytes put : List ℕ) (at : ℕ) (l : List ℕ) → put ≡ bytes → at + length bytes ≤ length l
    → Puts bytes at (at + length bytes) l (put_mid at (at + length bytes - at) l put)
puts_all bytes put at l e h =
    let n : at + length bytes - at ≡ length bytes = omega arith in
    record {
      end = refl;
      room = h;
      size = rw (e, n) (let k : at ≤ length l = omega arith in simp (length-append, length-drop, length-take-le at l k) (omega arith));
      put = rw (e, n) (ap (λ m. take at l ++ (bytes ++ m)) (drop-drop (length bytes) at l));
    }

pub ruleset putting = (puts_byte, puts_on)
