-- Laws of the pieces of lines: which piece a test chooses, how long each is, and how lines are made of them.
use mathlib.Core.Path.{◌≡◌, refl, ◌∙◌}
use mathlib.Core.List.{List, [], ◌∷◌, ◌++◌, append_assoc}
use mathlib.Core.Bool.{Bool, true, false}
use Prim.Native.Nat.{ℕ, ◌+◌, ◌≤◌}
use native.Mathlib.Omega.{arith}
use lib.ListN.{length, length-append}
use Rattle.text.specs.MeaningText.{blank, line_feed, comma, word_refused, decimal, flag, flags, path_text, refused_line, or_refused}
use Rattle.text.specs.MirrorText.{Puts, refused_text, start_text, next_text, Counted}
use Rattle.std.specs.Prelude.{Result, Ok, Err}
use Rattle.refusal.specs.Told.{number_of, told}
use Rattle.text.specs.Told.{told_flags}
use Rattle.refusal.specs.declared.Refusal.{Refusal}
use Rattle.text.specs.declared.Flags.{Flags}
use Rattle.text.proofs.Digits.{decimal_length}
use Rattle.text.proofs.Putting.{puts_on}

-- ---- which piece a test chooses
module _ {b : Bool} {at r : ℕ} {x y : List ℕ} where
  pub puts_one : b ≡ true → Puts (0x31 ∷ []) at r x y → Puts (flag b) at r x y
  unfolding flag
  puts_one e f = rw e f

  pub puts_zero : b ≡ false → Puts (0x30 ∷ []) at r x y → Puts (flag b) at r x y
  unfolding flag
  puts_zero e f = rw e f

  pub puts_first : {p : List ℕ} → b ≡ true → Puts p at r x y → Puts (next_text b p) at r x y
  unfolding next_text
  puts_first e f = rw e f

  pub puts_next : {p : List ℕ} → b ≡ false → Puts (comma ++ p) at r x y → Puts (next_text b p) at r x y
  unfolding next_text
  puts_next e f = rw e f

-- ---- how long a piece is
pub flag_length : (b : Bool) → length (flag b) ≡ 1
unfolding flag
flag_length false = refl
flag_length true = refl

pub flags_length : (a b : Bool) → length (flags (a, b)) ≡ 3
unfolding flags
flags_length a b = length-append (flag a) (blank ++ flag b) ∙ rw (flag_length a, flag_length b)

pub path_length : (s i : List ℕ) → length (path_text s i) ≡ length s + 1 + length i
unfolding path_text
path_length s i = simp length-append (omega arith)

pub next_length : (first : Bool) (path : List ℕ) → length (next_text first path) ≤ length path + 1
unfolding next_text
next_length true path = omega arith
next_length false path = omega arith

pub start_length : (w s i : List ℕ) → length (start_text w s i) ≡ length w + (length s + 1 + length i) + 2
unfolding start_text
start_length w s i = simp (length-append, path_length) (omega arith)

-- ---- what is known, or the refusal
pub puts_refused : (n k at a b r : ℕ) (x y z w : List ℕ) → Puts word_refused at a x y → Puts blank a b y z → Puts (decimal k) b r z w → k ≡ n → Puts (refused_text n) at r x w
unfolding refused_text
puts_refused n k at a b r x y z w f g h e = rw (← e) (puts_on _ _ _ _ _ _ _ _ f (puts_on _ _ _ _ _ _ _ _ g h))

pub count_small : (count : Result ℕ Refusal) (n : ℕ) → count ≡ Ok n → Counted count → n ≤ 65535
count_small count n e h = rw e at h

pub count_fits : (count : Result ℕ Refusal) (n : ℕ) → count ≡ Ok n → Counted count → (at size : ℕ) → at + 13 ≤ size → at + length (decimal n) ≤ size
count_fits count n e h at size k = omega (arith, decimal_length n (count_small count n e h))

module _ {at r : ℕ} {x y : List ℕ} where
  pub count_room : (count : Result ℕ Refusal) (n : ℕ) → count ≡ Ok n → Counted count → Puts (decimal n) at r x y → r ≤ at + 13
  count_room count n e h f = omega (arith, f.end, decimal_length n (count_small count n e h))

  pub puts_count : (count : Result ℕ Refusal) (n : ℕ) → count ≡ Ok n → Puts (decimal n) at r x y → Puts (or_refused decimal (told count)) at r x y
  unfolding or_refused
  puts_count count n e f = rw e f

  pub puts_no_count : (count : Result ℕ Refusal) (why : Refusal) → count ≡ Err why → (n : ℕ) → n ≡ number_of why.reason → Puts (refused_text n) at r x y
      → Puts (or_refused decimal (told count)) at r x y
  unfolding or_refused refused_text
  puts_no_count count why e n i f = rw e (rw i at f)

  pub flags_room : (a b : Bool) → Puts (flags (a, b)) at r x y → r ≤ at + 13
  flags_room a b f = omega (arith, f.end, flags_length a b)

  pub puts_flags : (asked : Result Flags Refusal) (both : Flags) → asked ≡ Ok both → Puts (flags (both.simple, both.enumeration)) at r x y
      → Puts (or_refused flags (told_flags asked)) at r x y
  unfolding or_refused
  puts_flags asked both e f = rw e f

  pub puts_no_flags : (asked : Result Flags Refusal) (why : Refusal) → asked ≡ Err why → (n : ℕ) → n ≡ number_of why.reason → Puts (refused_text n) at r x y
      → Puts (or_refused flags (told_flags asked)) at r x y
  unfolding or_refused refused_text
  puts_no_flags asked why e n i f = rw e (rw i at f)

-- ---- a line is its pieces
pub refused_line_law : (n place : ℕ) → refused_line n place ≡ refused_text n ++ (blank ++ (decimal place ++ line_feed))
unfolding refused_line refused_text
refused_line_law n place = simp append_assoc

pub item_line : (w s i rest : List ℕ) → w ++ (blank ++ (path_text s i ++ (blank ++ rest))) ≡ start_text w s i ++ rest
unfolding start_text
item_line w s i rest = simp append_assoc

pub ruleset lines = (puts_one, puts_zero, puts_first, puts_next, count_fits, count_room, puts_count, puts_no_count, flags_room, puts_flags, puts_no_flags)
