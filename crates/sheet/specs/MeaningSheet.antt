-- Refusals 1, 3, 4 and 5: which fields stand in a sheet, what is wrong with one, and which fault the verdict tells. Only bytes are spoken of here.
use Rattle.std.specs.Prelude.{ℕ, ◌+◌, ◌*◌, ◌<◌, ◌≤◌, ◌≡◌, ◌⊎◌, List, [], ◌∷◌, ◌++◌, true, false, cond, length, get_or, take, drop}
use Rattle.refusal.specs.MeaningAnswer.{Answer, done, refused}
use Rattle.grammar.specs.MeaningReading.{Reading, answers}
use Rattle.sheet.specs.MeaningName.{is_name}
use Rattle.grammar.specs.MeaningGrammar.{one_of, expressions, slots_of, Fills, kind_of, holds_simple, most_bytes, most_depth, Limit, most, counts}
use Rattle.grammar.specs.MeaningGrammar.Kind.{name, simple, empty, fields}

-- ---- "A field is one tag byte, two length bytes (high byte first), then the value." "A field's place is its tag's offset"

abbrev pub tag_of : List ℕ → ℕ → ℕ
tag_of s at = get_or s at 0

abbrev pub size_of : List ℕ → ℕ → ℕ
size_of s at = get_or s (at + 1) 0 * 256 + get_or s (at + 2) 0

-- the place after the field
abbrev pub end_of : List ℕ → ℕ → ℕ
end_of s at = at + 3 + size_of s at

abbrev pub value_of : List ℕ → ℕ → List ℕ
value_of s at = take (size_of s at) (drop (at + 3) s)

-- ---- where the fields of a sheet stand: by their headers alone, whatever else is wrong with them

-- a value that is being read: its field's tag (0: the sheet), its end, and the tags of the fields that have stood in it, in order
pub data Open : Type 0 where
  within : (parent end : ℕ) (earlier : List ℕ) → Open

-- a field that has stood: its parent's tag and its own
abbrev pub Stood : Type 0
Stood = ℕ × ℕ

-- Reading in order, "depth first", comes to this place, with these values open, the innermost first, and after these fields, the last first.
-- If the place lies before the end of the innermost value, a field stands there; it is gone into or past if it does not pass that end
pub data Comes (s : List ℕ) : List Open → ℕ → List Stood → Type 0 where
  -- the sheet's first byte
  start : Comes s (within 0 (length s) [] ∷ []) 0 []
  -- from a field that holds fields to its value
  into : {p e at : ℕ} {es : List ℕ} {os : List Open} {fs : List Stood} → Comes s (within p e es ∷ os) at fs → end_of s at ≤ e → kind_of (tag_of s at) ≡ fields
      → Comes s (within (tag_of s at) (end_of s at) [] ∷ within p e (es ++ (tag_of s at ∷ [])) ∷ os) (at + 3) ((p, tag_of s at) ∷ fs)
  -- from any other field past its value
  past : {p e at : ℕ} {es : List ℕ} {os : List Open} {fs : List Stood} → Comes s (within p e es ∷ os) at fs → end_of s at ≤ e → (kind_of (tag_of s at) ≡ fields → ⊥)
      → Comes s (within p e (es ++ (tag_of s at ∷ [])) ∷ os) (end_of s at) ((p, tag_of s at) ∷ fs)
  -- from the end of a value back to the value around it
  out : {p e : ℕ} {es : List ℕ} {os : List Open} {fs : List Stood} → Comes s (within p e es ∷ os) e fs → Comes s os e fs

-- how many of the fields that have stood count for a limit
unfoldable pub how_many : Limit → List Stood → ℕ
how_many l [] = 0
how_many l (f ∷ fs) = cond (counts l f.0 f.1) (how_many l fs + 1) (how_many l fs)

-- how many of the open values are expressions: an expression that stands here is one deeper
unfoldable pub deep : List Open → ℕ
deep [] = 0
deep (within p e es ∷ os) = cond (one_of expressions p) (deep os + 1) (deep os)

-- ---- "Numbers of refusal": what is wrong at a place `at` that reading comes to, in a value with the parent p and the end e, after the tags es in it,
-- ---- with the values os around it, and after the fields fs of the sheet. A field stands there where at < e

module _ (rd : Reading) (s : List ℕ) (p e : ℕ) (es : List ℕ) (os : List Open) (at : ℕ) (fs : List Stood) where
  -- the tag of the field
  abbrev pub t : ℕ
  t = tag_of s at

  pub data Wrong : ℕ → Type 0 where
    -- 3 "header or value passes its parent's end", at that field
    passes : at < e → e < end_of s at → Wrong 3
    -- 3 "tag not allowed there", at that field: no value of that parent begins with these tags
    bad_tag : at < e → ((rest : List ℕ) → Fills (slots_of p) (es ++ (t ∷ rest)) → ⊥) → Wrong 3
    -- 3 "wrong length or byte in 21", at that field
    bad_simple : at < e → kind_of t ≡ simple → holds_simple (value_of s at) ≡ false → Wrong 3
    -- 3 "wrong length .. in .. 22, 24, 32", at that field
    full : at < e → kind_of t ≡ empty → 0 < size_of s at → Wrong 3
    -- 3 "a needed field is missing", at the parent's end: these tags are no whole value of it
    missing : at ≡ e → (Fills (slots_of p) es → ⊥) → Wrong 3
    -- 4 "name in the sheet of wrong length or bytes", at its field
    bad_name : at < e → kind_of t ≡ name → is_name (value_of s at) ≡ false → Wrong 4
    -- 5 "a counted limit .. passed", at the first field beyond: as many as there may be stand before it
    limit : at < e → (l : Limit) → counts l p t ≡ true → most l ≤ how_many l fs → Wrong 5
    -- 5 ".. or depth passed", at the first field beyond: an expression inside as many as there may be, "a lone reference being 1"
    depth : at < e → one_of expressions t ≡ true → most_depth ≤ deep (within p e es ∷ os) → Wrong 5
    -- the reading refuses the tag there, at that field: in the base none does
    forbidden : at < e → 0 < answers rd p t → Wrong (answers rd p t)

-- the faults of a sheet: number and place
pub data Fault (rd : Reading) (s : List ℕ) : ℕ → ℕ → Type 0 where
  -- 1 "sheet over 65,535 bytes", at 0
  long : most_bytes < length s → Fault rd s 1 0
  wrong : {p e at n : ℕ} {es : List ℕ} {os : List Open} {fs : List Stood} → Comes s (within p e es ∷ os) at fs → Wrong rd s p e es os at fs n → Fault rd s n at

-- ---- "Order: 1; .. sheet faults by position, depth first (3, 4, 5 at one field)"

-- the fault n at p comes before m at q, or is the same
abbrev pub NotAfter : (n p m q : ℕ) → Type 0
NotAfter n p m q = (p < q) ⊎ ((p ≡ q) × (n ≤ m))

-- n at p is a fault, and none comes before it
abbrev pub First : Reading → List ℕ → (n p : ℕ) → Type 0
First rd s n p = Fault rd s n p × ((m q : ℕ) → Fault rd s m q → NotAfter n p m q)

-- the verdict on a sheet: accepted if it has no fault, otherwise refused with the first
abbrev pub Is : Reading → List ℕ → Answer (Unit {0}) → Type 0
Is rd s (done accepted) = (n p : ℕ) → Fault rd s n p → ⊥
Is rd s (refused n p) = First rd s n p
