-- Document 01's table of tags: which fields a value holds and in what order, what the other values hold, and what is counted.
use Rattle.std.specs.Prelude.{ℕ, ◌≡◌, List, [], ◌∷◌, Bool, true, false, cond, ◌&&◌, ◌||◌, length, get_or, leb, eqb}

-- is the tag one of these?
unfoldable pub one_of : List ℕ → ℕ → Bool
one_of [] t = false
one_of (u ∷ us) t = cond (eqb u t) true (one_of us t)

-- ---- values that hold fields

-- how often a field stands: "one 10", "at most one 34" or "nothing or one expression", "any 20s" or "any number of 10s"
pub data Often : Type 0 where
  one at_most_one any : Often

-- fields with one of these tags, so often
pub record Slot : Type 0 where
  pub tags : List ℕ
  pub often : Often

unfoldable pub slot : List ℕ → Often → Slot
slot ts o = record { tags = ts; often = o }

-- a parent's tag, and the slots of its value in their order
pub record Line : Type 0 where
  pub parent : ℕ
  pub slots : List Slot

unfoldable pub line : ℕ → List Slot → Line
line p ss = record { parent = p; slots = ss }

-- an expression is "50 reference" or "51 ANDOR, 52 AND, 53 ONEOF"
unfoldable pub expressions : List ℕ
expressions = 0x50 ∷ 0x51 ∷ 0x52 ∷ 0x53 ∷ []

-- The table. 0 stands for the sheet itself: "A sheet is schema fields up to its end". No field has that tag
unfoldable pub grammar : List Line
unfolding slot expressions line
grammar =
    line 0 (slot (0x01 ∷ []) any ∷ [])
    -- 01 schema: "one 10, then any 20s, then any 30s, then any 40s"
    ∷ line 0x01 (slot (0x10 ∷ []) one ∷ slot (0x20 ∷ []) any ∷ slot (0x30 ∷ []) any ∷ slot (0x40 ∷ []) any ∷ [])
    -- 20 type: "one 10, then one of 21 to 24"
    ∷ line 0x20 (slot (0x10 ∷ []) one ∷ slot (0x21 ∷ 0x22 ∷ 0x23 ∷ 0x24 ∷ []) one ∷ [])
    -- 30 entity: "one 10, then at most one of 31, 32, 33, then at most one 34"
    ∷ line 0x30 (slot (0x10 ∷ []) one ∷ slot (0x31 ∷ 0x32 ∷ 0x33 ∷ []) at_most_one ∷ slot (0x34 ∷ []) at_most_one ∷ [])
    -- 31 supertype rule: "one expression"
    ∷ line 0x31 (slot expressions one ∷ [])
    -- 33 abstract supertype: "nothing or one expression"
    ∷ line 0x33 (slot expressions at_most_one ∷ [])
    -- 34 SUBTYPE OF: "any number of 10s"
    ∷ line 0x34 (slot (0x10 ∷ []) any ∷ [])
    -- 40 subtype constraint: "one 10 (the entity), then nothing or one expression"
    ∷ line 0x40 (slot (0x10 ∷ []) one ∷ slot expressions at_most_one ∷ [])
    -- 51 ANDOR, 52 AND, 53 ONEOF: "any number of expressions"
    ∷ line 0x51 (slot expressions any ∷ [])
    ∷ line 0x52 (slot expressions any ∷ [])
    ∷ line 0x53 (slot expressions any ∷ [])
    ∷ []

unfoldable pub slots_in : List Line → ℕ → List Slot
slots_in [] p = []
slots_in (l ∷ ls) p = cond (eqb l.parent p) l.slots (slots_in ls p)

-- the slots of a parent's line
abbrev pub slots_of : ℕ → List Slot
slots_of p = slots_in grammar p

-- must a slot have a field?
unfoldable pub needed : Often → Bool
needed one = true
needed at_most_one = false
needed any = false

-- may it have more than one?
unfoldable pub again : Often → Bool
again one = false
again at_most_one = false
again any = true

-- these are the tags of a whole value with these slots: slot after slot, as often as each says
pub data Fills : List Slot → List ℕ → Type 0 where
  -- no slot, no field
  done : Fills [] []
  -- none of a slot that need not have one
  skip : {x : Slot} {xs : List Slot} {ts : List ℕ} → needed x.often ≡ false → Fills xs ts → Fills (x ∷ xs) ts
  -- one of the slot's tags, and then the slots that follow
  last : {x : Slot} {xs : List Slot} {t : ℕ} {ts : List ℕ} → one_of x.tags t ≡ true → Fills xs ts → Fills (x ∷ xs) (t ∷ ts)
  -- one of the slot's tags, and then the same slot, if it may have more than one
  more : {x : Slot} {xs : List Slot} {t : ℕ} {ts : List ℕ} → again x.often ≡ true → one_of x.tags t ≡ true → Fills (x ∷ xs) ts → Fills (x ∷ xs) (t ∷ ts)

-- ---- values that hold no fields

pub data Kind : Type 0 where
  name simple empty fields : Kind

-- 10 name: "the name's bytes"; 23 named, 50 reference: "a name's bytes"
abbrev pub name_tags : List ℕ
name_tags = 0x10 ∷ 0x23 ∷ 0x50 ∷ []

-- "A name has 1 to 32 bytes"
abbrev pub most_name_bytes : ℕ
most_name_bytes = 32

-- 21 simple: "one byte 0 to 6"
abbrev pub simple_tags : List ℕ
simple_tags = 0x21 ∷ []

-- 22 enumeration, 24 any other type, 32 abstract entity: "empty"
abbrev pub empty_tags : List ℕ
empty_tags = 0x22 ∷ 0x24 ∷ 0x32 ∷ []

-- every other tag of the table holds fields; a tag that is not in the table is allowed nowhere, and its kind is all one
unfoldable pub kind_of : ℕ → Kind
kind_of t = cond (one_of name_tags t) name (cond (one_of simple_tags t) simple (cond (one_of empty_tags t) empty fields))

-- "one byte 0 to 6, SimpleType's order in ast/types.rs"
unfoldable pub holds_simple : List ℕ → Bool
holds_simple v = eqb (length v) 1 && leb (get_or v 0 0) 6

-- ---- "Limits: sheet 65,535 bytes; 8 schemas; 256 declarations (types and entities); 64 fields 40; 512 expressions and names in 34 together;
-- ---- expression depth 5, a lone reference being 1."

abbrev pub most_bytes : ℕ
most_bytes = 65535

abbrev pub most_depth : ℕ
most_depth = 5

-- what is counted in the whole sheet, and how many there may be of it
pub data Limit : Type 0 where
  schemas declarations constraints terms : Limit

abbrev pub most : Limit → ℕ
most schemas = 8
most declarations = 256
most constraints = 64
most terms = 512

-- does a field with the tag t in the parent p count?
unfoldable pub counts : Limit → (p t : ℕ) → Bool
counts schemas p t = eqb 0x01 t
counts declarations p t = eqb 0x20 t || eqb 0x30 t
counts constraints p t = eqb 0x40 t
counts terms p t = one_of expressions t || (eqb 0x34 p && eqb 0x10 t)
