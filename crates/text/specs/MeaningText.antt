-- The lines of a listing, in bytes. "One blank between words, a line feed after every line."
use Rattle.std.specs.Prelude.{ℕ, zero, suc, ◌+◌, ◌/◌, ◌%◌, List, [], ◌∷◌, ◌++◌, Bool, true, false, cond, ltb}
use Rattle.refusal.specs.MeaningAnswer.{Answer, done, refused}

-- ---- characters and words

abbrev pub blank : List ℕ
blank = 0x20 ∷ []

abbrev pub line_feed : List ℕ
line_feed = 0x0a ∷ []

abbrev pub comma : List ℕ
comma = 0x2c ∷ []

abbrev pub dot : List ℕ
dot = 0x2e ∷ []

-- supertype
abbrev pub word_supertype : List ℕ
word_supertype = 0x73 ∷ 0x75 ∷ 0x70 ∷ 0x65 ∷ 0x72 ∷ 0x74 ∷ 0x79 ∷ 0x70 ∷ 0x65 ∷ []

-- type
abbrev pub word_type : List ℕ
word_type = 0x74 ∷ 0x79 ∷ 0x70 ∷ 0x65 ∷ []

-- refused
abbrev pub word_refused : List ℕ
word_refused = 0x72 ∷ 0x65 ∷ 0x66 ∷ 0x75 ∷ 0x73 ∷ 0x65 ∷ 0x64 ∷ []

-- a number in decimal digits, without zeros in front; it has no more digits than it counts, and one at least
unfoldable pub digits_by : ℕ → ℕ → List ℕ
digits_by zero n = []
digits_by (suc more) n = cond (ltb n 10) ((0x30 + n) ∷ []) (digits_by more (n / 10) ++ ((0x30 + n % 10) ∷ []))

unfoldable pub decimal : ℕ → List ℕ
decimal n = digits_by (suc n) n

-- a flag: "0 or 1"
unfoldable pub flag : Bool → List ℕ
flag false = 0x30 ∷ []
flag true = 0x31 ∷ []

-- a path as the Rust prints it: its schema's name, a dot, its own
unfoldable pub path_text : (schema item : List ℕ) → List ℕ
path_text schema item = schema ++ (dot ++ item)

-- ---- lines

-- `refused`, number, place
unfoldable pub refused_line : (number place : ℕ) → List ℕ
refused_line n place = word_refused ++ (blank ++ (decimal n ++ (blank ++ (decimal place ++ line_feed))))

-- "A refused item prints `refused` and the number instead of its count or flags"
unfoldable pub or_refused : {A : Type 0} → (A → List ℕ) → Answer A → List ℕ
or_refused show (done a) = show a
or_refused show (refused n place) = word_refused ++ (blank ++ decimal n)

-- "`supertype`, path, count"
unfoldable pub supertype_line : (schema item : List ℕ) → Answer ℕ → List ℕ
supertype_line schema item count = word_supertype ++ (blank ++ (path_text schema item ++ (blank ++ (or_refused decimal count ++ line_feed))))

-- "`type`, path, simple flag, enumeration flag (0 or 1)"
unfoldable pub flags : Bool × Bool → List ℕ
flags b = flag b.0 ++ (blank ++ flag b.1)

unfoldable pub type_line : (schema item : List ℕ) → Answer (Bool × Bool) → List ℕ
type_line schema item both = word_type ++ (blank ++ (path_text schema item ++ (blank ++ (or_refused flags both ++ line_feed))))

-- "a line per part: number, paths joined by commas"
unfoldable pub joined : List (List ℕ) → List ℕ
joined [] = []
joined (x ∷ []) = x
joined (x ∷ y ∷ ys) = x ++ (comma ++ joined (y ∷ ys))

unfoldable pub part_line : ℕ → (paths : List (List ℕ)) → List ℕ
part_line i paths = decimal i ++ (blank ++ (joined paths ++ line_feed))
