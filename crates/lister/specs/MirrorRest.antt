-- What is left of a listing where its cursor stands.
use Rattle.std.specs.Prelude.{ℕ, ◌+◌, ◌*◌, ◌-◌, ◌≤◌, ◌<◌, ◌≡◌, List, [], ◌∷◌, ◌++◌, map, Bool, Option, Some, None, length, take, drop}
use Rattle.refusal.specs.MeaningAnswer.{Answer, mapped}
use Rattle.refusal.specs.Told.{number_of}
use Rattle.grammar.specs.MeaningReading.{Reading}
use Rattle.schemas.specs.MeaningSchemas.{Schema}
use Rattle.scope.specs.MeaningScope.{Path}
use Rattle.rows.specs.MirrorRows.{parts_at, Stands}
use Rattle.declarations.specs.MeaningNamespace.{schemas_in, declarations}
use Rattle.merging.specs.MeaningMerging.{Combined}
use Rattle.merging.specs.MirrorStream.{stream_of, paired, owners_from}
use Rattle.supertypes.specs.MirrorStanding.{Both, Standing, list_by}
use Rattle.text.specs.MeaningText.{refused_line}
use Rattle.text.specs.MirrorText.{Puts}
use Rattle.noting.specs.MirrorNoted.{Noted}
use Rattle.listing.specs.MeaningLines.{part_lines, parts_of}
use Rattle.listing.specs.MeaningListing.{type_lines}
use Rattle.listing.specs.MeaningWhole.{AllWalked, ListsBy}
use Rattle.listing.specs.MirrorLines.{Short, line_of_supertype}
use Rattle.lister.specs.declared.Records.{Records}
use Rattle.lister.specs.declared.Parts.{Parts}
use Rattle.lister.specs.declared.Cursor as cursor
use Rattle.lister.specs.declared.Cursor.{Cursor}
use Rattle.lister.specs.declared.Line.{Line}

abbrev pub Lines : Type 0
Lines = List (List ℕ)

-- a sheet that is not too long, whose names are short and noted
pub record Ready (s names : List ℕ) : Type 0 where
  pub short : Short s
  pub few : length s ≤ 65535
  pub noted : Noted s names

-- the records stand in the workspace, and one begins at the place, or the last ends there
pub record From (b : Both) (x : Records) (work : List ℕ) : Type 0 where
  pub stands : Standing b x.streams work
  pub passed : List (Combined ℕ)
  pub coming : List (Combined ℕ)
  pub all : b.0 ++ map paired b.1 ≡ passed ++ coming
  pub there : x.at ≡ length (stream_of passed)

-- the owners that come and are none of those passed
abbrev pub owners : {b : Both} {x : Records} {work : List ℕ} → From b x work → List ℕ
owners f = owners_from f.passed f.coming

-- the lines of some owners' lists
unfoldable pub owner_lines : List Schema → Both → List ℕ → Lines
owner_lines xs b [] = []
owner_lines xs b (o ∷ os) = line_of_supertype xs o (mapped length (list_by o b)) ∷ (parts_of xs (list_by o b) ++ owner_lines xs b os)

module _ (rd : Reading) (s : List ℕ) (walked : Path → Answer Bool) where
  -- the lines of the types from a number on
  unfoldable pub types_from : ℕ → Lines
  types_from n = type_lines rd (schemas_in s) walked (drop n (declarations (schemas_in s)))

  -- the lines of these supertypes, then those of all types
  unfoldable pub supertypes_from : Both → List ℕ → Lines
  supertypes_from b os = owner_lines (schemas_in s) b os ++ types_from 0

  pub record SupertypesLeft (names work : List ℕ) (x : Records) (ls : Lines) : Type 0 where
    pub ready : Ready s names
    pub both : Both
    pub from : From both x work
    pub lines : ls ≡ supertypes_from both (owners from)

  pub record PartsLeft (names work : List ℕ) (p : Parts) (ls : Lines) : Type 0 where
    pub ready : Ready s names
    pub both : Both
    pub from : From both p.then work
    pub rows : Stands (drop 2048 work) p.count
    pub lines : ls ≡ part_lines (schemas_in s) p.number (drop p.number (parts_at p.count (drop 2048 work))) ++ supertypes_from both (owners from)

  pub record TypesLeft (names : List ℕ) (n : ℕ) (ls : Lines) : Type 0 where
    pub ready : Ready s names
    pub lines : ls ≡ types_from n

  -- these lines are left
  unfoldable pub Rest : (names work : List ℕ) → Cursor → Lines → Type 0
  Rest names work (cursor.TheVariants.Refusal why) ls = ls ≡ refused_line (number_of why.reason) why.place ∷ []
  Rest names work (cursor.TheVariants.Supertypes x) ls = SupertypesLeft names work x ls
  Rest names work (cursor.TheVariants.Parts p) ls = PartsLeft names work p ls
  Rest names work (cursor.TheVariants.Types n) ls = TypesLeft names n ls
  Rest names work cursor.TheVariants.End ls = ls ≡ []

  -- the first of these lines is made, and the others are left; or there is none
  unfoldable pub Gives : (names work before after : List ℕ) → Option Line → Lines → Type 0
  Gives names work before after None [] = after ≡ before
  Gives names work before after None (l ∷ ls) = ⊥
  Gives names work before after (Some r) [] = ⊥
  Gives names work before after (Some r) (l ∷ ls) = (0 < r.stop) × Puts l 0 r.stop before after × Rest names work r.next ls

-- some lines are left
pub record AtCursor (rd : Reading) (s names work : List ℕ) (c : Cursor) : Type 0 where
  pub walked : Path → Answer Bool
  pub walks : AllWalked rd s walked
  pub lines : Lines
  pub rest : Rest rd s walked names work c lines

-- whatever the walks answer: all lines of the listing are left
pub record Starts (rd : Reading) (s names work : List ℕ) (c : Cursor) : Type 0 where
  pub all : (walked : Path → Answer Bool) → AllWalked rd s walked → (ls : Lines) × ListsBy rd s walked ls × Rest rd s walked names work c ls

-- whatever the walks answer: the first of the lines that were left is made
pub record GivesFirst (rd : Reading) (s names work : List ℕ) (c : Cursor) (work' before after : List ℕ) (r : Option Line) : Type 0 where
  pub first : (walked : Path → Answer Bool) → AllWalked rd s walked → (ls : Lines) → Rest rd s walked names work c ls → Gives rd s walked names work' before after r ls

-- no fewer than there are lines left: a supertype has fewer than 65,536, and so have the types
unfoldable pub left : Cursor → ℕ
left (cursor.TheVariants.Refusal why) = 1
left (cursor.TheVariants.Supertypes x) = 65537 + 65536 * (x.streams.used - x.at)
left (cursor.TheVariants.Parts p) = 65537 + 65536 * (p.then.streams.used - p.then.at) + (p.count - p.number)
left (cursor.TheVariants.Types n) = 65536 - n
left cursor.TheVariants.End = 0

-- there are fewer after a line
abbrev pub Falls : Cursor → Option Line → Type 0
Falls c None = Unit {0}
Falls c (Some r) = left r.next < left c

-- the lines that are made from a cursor on, until none is: each is what stands in the lent bytes up to the stop
pub data Makes (rd : Reading) (s names : List ℕ) : (work : List ℕ) → Cursor → Lines → Type 0 where
  over : {work work' before after : List ℕ} {c : Cursor} → GivesFirst rd s names work c work' before after None → Makes rd s names work c []
  line : {work work' before after : List ℕ} {c : Cursor} {r : Line} {ls : Lines} → GivesFirst rd s names work c work' before after (Some r)
      → Makes rd s names work' r.next ls → Makes rd s names work c (take r.stop after ∷ ls)
