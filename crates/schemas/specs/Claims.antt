-- What is proved of sheets, their forests and their schemas, to be read without the proofs: each claim is a type, and proofs/Proved.antt has a member of each.
use Rattle.std.specs.Prelude.{ℕ, ◌≡◌, ◌↔◌, List, length, Result}
use Rattle.refusal.specs.MeaningAnswer.{done}
use Rattle.refusal.specs.Told.{told}
use Rattle.refusal.specs.declared.Refusal.{Refusal}
use Rattle.grammar.specs.MeaningReading.{Reading}
use Rattle.sheet.specs.MeaningSheet.{Is}
use Rattle.sheet.specs.Promises.{PromiseVerdict}
use Rattle.sheet.specs.Claims.{AllBytes}
use Rattle.forest.specs.MeaningForest.{Forest, encode, Fits}
use Rattle.forest.specs.MeaningDecoding.{forest_of}
use Rattle.schemas.specs.MeaningTree.{Tree, grow, tree_at, tree_of}
use Rattle.schemas.specs.MeaningBare.{bare}
use Rattle.schemas.specs.MeaningSchemas.{Schema, schemas_of}
use Rattle.schemas.specs.MeaningBack.{forest_of_schemas}
use Rattle.schemas.specs.MeaningUnplaced.{nowhere, unplaced}
use Rattle.schemas.specs.MeaningStanding.{Whole}
use Rattle.schemas.specs.MeaningLayout.{Row, SchemaStands}
use Rattle.schemas.specs.MeaningExamples.{cam, cam_schemas}

-- ---- sheets are the encodings of forests

-- a sheet has no fault exactly when it is the encoding of a forest that fits
abbrev pub FaultsAndForests : Type 0
FaultsAndForests = (rd : Reading) (s : List ℕ) → AllBytes s → Is rd s (done tt) ↔ ((f : Forest) × (encode f ≡ s) × Fits rd f)

-- so `verdict` accepts exactly those
abbrev pub AcceptsForests : Type 0
AcceptsForests = (rd : Reading) (s : List ℕ) (r : Result (Unit {0}) Refusal) → AllBytes s → PromiseVerdict rd s r → (told r ≡ done tt) ↔ ((f : Forest) × (encode f ≡ s) × Fits rd f)

-- the forest is that of its bytes
abbrev pub ReadsBack : Type 0
ReadsBack = (rd : Reading) (f : Forest) → AllBytes (encode f) → Fits rd f → forest_of (encode f) ≡ f

-- so a sheet without a fault is the encoding of the forest of its bytes, which fits
abbrev pub HasItsForest : Type 0
HasItsForest = (rd : Reading) (s : List ℕ) → AllBytes s → Is rd s (done tt) → (encode (forest_of s) ≡ s) × Fits rd (forest_of s)

-- and two different forests never give one sheet
abbrev pub EncodesOnce : Type 0
EncodesOnce = (rd : Reading) (f g : Forest) → AllBytes (encode f) → Fits rd f → Fits rd g → encode f ≡ encode g → f ≡ g

-- ---- forests say schemas, and schemas forests

-- without its places, the tree of a sheet's bytes is their forest
abbrev pub BareTree : Type 0
BareTree = (s : List ℕ) → bare (tree_of s) ≡ forest_of s

-- where the fields fit, the schemas read from them say them all: the way back gives them again
abbrev pub ThereAndBack : Type 0
ThereAndBack = (rd : Reading) (t : Tree) → Fits rd (bare t) → forest_of_schemas (schemas_of t) ≡ bare t

-- and the other way round: read from the fields that say them, schemas are what they were, but for the places
abbrev pub BackAndThere : Type 0
BackAndThere = (xs : List Schema) → unplaced (schemas_of (nowhere (forest_of_schemas xs))) ≡ unplaced xs

-- so nothing of a sheet without a fault is lost in its schemas: its bytes can be written again from them
abbrev pub NothingLost : Type 0
NothingLost = (rd : Reading) (s : List ℕ) → AllBytes s → Is rd s (done tt) → encode (forest_of_schemas (schemas_of (tree_of s))) ≡ s

-- ---- places

-- the schemas of a sheet without a fault stand in it from its first byte to its end, so the places of names and declarations are the offsets of their bytes
abbrev pub LaidOut : Type 0
LaidOut = (rd : Reading) (s : List ℕ) → AllBytes s → Is rd s (done tt) → Row (SchemaStands s) (schemas_of (tree_of s)) 0 (length s)

-- and every field of its tree stands whole at its place
abbrev pub WholeFields : Type 0
WholeFields = (rd : Reading) (s : List ℕ) → AllBytes s → Is rd s (done tt) → Whole s (tree_of s)

-- the sheet of document 01's example, read
abbrev pub CamRead : Type 0
CamRead = schemas_of (tree_of cam) ≡ cam_schemas

-- ---- loops

-- the law by which a loop goes over fields in order: what is read from a place on is the field there, and then what is read from its end on
abbrev pub FieldByField : Type 0
FieldByField = (s : List ℕ) (at e : ℕ) → tree_at s at e ≡ grow (tree_at s) s at e
