-- What is proved of the listing, to be read without the proofs: each claim is a type, and proofs/Proved.antt has a member of each.
use Rattle.std.specs.Prelude.{ℕ, ◌≡◌, List}
use Rattle.grammar.specs.MeaningReading.{Reading, rust}
use Rattle.sheet.specs.Claims.{AllBytes}
use Rattle.schemas.specs.MeaningExamples.{cam}
use Rattle.listing.specs.MeaningWhole.{Lists}
use Rattle.lister.specs.MeaningExample.{cam_lines}
use Rattle.lister.specs.MirrorRest.{Starts, Makes}
use Rattle.lister.specs.declared.Cursor.{Cursor}

-- a sheet has a listing, and one only
abbrev pub SomeListing : Type 0
SomeListing = (rd : Reading) (s : List ℕ) → AllBytes s → (ls : List (List ℕ)) × Lists rd s ls

abbrev pub OneListing : Type 0
OneListing = (rd : Reading) (s : List ℕ) (ls ls' : List (List ℕ)) → Lists rd s ls → Lists rd s ls' → ls ≡ ls'

-- what is made from the start on, line after line until there is none, is the listing
abbrev pub MadeIsListed : Type 0
MadeIsListed = (rd : Reading) (s names work : List ℕ) (c : Cursor) (ls : List (List ℕ)) → Starts rd s names work c → Makes rd s names work c ls → Lists rd s ls

-- document 01's example prints its three lines
abbrev pub CamListed : Type 0
CamListed = (ls : List (List ℕ)) → Lists rust cam ls → ls ≡ cam_lines
