-- What is proved of the lines, to be read without the proofs: each claim is a type, and proofs/Proved.antt has a member of each.
use Rattle.std.specs.Prelude.{ℕ, ◌≤◌, ◌≡◌, List, ◌++◌, length}
use Rattle.refusal.specs.MeaningAnswer.{done}
use Rattle.complex_entity.specs.MeaningParts.{Part, most_names}
use Rattle.complex_entity.specs.MeaningRows.{row_of}
use Rattle.complex_entity.specs.MirrorParts.{part_at}
use Rattle.grammar.specs.MeaningReading.{Reading}
use Rattle.sheet.specs.MeaningSheet.{Is}
use Rattle.sheet.specs.Claims.{AllBytes}
use Rattle.listing.specs.MirrorLines.{Short, RowStands}

-- a sheet without a fault has short names, as the lines' code asks
abbrev pub AcceptedIsShort : Type 0
AcceptedIsShort = (rd : Reading) (s : List ℕ) → AllBytes s → Is rd s (done tt) → Short s

-- a part's row stands, as `part_line` asks, and it is that part's
abbrev pub PartsStand : Type 0
PartsStand = (p : Part) (rest : List ℕ) → length p ≤ most_names → RowStands (row_of p ++ rest) × (part_at (row_of p ++ rest) ≡ p)
