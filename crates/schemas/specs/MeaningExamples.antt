-- Document 01's example: "Schema `cam`, entities `frame`, `exposed`, `planned`, both latter SUBTYPE OF `frame`, constraint on `frame` ONEOF(exposed,planned), is 102 bytes".
use Rattle.std.specs.Prelude.{List, [], ◌∷◌, ◌++◌, ℕ}
use Rattle.std.proofs.Math.Option.{none, some}
use Rattle.sheet.specs.MeaningName.{Name}
use Rattle.expression.specs.MeaningExpression.Expr.{reference, oneof}
use Rattle.expression.specs.MeaningExpression.Terms.{end, ◌then◌}
use Rattle.schemas.specs.MeaningSchemas.{Schema}
use Rattle.schemas.specs.MeaningSchemas.Mark.{unmarked}

-- ---- its bytes

unfoldable pub word_cam : List ℕ
word_cam = 0x63 ∷ 0x61 ∷ 0x6d ∷ []

unfoldable pub word_frame : List ℕ
word_frame = 0x66 ∷ 0x72 ∷ 0x61 ∷ 0x6d ∷ 0x65 ∷ []

unfoldable pub word_exposed : List ℕ
word_exposed = 0x65 ∷ 0x78 ∷ 0x70 ∷ 0x6f ∷ 0x73 ∷ 0x65 ∷ 0x64 ∷ []

unfoldable pub word_planned : List ℕ
word_planned = 0x70 ∷ 0x6c ∷ 0x61 ∷ 0x6e ∷ 0x6e ∷ 0x65 ∷ 0x64 ∷ []

-- a header with a length below 256, and what follows it
unfoldable pub header : ℕ → ℕ → List ℕ → List ℕ
header tag size rest = tag ∷ 0 ∷ size ∷ rest

unfoldable pub cam_constraint : List ℕ
cam_constraint = header 0x40 31 (header 0x10 5 (word_frame ++ header 0x53 20 (header 0x50 7 (word_exposed ++ header 0x50 7 word_planned))))

unfoldable pub cam : List ℕ
cam =
    header 0x01 99 (header 0x10 3 word_cam)
    ++ (header 0x30 8 (header 0x10 5 word_frame)
    ++ (header 0x30 21 (header 0x10 7 (word_exposed ++ header 0x34 8 (header 0x10 5 word_frame)))
    ++ (header 0x30 21 (header 0x10 7 (word_planned ++ header 0x34 8 (header 0x10 5 word_frame))) ++ cam_constraint)))

-- ---- what they say

unfoldable pub word_at : ℕ → List ℕ → Name
word_at p v = record { at = p; bytes = v }

unfoldable pub cam_schemas : List Schema
cam_schemas =
    record {
      place = 0;
      name = word_at 6 word_cam;
      types = [];
      entities =
          record { place = 9; name = word_at 15 word_frame; mark = unmarked; supertypes = none }
          ∷ record { place = 20; name = word_at 26 word_exposed; mark = unmarked; supertypes = some (word_at 39 word_frame ∷ []) }
          ∷ record { place = 44; name = word_at 50 word_planned; mark = unmarked; supertypes = some (word_at 63 word_frame ∷ []) }
          ∷ [];
      constraints = record { place = 68; entity = word_at 74 word_frame; expr = some (oneof (reference (word_at 85 word_exposed) then reference (word_at 95 word_planned) then end)) } ∷ [];
    }
    ∷ []
