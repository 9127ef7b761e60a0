-- Expressions as bytes: an index over 255 and a value over 65,535 bytes long come out as numbers that are no bytes.
use Rattle.std.specs.Prelude.{List, [], ◌∷◌, ◌++◌, ℕ, ◌/◌, ◌%◌, length}
use Rattle.expression.specs.MeaningExpression.{Expr, reference, andor, «and», oneof, Terms, end, ◌then◌}

-- a field: its tag, two length bytes, high first, and its value
abbrev pub field_of : ℕ → List ℕ → List ℕ
field_of tag value = tag ∷ length value / 256 ∷ length value % 256 ∷ value

-- tags 50 to 53 as the paper has them, in base 16. A reference holds two bytes, its index
unfoldable mutual
  pub bytes_of : Expr ℕ → List ℕ
  bytes_of (reference n) = field_of 80 (0 ∷ n ∷ [])
  bytes_of (andor t) = field_of 81 (bytes_of_all t)
  bytes_of («and» t) = field_of 82 (bytes_of_all t)
  bytes_of (oneof t) = field_of 83 (bytes_of_all t)

  pub bytes_of_all : Terms ℕ → List ℕ
  bytes_of_all end = []
  bytes_of_all (e then t) = bytes_of e ++ bytes_of_all t
