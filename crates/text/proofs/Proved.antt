-- The claims of this crate.
use mathlib.Core.Path.{refl}
use Rattle.text.specs.MeaningText.{digits_by, decimal, path_text, or_refused, refused_line, supertype_line, type_line, joined, part_line}
use Rattle.text.specs.Claims.{NumbersShown, LinesShown}

pub numbers_shown : NumbersShown
unfolding decimal digits_by
numbers_shown = refl

pub lines_shown : LinesShown
unfolding decimal digits_by path_text or_refused refused_line supertype_line type_line joined part_line
lines_shown = refl
