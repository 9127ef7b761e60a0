-- The measure is the number: a tenth of it is written first.
use Rattle.lines.proofs.writing.+decimal.Given as goal

abbrev pub decreases-decimal : goal.decreases-decimal
decreases-decimal l = l.number
