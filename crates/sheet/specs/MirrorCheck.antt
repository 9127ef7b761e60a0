-- The check of a sheet, field by field.
use Rattle.std.specs.Prelude.{ℕ, zero, suc, ◌+◌, ◌-◌, List, cond, length, get_or, take, drop, ltb, leb, eqb, Option, Some, None}
use Rattle.refusal.specs.MeaningAnswer.{Answer, done, refused, ◌>>=◌}
use Rattle.grammar.specs.MeaningReading.{Reading}
use Rattle.sheet.specs.MeaningName.{is_name}
use Rattle.grammar.specs.MeaningGrammar.{most_bytes, most_depth, most}
use Rattle.grammar.specs.MeaningGrammar.Limit.{schemas, declarations, constraints, terms}
use Rattle.grammar.specs.MirrorTable.{row_count, cell_at, row_of, answer_at}
use Rattle.sheet.specs.MirrorField.{field_at}
use Rattle.sheet.specs.declared.Field.{Field}
use Rattle.sheet.specs.declared.Counts.{Counts}
use Rattle.sheet.specs.declared.Step.{Step}
use Rattle.sheet.specs.declared.Step.TheVariants.{Done, Past, Into}

-- ---- a field by itself: 0, or the number of its refusal

-- by the kind of the row: 1 a name, 2 a simple type
unfoldable pub kind_fault : List ℕ → ℕ → ℕ
kind_fault v kind = cond (eqb kind 1) (cond (is_name v) 0 4) (cond (eqb kind 2) (cond (leb (get_or v 0 0) 6) 0 3) 0)

-- a wrong length of a name is 4, any other 3
unfoldable pub length_fault : ℕ → ℕ
length_fault kind = cond (eqb kind 1) 4 3

unfoldable pub value_fault : List ℕ → ℕ → ℕ
value_fault v r = cond (ltb (length v) (cell_at r 5)) (length_fault (cell_at r 7)) (cond (ltb (cell_at r 6) (length v)) (length_fault (cell_at r 7)) (kind_fault v (cell_at r 7)))

-- where d levels of depth are left
unfoldable pub depth_fault : ℕ → ℕ → ℕ
depth_fault d r = cond (ltb d (cell_at r 9)) 5 0

-- the first of two numbers that is not 0
unfoldable pub or_next : ℕ → ℕ → ℕ
or_next m n = cond (eqb m 0) n m

unfoldable pub field_fault : Reading → List ℕ → ℕ → ℕ → ℕ
field_fault rd v r d = cond (ltb r row_count) (or_next (answer_at rd r) (or_next (value_fault v r) (depth_fault d r))) 3

-- ---- what is counted

-- the next count, if a field of this class counts for it, or none beyond its most
unfoldable pub next_count : ℕ → ℕ → ℕ → ℕ → Option ℕ
next_count class own count top = cond (eqb class own) (cond (ltb count top) (Some (count + 1)) None) (Some count)

unfoldable pub then_count : Option ℕ → (ℕ → Option Counts) → Option Counts
then_count (Some n) k = k n
then_count None k = None

unfoldable pub count_up : ℕ → Counts → Option Counts
count_up class c =
    then_count (next_count class 1 c.schemas (most schemas)) λ a.
    then_count (next_count class 2 c.declarations (most declarations)) λ b.
    then_count (next_count class 3 c.constraints (most constraints)) λ d.
    then_count (next_count class 4 c.terms (most terms)) λ e.
    Some (record { schemas = a; declarations = b; constraints = d; terms = e })

-- ---- one step: the end of the value, or the field at `at`

unfoldable pub at_end : ℕ → ℕ → ℕ → Counts → Answer Step
at_end p st e c = cond (ltb (row_of p st 256) row_count) (done (Done c)) (refused 3 e)

-- after a field without a fault
unfoldable pub go_on : ℕ → ℕ → ℕ → ℕ → ℕ → Counts → Step
go_on t a b r d c = cond (eqb (cell_at r 7) 0) (Into c (cell_at r 4) t (d - cell_at r 9) a b) (Past c (cell_at r 4) b)

unfoldable pub on_count : ℕ → ℕ → ℕ → ℕ → ℕ → ℕ → Option Counts → Answer Step
on_count at d t a b r None = refused 5 at
on_count at d t a b r (Some c) = done (go_on t a b r d c)

unfoldable pub on_fault : ℕ → ℕ → Counts → ℕ → ℕ → ℕ → ℕ → ℕ → Answer Step
on_fault at d c t a b r n = cond (eqb n 0) (on_count at d t a b r (count_up (cell_at r 8) c)) (refused n at)

unfoldable pub on_field : Reading → List ℕ → ℕ → ℕ → ℕ → ℕ → Counts → Option Field → Answer Step
on_field rd s p st at d c None = refused 3 at
on_field rd s p st at d c (Some f) = on_fault at d c f.tag f.start f.stop (row_of p st f.tag) (field_fault rd (take (f.stop - f.start) (drop f.start s)) (row_of p st f.tag) d)

unfoldable pub step_at : Reading → List ℕ → ℕ → ℕ → ℕ → ℕ → ℕ → Counts → Answer Step
step_at rd s p st at e d c = cond (eqb at e) (at_end p st e c) (on_field rd s p st at d c (field_at s at e))

-- ---- all of them

-- what is left after one step, where go is the check of a value from a place on: parent, state, place, end, depth, counts
unfoldable pub after : (ℕ → ℕ → ℕ → ℕ → ℕ → Counts → Answer Counts) → ℕ → ℕ → ℕ → Step → Answer Counts
after go p e d (Done c) = done c
after go p e d (Past c st b) = go p st b e d c
after go p e d (Into c st t d' a b) = go t 0 a b d' c >>= λ c'. go p st b e d c'

-- n steps at most, which `walk_at` gives in plenty
unfoldable pub walk : ℕ → Reading → List ℕ → ℕ → ℕ → ℕ → ℕ → ℕ → Counts → Answer Counts
walk zero rd s p st at e d c = refused 3 at
walk (suc n) rd s p st at e d c = step_at rd s p st at e d c >>= after (walk n rd s) p e d

unfoldable pub walk_at : Reading → List ℕ → ℕ → ℕ → ℕ → ℕ → ℕ → Counts → Answer Counts
walk_at rd s p st at e d c = walk (suc (e - at)) rd s p st at e d c

unfoldable pub no_counts : Counts
no_counts = record { schemas = 0; declarations = 0; constraints = 0; terms = 0 }

unfoldable pub sheet_check : Reading → List ℕ → Answer Counts
sheet_check rd s = cond (leb (length s) most_bytes) (walk_at rd s 0 0 0 (length s) most_depth no_counts) (refused 1 0)
