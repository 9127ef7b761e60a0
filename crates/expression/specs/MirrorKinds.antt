-- The kinds of nodes: the number of each in lent memory, and the kind that a number says.
use Rattle.std.specs.Prelude.{ℕ, cond, eqb}
use Rattle.expression.specs.declared.Kind.{Kind}
use Rattle.expression.specs.declared.Kind.TheVariants.{Reference, Andor, And, Oneof}

abbrev pub number_of_kind : Kind → ℕ
number_of_kind Reference = 0
number_of_kind Andor = 1
number_of_kind And = 2
number_of_kind Oneof = 3

-- every number says one: what is none of the first three is ONEOF
abbrev pub kind_of : ℕ → Kind
kind_of n = cond (eqb n 0) Reference (cond (eqb n 1) Andor (cond (eqb n 2) And Oneof))
