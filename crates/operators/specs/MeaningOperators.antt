-- The operators by name, and what each answers for lists.
use Rattle.std.specs.Prelude.{List}
use Rattle.refusal.specs.MeaningAnswer.{Answer, done}
use Rattle.complex_entity.specs.MeaningParts.{Part}
use Rattle.complex_entity.specs.MeaningLists.{add, bitand, sub, div, held, oneof_of, and_of, andor_of}

-- ---- of two lists

-- `+`, `&`, `-` and `/`; `&` of two parts is their join
pub data Operator : Type 0 where
  plus times minus over : Operator

unfoldable pub value_of : Operator → List Part → List Part → Answer (List Part)
value_of plus L K = held (add L K)
value_of times L K = held (bitand L K)
value_of minus L K = done (sub L K)
value_of over L K = done (div L K)

-- ---- of several lists

pub data Several : Type 0 where
  one_of every_of some_of : Several

-- ONEOF, AND, ANDOR
unfoldable pub value_of_all : Several → List (List Part) → Answer (List Part)
value_of_all one_of Ls = oneof_of Ls
value_of_all every_of Ls = and_of Ls
value_of_all some_of Ls = andor_of Ls
