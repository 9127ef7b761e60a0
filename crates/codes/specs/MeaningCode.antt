-- An answer as C gets it: two numbers.
use Prim.Native.Nat.{ℕ, zero, suc, ◌+◌, ◌*◌, Ordering}
use Rattle.std.specs.Prelude.{Bool, cond}
use Rattle.refusal.specs.MeaningAnswer.{Answer, done, refused}
use Rattle.scope.specs.MeaningScope.{Comparison}
use Rattle.scope.specs.MeaningScope.Comparison.{less, equal, greater, unordered}
use Rattle.type_ref.specs.MeaningTypes.{TypeRef, a_named, an_entity_type}

-- what C reads from a number and a value: 0 is an answer, and the value is its own; any other number is a refusal's, and the value its place
abbrev pub read : (number value : ℕ) → Answer ℕ
read zero v = done v
read (suc n) place = refused (suc n) place

-- ---- the value of an answer that is no number

abbrev pub flag : Bool → ℕ
flag b = cond b 1 0

-- "-1, 0 or +1", and 1 added
abbrev pub sign : Ordering → ℕ
sign Ordering.lt = 0
sign Ordering.eq = 1
sign Ordering.gt = 2

-- the same, and 3 for two scopes that have no order
abbrev pub sign_or_none : Comparison → ℕ
sign_or_none less = 0
sign_or_none equal = 1
sign_or_none greater = 2
sign_or_none unordered = 3

-- an entity: whether it is a supertype; a type: 4, 2 more where it is simple, 1 more where it is an enumeration
abbrev pub kind : TypeRef → ℕ
kind (an_entity_type x) = flag x.is_supertype
kind (a_named x) = 4 + (2 * flag x.is_simple + flag x.is_enumerate)
