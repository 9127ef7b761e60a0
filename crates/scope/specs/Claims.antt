-- What is proved, to be read without the proofs: each claim is a type, and proofs/Proved.antt has a member of each.
use Rattle.std.specs.declared.cmp.Ordering.{Ordering}
use Rattle.std.specs.Prelude.{ℕ, ◌<◌, ◌≤◌, ◌≡◌, ◌↔◌, List, [], ◌∷◌, ◌++◌, true, length, Option, Some, None, Result}
use Rattle.refusal.specs.Told.{told_by}
use Rattle.refusal.specs.declared.Refusal.{Refusal}
use Rattle.grammar.specs.MeaningReading.{Reading}
use Rattle.scope.specs.MeaningNames.{same_name}
use Rattle.scope.specs.MeaningScope.{Step, Scope, same_scope, compared}
use Rattle.scope.specs.MeaningScope.Comparison.{less, equal, greater}
use Rattle.scope.specs.Told.{told_compared}
use Rattle.scope.specs.Held.{rung_of, scope_of}
use Rattle.scope.specs.MirrorScope.{pushed_on, popped_from}

-- ---- equal names: an equivalence, under every reading

abbrev pub NamesReflexive : Type 0
NamesReflexive = (rd : Reading) (a : List ℕ) → same_name rd a a ≡ true

abbrev pub NamesSymmetric : Type 0
NamesSymmetric = (rd : Reading) (a b : List ℕ) → same_name rd a b ≡ true → same_name rd b a ≡ true

abbrev pub NamesTransitive : Type 0
NamesTransitive = (rd : Reading) (a b c : List ℕ) → same_name rd a b ≡ true → same_name rd b c ≡ true → same_name rd a c ≡ true

-- ---- the partial order

abbrev pub OrderReflexive : Type 0
OrderReflexive = (rd : Reading) (a : Scope) → compared rd a a ≡ equal

-- two scopes compare as equal exactly where they are equal
abbrev pub EqualExactly : Type 0
EqualExactly = (rd : Reading) (a b : Scope) → (compared rd a b ≡ equal) ↔ (same_scope rd a b ≡ true)

-- b is longer and starts with a: it is some scope equal to a, and one step at least behind it
abbrev pub Begins : Reading → (a b : Scope) → Type 0
Begins rd a b = (front : Scope) × (next : Step) × (rest : Scope) × (b ≡ front ++ (next ∷ rest)) × (same_scope rd a front ≡ true)

-- "A scope is greater than every longer scope that starts with it", and than no other
abbrev pub GreaterExactly : Type 0
GreaterExactly = (rd : Reading) (a b : Scope) → (compared rd a b ≡ greater) ↔ Begins rd a b

abbrev pub LessExactly : Type 0
LessExactly = (rd : Reading) (a b : Scope) → (compared rd a b ≡ less) ↔ Begins rd b a

-- ---- of every answer that a comparison can give

-- different answers say different things
abbrev pub ToldInjective : Type 0
ToldInjective = (r r' : Result (Option Ordering) Refusal) → told_by told_compared r ≡ told_by told_compared r' → r ≡ r'

-- ---- scopes as the code holds them: a step more goes behind the others, a full scope takes none, and popping takes the last away

abbrev pub PushAppends : Type 0
PushAppends = (a : Scope) (x : Step) → length a < 3 → pushed_on (scope_of a) (rung_of x) ≡ Some (scope_of (a ++ (x ∷ [])))

abbrev pub PushRefuses : Type 0
PushRefuses = (a : Scope) (x : Step) → 3 ≤ length a → pushed_on (scope_of a) (rung_of x) ≡ None

abbrev pub PopDrops : Type 0
PopDrops = (a : Scope) (x : Step) → length a < 3 → popped_from (scope_of (a ++ (x ∷ []))) ≡ Some (scope_of a)
