-- What is proved, to be read without the proofs: each claim is a type, and proofs/Proved.antt has a member of each.
use Rattle.std.specs.Prelude.{ℕ, ◌<◌, ◌≤◌, ◌≡◌, ◌↔◌, List, [], ◌∷◌, ◌++◌, map, true, length}
use Rattle.std.proofs.Math.Option.{some}
use Rattle.std.proofs.Math.ListN.{get_elem?}
use Rattle.complex_entity.specs.MeaningRising.{◌∈◌}
use Rattle.refusal.specs.MeaningAnswer.{Answer, done, refused}
use Rattle.grammar.specs.MeaningReading.{Reading}
use Rattle.grammar.specs.MeaningReading.Reading.{rust}
use Rattle.schemas.specs.MeaningSchemas.{Schema}
use Rattle.scope.specs.MeaningNames.{same_name}
use Rattle.scope.specs.MeaningScope.{Scope, same_scope, Path, same_path}
use Rattle.declarations.specs.MeaningNamespace.{Declaration, declarations, declaration_for, get_of, upwards, resolved, resolve_of}
use Rattle.declarations.specs.MeaningExamples.{doubles, in_scope, from_s}

-- ---- numbers

-- a declaration's number is its place in the list, from 0
abbrev pub NumbersInOrder : Type 0
NumbersInOrder = (xs : List Schema) (i : ℕ) (d : Declaration) → get_elem? (declarations xs) i ≡ some d → d.number ≡ i

-- ---- `resolve`

-- a resolved number is below the count, and is that of the declaration
abbrev pub ResolvedDeclared : Type 0
ResolvedDeclared = (rd : Reading) (xs : List Schema) (sc : Scope) (w : List ℕ) (d : Declaration) → resolved rd xs sc w ≡ some d
    → (d.number < length (declarations xs)) × (get_elem? (declarations xs) d.number ≡ some d)

-- its path is the one resolved: the name asked for, in the scope or one around it, and in no other
abbrev pub ResolvedPath : Type 0
ResolvedPath = (rd : Reading) (xs : List Schema) (sc : Scope) (w : List ℕ) (d : Declaration) → resolved rd xs sc w ≡ some d
    → (same_name rd d.path.item.name.bytes w ≡ true) × ((up : Scope) × (up ∈ upwards sc) × (same_scope rd d.path.scope up ≡ true))

-- ---- `get`: the number of a path is the lowest that a declaration with an equal path has

abbrev pub GetLowest : Type 0
GetLowest = (rd : Reading) (xs : List Schema) (p : Path) (d : Declaration) → declaration_for rd xs p ≡ some d
    → (d ∈ declarations xs) × (same_path rd d.path p ≡ true) × ((e : Declaration) → e ∈ declarations xs → same_path rd e.path p ≡ true → d.number ≤ e.number)

-- there is one where a declaration has the path
abbrev pub GetFinds : Type 0
GetFinds = (rd : Reading) (xs : List Schema) (p : Path) (e : Declaration) → e ∈ declarations xs → same_path rd e.path p ≡ true → (d : Declaration) × (declaration_for rd xs p ≡ some d)

-- paths have the same number exactly where they are equal
abbrev pub GetApart : Type 0
GetApart = (rd : Reading) (xs : List Schema) (p q : Path) (d e : Declaration) → declaration_for rd xs p ≡ some d → declaration_for rd xs q ≡ some e
    → (d.number ≡ e.number) ↔ (same_path rd p q ≡ true)

-- no two declarations have equal paths
abbrev pub NoDoubles : Reading → List Schema → Type 0
NoDoubles rd xs = (d e : Declaration) → d ∈ declarations xs → e ∈ declarations xs → same_path rd d.path e.path ≡ true → d ≡ e

-- then what a name resolves to is what its path leads to
abbrev pub GetResolves : Type 0
GetResolves = (rd : Reading) (xs : List Schema) → NoDoubles rd xs → (sc : Scope) (w : List ℕ) (d : Declaration) → resolved rd xs sc w ≡ some d → declaration_for rd xs d.path ≡ some d

-- ---- two schemas s, of {a, b} and of {b, a, c}: a, b, c and the unknown d, by name and by path

abbrev pub Doubles : Type 0
Doubles =
    ◌≡◌ {A = List (Answer ℕ)} (map (λ c. resolve_of rust doubles (in_scope c)) (97 ∷ 98 ∷ 99 ∷ 100 ∷ []) ++ map (λ c. get_of rust doubles (from_s c)) (97 ∷ 98 ∷ 99 ∷ 100 ∷ []))
    (done 3 ∷ done 2 ∷ done 4 ∷ refused 6 9 ∷ done 0 ∷ done 1 ∷ done 4 ∷ refused 7 0 ∷ [])
