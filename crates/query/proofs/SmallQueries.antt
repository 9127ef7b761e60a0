-- Small queries, computed from the meanings.
use mathlib.Core.Path.{◌≡◌, refl}
use mathlib.Core.List.{List, [], ◌∷◌, ◌++◌}
use Prim.Native.Nat.{ℕ}
use Rattle.refusal.specs.MeaningAnswer.{Answer, done, refused}
use Rattle.grammar.specs.MeaningReading.Reading.{rust}
use Rattle.sheet.specs.MeaningName.{is_letter, is_name_byte, all_name_bytes, starts_with_letter, is_name}
use Rattle.scope.specs.MeaningNames.{same_bytes, same_name}
use Rattle.scope.specs.MeaningScope.{Path, steps_equal, starts, Comparison, compared}
use Rattle.scope.specs.MeaningScope.ScopeType.{entity, schema}
use Rattle.scope.specs.MeaningScope.Comparison.{less, equal, greater, unordered}
use Rattle.query.specs.MeaningQuery.{name_at, tagged, step_at, word_at, steps_at, scope_query, path_from, path_of, path_query, Question, asked, resolve_query, order_of}

-- schema s, schema t, entity a; the field 10 with the name a
abbrev s : List ℕ
s = 0x67 ∷ 0 ∷ 1 ∷ 115 ∷ []

abbrev t : List ℕ
t = 0x67 ∷ 0 ∷ 1 ∷ 116 ∷ []

abbrev a : List ℕ
a = 0x60 ∷ 0 ∷ 1 ∷ 97 ∷ []

abbrev word : List ℕ
word = 0x10 ∷ 0 ∷ 1 ∷ 97 ∷ []

pub orders : ◌≡◌ {A = List (Answer Comparison)}
    (order_of rust [] [] ∷ order_of rust [] s ∷ order_of rust (s ++ a) s ∷ order_of rust s t ∷ order_of rust s s ∷ order_of rust (s ++ s ++ s ++ s) word ∷ [])
    (done equal ∷ done greater ∷ done less ∷ done unordered ∷ done equal ∷ refused 15 12 ∷ [])
unfolding is_letter is_name_byte all_name_bytes starts_with_letter is_name same_bytes same_name steps_equal starts compared name_at tagged step_at steps_at scope_query order_of
orders = refl

pub paths : ◌≡◌ {A = List (Answer Path)}
    (path_query [] ∷ path_query (s ++ a) ∷ path_query (s ++ word) ∷ path_query (s ++ s ++ s ++ s ++ a) ∷ [])
    (refused 15 0 ∷ done (record { scope = record { kind = schema; name = record { at = 3; bytes = 115 ∷ [] } } ∷ []; item = record { kind = entity; name = record { at = 7; bytes = 97 ∷ [] } } }) ∷ refused 15 4 ∷ refused 15 16 ∷ [])
unfolding is_letter is_name_byte all_name_bytes starts_with_letter is_name name_at tagged step_at steps_at path_from path_of path_query
paths = refl

pub questions : ◌≡◌ {A = List (Answer Question)}
    (resolve_query [] ∷ resolve_query s ∷ resolve_query word ∷ resolve_query (s ++ word ++ word) ∷ resolve_query (s ++ s ++ s ++ s ++ word) ∷ [])
    (refused 15 0 ∷ refused 15 4 ∷ done (record { scope = []; word = record { at = 3; bytes = 97 ∷ [] } }) ∷ refused 15 8 ∷ refused 15 12 ∷ [])
unfolding is_letter is_name_byte all_name_bytes starts_with_letter is_name name_at tagged step_at word_at steps_at asked resolve_query
questions = refl
