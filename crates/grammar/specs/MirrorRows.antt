-- The rows of the code's table, made of the grammar's lines. A row's columns:
-- 0 parent; 1 tag, 256 for the end of the parent's value; 2 and 3 the first and the last state of the parent in which it may stand;
-- 4 the parent's state after it; 5 and 6 the least and the most bytes of its value; 7 its kind: 0 fields, 1 a name, 2 a simple type, 3 empty;
-- 8 what it counts for: 0 nothing, 1 schemas, 2 declarations, 3 constraints, 4 expressions and names in 34; 9 levels of expression depth; 10 the answer
use Rattle.std.specs.Prelude.{ℕ, suc, List, [], ◌∷◌, ◌++◌, map, cond}
use Rattle.grammar.specs.MeaningReading.{answers}
use Rattle.grammar.specs.MeaningReading.Reading.{rust}
use Rattle.grammar.specs.MeaningGrammar.{Often, Slot, slot, expressions, Line, line, grammar, one_of, Kind, kind_of, most_name_bytes, most_bytes, counts}
use Rattle.grammar.specs.MeaningGrammar.Often.{one, at_most_one, any}
use Rattle.grammar.specs.MeaningGrammar.Kind.{name, simple, empty, fields}
use Rattle.grammar.specs.MeaningGrammar.Limit.{schemas, declarations, constraints, terms}

-- least and most bytes of a value, and its kind's number
unfoldable pub leaf_kind : Kind → List ℕ
leaf_kind name = 1 ∷ most_name_bytes ∷ 1 ∷ []
leaf_kind simple = 1 ∷ 1 ∷ 2 ∷ []
leaf_kind empty = 0 ∷ 0 ∷ 3 ∷ []
leaf_kind fields = 0 ∷ most_bytes ∷ 0 ∷ []

-- what a field counts for
unfoldable pub count_class : ℕ → ℕ → ℕ
count_class p t = cond (counts schemas p t) 1 (cond (counts declarations p t) 2 (cond (counts constraints p t) 3 (cond (counts terms p t) 4 0)))

-- levels of depth
unfoldable pub levels_of : ℕ → ℕ
levels_of t = cond (one_of expressions t) 1 0

-- state k: the slots before k are over. A slot may be entered from the state after the last needed slot before it
unfoldable pub state_after : Often → ℕ → ℕ
state_after one k = suc k
state_after at_most_one k = suc k
state_after any k = k

unfoldable pub least_after : Often → ℕ → ℕ → ℕ
least_after one lo k = suc k
least_after at_most_one lo k = lo
least_after any lo k = lo

unfoldable pub rows_of_slots : ℕ → ℕ → ℕ → List Slot → List (List ℕ)
unfolding state_after least_after leaf_kind count_class levels_of
rows_of_slots p lo k [] = (p ∷ 256 ∷ lo ∷ k ∷ 0 ∷ 0 ∷ 0 ∷ 3 ∷ 0 ∷ 0 ∷ 0 ∷ []) ∷ []
rows_of_slots p lo k (x ∷ xs) =
    map (λ t. p ∷ t ∷ lo ∷ k ∷ state_after x.often k ∷ (leaf_kind (kind_of t) ++ (count_class p t ∷ levels_of t ∷ answers rust p t ∷ []))) x.tags
    ++ rows_of_slots p (least_after x.often lo k) (suc k) xs

unfoldable pub rows_of : List Line → List (List ℕ)
rows_of [] = []
rows_of (l ∷ ls) = rows_of_slots l.parent 0 0 l.slots ++ rows_of ls

unfoldable pub rows : List (List ℕ)
unfolding grammar rows_of rows_of_slots slot expressions line state_after least_after leaf_kind count_class levels_of kind_of counts one_of answers
rows = rows_of grammar
