-- Document 01's starred examples, indices as names: one table.
use Rattle.std.specs.Prelude.{List, [], ◌∷◌, ℕ, length}
use Rattle.refusal.specs.MeaningAnswer.{Answer, done, refused, mapped}
use Rattle.complex_entity.specs.MeaningSets.{tidy}
use Rattle.complex_entity.specs.MeaningParts.{Part, order}
use Rattle.complex_entity.specs.MeaningLists.{div}
use Rattle.expression.specs.MeaningExpression.{Expr, reference, andor, «and», oneof, Terms, end, ◌then◌, eval, andor_mut}

-- what an example asks
pub data Ask : Type 0 where
  value : Expr ℕ → Ask
  count : Expr ℕ → Ask
  sorted : List Part → Ask
  divided : List Part → List Part → Ask
  rule_with_constraint : Expr ℕ → Expr ℕ → Ask

-- and what it says
pub data Say : Type 0 where
  parts : Answer (List Part) → Say
  number : Answer ℕ → Say
  form : Expr ℕ → Say

-- what the definitions answer
abbrev pub answer : Ask → Say
answer (value e) = parts (eval e)
answer (count e) = number (mapped length (eval e))
answer (sorted L) = parts (done (tidy order L))
answer (divided L K) = parts (done (div L K))
answer (rule_with_constraint d e) = form (andor_mut d e)

pub record Example : Type 0 where
  pub ask : Ask
  pub say : Say

infix 30 ◌⟶◌
abbrev pub ◌⟶◌ : Ask → Say → Example
q ⟶ a = record { ask = q; say = a }

abbrev pub names : List ℕ → Terms ℕ
names [] = end
names (n ∷ l) = reference n then names l

abbrev pub starred : List Example
starred =
    -- ANDOR(1,1): {1}
    (value (andor (names (1 ∷ 1 ∷ []))) ⟶ parts (done ((1 ∷ []) ∷ []))) ∷
    -- ONEOF(): nothing, count 0
    (value (oneof end) ⟶ parts (done [])) ∷
    (count (oneof end) ⟶ number (done 0)) ∷
    -- ANDOR(): 9
    (value (andor end) ⟶ parts (refused 9 0)) ∷
    -- AND(1): 9
    (value («and» (names (1 ∷ []))) ⟶ parts (refused 9 0)) ∷
    -- AND(1,ONEOF()): nothing
    (value («and» (reference 1 then oneof end then end)) ⟶ parts (done [])) ∷
    -- AND(ONEOF(1,2),3): {1,3},{2,3}
    (value («and» (oneof (names (1 ∷ 2 ∷ [])) then reference 3 then end)) ⟶ parts (done ((1 ∷ 3 ∷ []) ∷ (2 ∷ 3 ∷ []) ∷ []))) ∷
    -- ANDOR(ONEOF(1,2),3): {1},{2},{3},{1,3},{2,3}
    (value (andor (oneof (names (1 ∷ 2 ∷ [])) then reference 3 then end)) ⟶ parts (done ((1 ∷ []) ∷ (2 ∷ []) ∷ (3 ∷ []) ∷ (1 ∷ 3 ∷ []) ∷ (2 ∷ 3 ∷ []) ∷ []))) ∷
    -- AND(ANDOR(1,2),ANDOR(1,2)): {1},{2},{1,2}
    (value («and» (andor (names (1 ∷ 2 ∷ [])) then andor (names (1 ∷ 2 ∷ [])) then end)) ⟶ parts (done ((1 ∷ []) ∷ (2 ∷ []) ∷ (1 ∷ 2 ∷ []) ∷ []))) ∷
    -- {3} sorts before {1,2}
    (sorted ((1 ∷ 2 ∷ []) ∷ (3 ∷ []) ∷ []) ⟶ parts (done ((3 ∷ []) ∷ (1 ∷ 2 ∷ []) ∷ []))) ∷
    -- Rule ONEOF(1,2) with constraint ANDOR(3,4): ANDOR(ONEOF(1,2),3,4), 11 parts
    (rule_with_constraint (oneof (names (1 ∷ 2 ∷ []))) (andor (names (3 ∷ 4 ∷ []))) ⟶ form (andor (oneof (names (1 ∷ 2 ∷ [])) then names (3 ∷ 4 ∷ [])))) ∷
    (count (andor (oneof (names (1 ∷ 2 ∷ [])) then names (3 ∷ 4 ∷ []))) ⟶ number (done 11)) ∷
    -- [{1},{1,2}] / the empty list: empty
    (divided ((1 ∷ []) ∷ (1 ∷ 2 ∷ []) ∷ []) [] ⟶ parts (done [])) ∷
    -- [{1},{1,2}] / the empty part: itself
    (divided ((1 ∷ []) ∷ (1 ∷ 2 ∷ []) ∷ []) ([] ∷ []) ⟶ parts (done ((1 ∷ []) ∷ (1 ∷ 2 ∷ []) ∷ []))) ∷
    []
