-- The walk by the numbers of declarations, with a bound on its steps.
use Rattle.std.specs.Prelude.{ℕ, zero, suc, List, Bool}
use Rattle.std.proofs.Math.Option.{Option}
use Rattle.std.proofs.Math.ListN.{get_elem?}
use Rattle.refusal.specs.MeaningAnswer.{Answer, done, refused, mapped, ◌>>=◌}
use Rattle.grammar.specs.MeaningReading.{Reading}
use Rattle.schemas.specs.MeaningSchemas.{Schema}
use Rattle.declarations.specs.MeaningNamespace.{Declaration, declarations, answered}
use Rattle.records.specs.MeaningResolving.{number_for}
use Rattle.named_types.specs.MeaningWalk.{Step, ends, goes, named_step}

-- a step, seen by numbers
pub data Turn : Type 0 where
  stops : (simply : Bool) → Turn
  onto : ℕ → Turn

module _ (rd : Reading) (xs : List Schema) where
  unfoldable pub turn_of : Step → Turn
  turn_of (ends b) = stops b
  turn_of (goes p) = onto (number_for rd xs p)

  -- from a declaration, by its own path
  unfoldable pub turn_from : Option Declaration → Answer Turn
  turn_from o = mapped turn_of (answered 7 0 o >>= λ d. named_step rd xs d.path.scope d.named)

  unfoldable pub turn_at : ℕ → Answer Turn
  turn_at n = turn_from (get_elem? (declarations xs) n)

  unfoldable pub turned : (ℕ → Answer Bool) → Turn → Answer Bool
  turned go (stops b) = done b
  turned go (onto n) = go n

  -- with so many steps left: one more is 13
  unfoldable pub walked_by : (left number : ℕ) → Answer Bool
  walked_by zero n = turn_at n >>= turned (λ m. refused 13 0)
  walked_by (suc left) n = turn_at n >>= turned (λ m. walked_by left m)
