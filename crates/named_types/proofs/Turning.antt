-- The walk by numbers, turn by turn: the laws of `walk`.
use mathlib.Core.Path.{◌≡◌, refl, sym, ap, ◌∙◌}
use mathlib.Core.List.{List}
use mathlib.Core.Bool.{Bool}
use Prim.Native.Nat.{ℕ, zero, suc, ◌-◌, ◌<◌, ◌≤◌}
use native.Mathlib.Omega.{arith}
use Rattle.refusal.specs.MeaningAnswer.{Answer, done, refused, ◌>>=◌}
use Rattle.refusal.specs.declared.Refusal.{Refusal}
use Rattle.grammar.specs.MeaningReading.{Reading}
use Rattle.schemas.specs.MeaningSchemas.{Schema}
use Rattle.named_types.specs.MirrorTypes.{stops, onto, turn_at, turned, walked_by}
use Rattle.std.specs.Prelude.{Result, Ok, Err}
use Rattle.refusal.specs.Told.{told, number_of}
use Rattle.refusal.specs.declared.Reason.TheVariants.{NamedThroughItself}
use Rattle.named_types.specs.MirrorCode.{told_turn}
use Rattle.named_types.specs.declared.Step.{Step}
use Rattle.named_types.specs.declared.Step.TheVariants.{Ends, Goes}

-- what is left of the walk answers what all of it does
pub record Turning (rd : Reading) (xs : List Schema) (at left : ℕ) (all : Answer Bool) : Type 0 where
  pub rest : walked_by rd xs (left - 1) at ≡ all

pub turning_start : (rd : Reading) (xs : List Schema) (number left most : ℕ) → left ≡ most → Turning rd xs number left (walked_by rd xs (most - 1) number)
turning_start rd xs number left most e = record { rest = rw e refl }

-- one turn
module _ (rd : Reading) (xs : List Schema) (at : ℕ) where
  one_turn : (n : ℕ) → (go : ℕ → Answer Bool) × (walked_by rd xs n at ≡ (turn_at rd xs at >>= turned rd xs go))
  unfolding walked_by
  one_turn zero = (λ m. refused 13 0, refl)
  one_turn (suc n) = (λ m. walked_by rd xs n m, refl)

  last_turn : (n m : ℕ) → n ≡ 0 → turn_at rd xs at ≡ done (onto m) → walked_by rd xs n at ≡ refused 13 0
  unfolding walked_by turned
  last_turn n m z e = rw (z, e) refl

  next_turn : (n k m : ℕ) → n ≡ suc k → turn_at rd xs at ≡ done (onto m) → walked_by rd xs n at ≡ walked_by rd xs k m
  unfolding walked_by turned
  next_turn n k m z e = rw (z, e) refl

module _ (rd : Reading) (xs : List Schema) (at left : ℕ) (all : Answer Bool) (T : Turning rd xs at left all) (o : Result Step Refusal) (w : told_turn o ≡ turn_at rd xs at) where
  pub turned_ends : (z : Step) (b : Bool) → o ≡ Ok z → z ≡ Ends b → told (Ok b) ≡ all
  unfolding turned
  turned_ends z b e f = let t : turn_at rd xs at ≡ done (stops b) = sym w ∙ ap told_turn (e ∙ ap Ok f) in sym ((one_turn rd xs at (left - 1)).1 ∙ rw t refl) ∙ T.rest

  pub turned_refused : (why : Refusal) → o ≡ Err why → told (Err why) ≡ all
  turned_refused why e = let z : turn_at rd xs at ≡ refused (number_of why.reason) why.place = sym w ∙ ap told_turn e in sym ((one_turn rd xs at (left - 1)).1 ∙ rw z refl) ∙ T.rest

  module _ (z : Step) (m : ℕ) (e : o ≡ Ok z) (f : z ≡ Goes m) where
    goes_to : turn_at rd xs at ≡ done (onto m)
    goes_to = sym w ∙ ap told_turn (e ∙ ap Ok f)

    pub turned_over : left ≤ 1 → (why : Refusal) → why ≡ record { reason = NamedThroughItself; place = 0 } → told (Err why) ≡ all
    turned_over h why k = rw k (sym (last_turn rd xs at (left - 1) m (omega arith) goes_to) ∙ T.rest)

    pub turned_on : (j : ℕ) → j < left → 1 ≤ j → Turning rd xs m (left - 1) all
    turned_on j h k = record { rest = sym (next_turn rd xs at (left - 1) (left - 1 - 1) m (omega arith) goes_to) ∙ T.rest }

pub ruleset turning = (turning_start, turned_ends, turned_refused, turned_over, turned_on)
