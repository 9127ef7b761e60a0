-- A question that is answered from the records: what was asked, what was gathered, and what is made of it.
use mathlib.Core.Path.{◌≡◌, refl, sym, ap, ◌∙◌}
use mathlib.Core.List.{List}
use Prim.Native.Nat.{ℕ, ◌≤◌}
use lib.ListN.{length}
use Rattle.refusal.specs.MeaningAnswer.{Answer, done, refused, mapped, ◌>>=◌}
use Rattle.std.specs.Prelude.{Result, Ok, Err}
use Rattle.refusal.specs.Told.{number_of, told_refusal, told_by}
use Rattle.refusal.specs.declared.Refusal.{Refusal}
use Rattle.grammar.specs.MeaningReading.{Reading}
use Rattle.grammar.proofs.Choosing.{clash}
use Rattle.declarations.specs.MeaningNamespace.{schemas_in}
use Rattle.namespace.specs.MeaningOrder.{Answers}
use Rattle.gathering.specs.MirrorGathering.{streams}
use Rattle.gathering.specs.declared.Streams.{Streams}
use Rattle.supertypes.specs.MeaningWorkspace.{enough}
use Rattle.supertypes.specs.MirrorStanding.{Both, Standing, Stood, Gathers}
use Rattle.supertypes.proofs.Answering.{answers_then}

-- ---- a question whose own answer is made of the records

module _ {A B T : Type 0} (rd : Reading) (s work : List ℕ) (asked : Answer T) (r : Result (T × Streams) Refusal) (work' : List ℕ) (g : Gathers rd s work asked r work') (o : Answer A) (f : T → A) (h : o ≡ mapped f asked)
    (own : A → Answer B) (k : T → Both → Answer B) (go : (t : T) → asked ≡ done t → own (f t) ≡ (streams rd (schemas_in s) >>= k t)) where
  gathered_then : Answers rd s (enough work) o own (g.both >>= λ (z : T × Both). k z.0 z.1)
  gathered_then = answers_then asked o f h (λ t. mapped (λ b. (t, b)) (streams rd (schemas_in s))) own (λ (z : T × Both). k z.0 z.1) (λ t e. go t e ∙ by t (streams rd (schemas_in s))) rd s (enough work) g.both g.is
    where
      by : (t : T) (m : Answer Both) → (m >>= k t) ≡ (mapped (λ (b : Both). (t, b)) m >>= λ (z : T × Both). k z.0 z.1)
      by t (done b) = refl
      by t (refused n p) = refl

  pub asked_refused : (why : Refusal) → r ≡ Err why → Answers rd s (enough work) o own (told_refusal why)
  asked_refused why e = rw (by g.both _ (sym (ap (told_by {B = T × ℕ × ℕ} (λ (z : T × Streams). (z.0, z.1.rules, z.1.used))) e) ∙ g.says)) at gathered_then
    where
      by : {C : Type 0} (m : Answer (T × Both)) (f : T × Both → C) → refused (number_of why.reason) why.place ≡ mapped f m → m ≡ refused (number_of why.reason) why.place
      by (done b) f z = clash (cc)
      by (refused n p) f z = cc

  pub asked_done : (z : T × Streams) → r ≡ Ok z → (y : Answer B) → ((b : Both) → Standing b z.1 work' → y ≡ k z.0 b) → Answers rd s (enough work) o own y
  asked_done z e y f = let i = g.stands z e in rw (i.1, ← f i.0 i.2) at gathered_then

-- records stand where they were gathered, and the sheet is short
module _ {T : Type 0} (rd : Reading) (s work : List ℕ) (asked : Answer T) (r : Result (T × Streams) Refusal) (work' : List ℕ) (g : Gathers rd s work asked r work') (z : T × Streams) (e : r ≡ Ok z) where
  pub gathered_stood : Stood z.1 work'
  gathered_stood = let i = g.stands z e in record { both = i.0; stands = i.2 }

  pub gathered_short : length s ≤ 65535
  gathered_short = (g.stands z e).3
