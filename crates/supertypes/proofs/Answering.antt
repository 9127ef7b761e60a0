-- Answers in their order: a question that goes on from another's answer.
use mathlib.Core.Path.{◌≡◌, refl, sym, ap, ◌∙◌}
use mathlib.Core.List.{List}
use mathlib.Core.Bool.{Bool, true, false}
use Prim.Native.Nat.{ℕ}
use lib.Dec.{leb}
use lib.ListN.{length}
use Rattle.refusal.specs.MeaningAnswer.{Answer, done, refused, mapped, or_else, ◌>>=◌}
use Rattle.grammar.specs.MeaningReading.{Reading}
use Rattle.grammar.specs.MeaningGrammar.{most_bytes}
use Rattle.namespace.specs.MeaningOrder.{in_order, Answers}

-- of the same that was asked, or of less

module _ {A B C T : Type 0} (asked : Answer T) (o : Answer A) (f : T → A) (h : o ≡ mapped f asked) (own : T → Answer C) (own' : A → Answer B) (k : C → Answer B) (go : (t : T) → asked ≡ done t → own' (f t) ≡ (own t >>= k)) where
  asked_then : (o >>= own') ≡ ((asked >>= own) >>= k)
  asked_then = rw h (by asked refl)
    where
      by : (z : Answer T) → asked ≡ z → (mapped f z >>= own') ≡ ((z >>= own) >>= k)
      by (done t) e = go t e
      by (refused n p) e = refl

  in_turn_then : (short long : Bool) (v : Answer (Unit {0})) → or_else 1 short (or_else 2 long (v >>= λ y. o >>= own')) ≡ (or_else 1 short (or_else 2 long (v >>= λ y. asked >>= own)) >>= k)
  in_turn_then false long v = refl
  in_turn_then true false v = refl
  in_turn_then true true (refused n p) = refl
  in_turn_then true true (done u) = asked_then

  pub answers_then : (rd : Reading) (s : List ℕ) (long : Bool) (x : Answer C) → Answers rd s long asked own x → Answers rd s long o own' (x >>= k)
  unfolding Answers in_order
  answers_then rd s long x a = (a.0, a.1, ap (λ (y : Answer C). y >>= k) a.2 ∙ sym (in_turn_then (leb (length s) most_bytes) long a.0))
