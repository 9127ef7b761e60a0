-- The order of refusals: `cleared`, and what it says of every question.
use mathlib.Core.Path.{◌≡◌, refl, sym, ap, ◌∙◌}
use mathlib.Core.List.{List}
use mathlib.Core.Bool.{Bool, true, false, not}
use Prim.Native.Nat.{ℕ, ◌<◌, ◌≤◌}
use borrow.Author.Tests.{le-leb, lt-leb, leb-true, not-true, not-false}
use lib.Dec.{leb}
use lib.ListN.{length}
use Rattle.std.specs.Prelude.{Result, Ok, Err}
use Rattle.refusal.specs.MeaningAnswer.{Answer, done, refused, mapped, or_else, ◌>>=◌}
use Rattle.refusal.specs.Told.{told_refusal, told}
use Rattle.refusal.specs.declared.Reason.TheVariants.{SheetTooLong, WorkspaceTooShort}
use Rattle.refusal.specs.declared.Refusal.{Refusal}
use Rattle.grammar.specs.MeaningReading.{Reading}
use Rattle.grammar.specs.MeaningGrammar.{most_bytes}
use Rattle.sheet.specs.MeaningSheet.{Is}
use Rattle.sheet.specs.Promises.{PromiseVerdict}
use Rattle.sheet.specs.Claims.{AllBytes}
use Rattle.grammar.proofs.Choosing.{clash}
use Rattle.sheet.proofs.Proved.{one_verdict, some_verdict}
use Rattle.namespace.specs.MeaningOrder.{in_order, Answers}

-- ---- each way through `cleared`

nothing_more : {A : Type 0} (o : Answer A) → (o >>= done) ≡ o
nothing_more (done a) = refl
nothing_more (refused n p) = refl

module _ {T : Type 0} (rd : Reading) (s : List ℕ) (long : Bool) (asked : Result T Refusal) where
  pub clear_over : AllBytes s → most_bytes < length s → (why : Refusal) → why ≡ record { reason = SheetTooLong; place = 0 } → Answers rd s long (told asked) done (told {A = T} (Err why))
  unfolding Answers in_order
  clear_over bytes h why e = let v = some_verdict rd s bytes in (v.0, v.1, rw (e, lt-leb (length s) most_bytes h) refl)

  module _ (h : length s ≤ most_bytes) where
    pub clear_room : AllBytes s → not long ≡ true → (why : Refusal) → why ≡ record { reason = WorkspaceTooShort; place = 0 } → Answers rd s long (told asked) done (told {A = T} (Err why))
    unfolding Answers in_order
    clear_room bytes l why e = let v = some_verdict rd s bytes in (v.0, v.1, rw (e, le-leb (length s) most_bytes h, not-true long l) refl)

    module _ (l : not long ≡ false) (j : Result (Unit {0}) Refusal) (q : PromiseVerdict rd s j) where
      pub clear_faulty : (why : Refusal) → j ≡ Err why → (x : Result T Refusal) → x ≡ Err why → Answers rd s long (told asked) done (told x)
      unfolding Answers in_order PromiseVerdict
      clear_faulty why e x f = rw f (told_refusal why, rw e at q, rw (le-leb (length s) most_bytes h, not-false long l) refl)

      pub clear_through : (u : Unit {0}) → j ≡ Ok u → Answers rd s long (told asked) done (told asked)
      unfolding Answers in_order PromiseVerdict
      clear_through u e = (done u, rw e at q, rw (le-leb (length s) most_bytes h, not-false long l) (sym (nothing_more (told asked))))

pub ruleset clearing = (clear_faulty, clear_through)

-- ---- a question by what `cleared` answers: o is what is asked in the paper's terms, which f makes of what the code holds; or why it is refused

-- what `cleared` answers, with the tests for 1 and 2
abbrev clears : {T : Type 0} → Bool → Bool → Answer (Unit {0}) → Answer T → Answer T
clears short long v o = or_else 1 short (or_else 2 long (v >>= λ y. o >>= done))

refused_by : {T A B : Type 0} (f : T → A) (own : A → Answer B) (short long : Bool) (v : Answer (Unit {0})) (o : Answer T) (n p : ℕ) → refused n p ≡ clears short long v o → refused n p ≡ or_else 1 short (or_else 2 long (v >>= λ y. mapped f o >>= own))
refused_by f own false long v o n p e = let i : n ≡ 1 = cc in let j : p ≡ 0 = cc in rw (i, j) refl
refused_by f own true false v o n p e = let i : n ≡ 2 = cc in let j : p ≡ 0 = cc in rw (i, j) refl
refused_by f own true true (refused m q) o n p e = let i : n ≡ m = cc in let j : p ≡ q = cc in rw (i, j) refl
refused_by f own true true (done u) (refused m q) n p e = let i : n ≡ m = cc in let j : p ≡ q = cc in rw (i, j) refl
refused_by f own true true (done u) (done t) n p e = clash (cc)

-- nothing stands in the way
abbrev Through : {T : Type 0} → Reading → List ℕ → Bool → Bool → Answer T → T → Type 0
Through rd s short long o t = (short ≡ true) × (long ≡ true) × Is rd s (done tt) × (o ≡ done t)

done_by : {T : Type 0} (rd : Reading) (s : List ℕ) (short long : Bool) (v : Answer (Unit {0})) (o : Answer T) (t : T) → Is rd s v → done t ≡ clears short long v o → Through rd s short long o t
done_by rd s false long v o t i e = clash (cc)
done_by rd s true false v o t i e = clash (cc)
done_by rd s true true (refused m q) o t i e = clash (cc)
done_by rd s true true (done u) (refused m q) t i e = clash (cc)
done_by rd s true true (done u) (done a) t i e = (refl, refl, i, sym e)

module _ {T : Type 0} (rd : Reading) (s : List ℕ) (long : Bool) (asked r : Answer T) (c : Answers rd s long asked done r) where
  pub refused_first : {A B : Type 0} (o : Answer A) (f : T → A) → o ≡ mapped f asked → (own : A → Answer B) (n p : ℕ) → r ≡ refused n p → Answers rd s long o own (refused n p)
  unfolding Answers in_order
  refused_first o f h own n p e = (c.0, c.1, rw h (refused_by f own (leb (length s) most_bytes) long c.0 asked n p (rw e at c.2)))

  module _ (t : T) (e : r ≡ done t) where
    through : Through rd s (leb (length s) most_bytes) long asked t
    unfolding Answers in_order
    through = done_by rd s (leb (length s) most_bytes) long c.0 asked t c.1 (rw e at c.2)

    pub cleared_short : length s ≤ 65535
    cleared_short = leb-true (length s) most_bytes through.0

    pub cleared_accepted : Is rd s (done tt)
    cleared_accepted = through.2

    pub cleared_long : long ≡ true
    cleared_long = through.1

    pub cleared_asked : asked ≡ done t
    cleared_asked = through.3

    -- then the question's own answer counts
    pub cleared_own : {A B : Type 0} (o : Answer A) (f : T → A) → o ≡ mapped f asked → (own : A → Answer B) (b : Answer B) → b ≡ own (f t) → Answers rd s long o own b
    unfolding Answers in_order
    cleared_own o f h own b g = (done tt, cleared_accepted, g ∙ sym (rw (through.0, through.1, h, cleared_asked) refl))

-- one question allows one answer
pub answers_once : {A B : Type 0} (rd : Reading) (s : List ℕ) (long : Bool) (o : Answer A) (own : A → Answer B) (x y : Answer B) → Answers rd s long o own x → Answers rd s long o own y → x ≡ y
unfolding Answers
answers_once rd s long o own x y a b = a.2 ∙ ap (λ (v : Answer (Unit {0})). in_order s long v o own) (one_verdict rd s a.0 b.0 a.1 b.1) ∙ sym b.2
