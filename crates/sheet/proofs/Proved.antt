-- The claims of specs/Claims.antt, and what `verdict` cites.
use mathlib.Core.Path.{◌≡◌, refl, ap, ap₂, sym}
use mathlib.Core.Logic.{inl, inr}
use mathlib.Core.List.{List}
use Prim.Native.Nat.{ℕ}
use native.Mathlib.Omega.{arith}
use Rattle.refusal.specs.declared.Refusal.{Refusal}
use Rattle.std.specs.Prelude.{Result, Ok, Err}
use Rattle.refusal.specs.MeaningAnswer.{Answer, done, refused}
use Rattle.refusal.specs.Told.{number_of, told}
use Rattle.refusal.proofs.Same.{same_refusal}
use Rattle.grammar.specs.MeaningReading.{Reading}
use Rattle.sheet.specs.MeaningSheet.{NotAfter, Is}
use Rattle.sheet.specs.Promises.{PromiseVerdict}
use Rattle.sheet.specs.Claims.{AllBytes, OneVerdict, SomeVerdict, RefusesExactly, AcceptsExactly, ToldInjective, VerdictOnce}
use Rattle.sheet.specs.MirrorCheck.{sheet_check}
use Rattle.sheet.specs.declared.Counts.{Counts}
use Rattle.grammar.proofs.Choosing.{clash}
use Rattle.sheet.proofs.FirstFault.{check_refuses, check_accepts}

antisym : (n p m q : ℕ) → NotAfter n p m q → NotAfter m q n p → (n ≡ m) × (p ≡ q)
antisym n p m q (inl a) (inl b) = absurd (let y : ⊥ = omega arith in y)
antisym n p m q (inl a) (inr b) = absurd (let y : ⊥ = omega arith in y)
antisym n p m q (inr a) (inl b) = absurd (let y : ⊥ = omega arith in y)
antisym n p m q (inr a) (inr b) = (omega arith, a.0)

pub one_verdict : OneVerdict
one_verdict rd s (done u) (done w) x y = refl
one_verdict rd s (done u) (refused n p) x y = absurd (x n p y.0)
one_verdict rd s (refused n p) (done u) x y = absurd (y n p x.0)
one_verdict rd s (refused n p) (refused m q) x y = let e = antisym n p m q (x.1 m q y.0) (y.1 n p x.0) in ap₂ refused e.0 e.1

pub some_verdict : SomeVerdict
some_verdict rd s bytes = go (sheet_check rd s) refl
  where
    go : (r : Answer Counts) → sheet_check rd s ≡ r → (v : Answer (Unit {0})) × Is rd s v
    go (done c) q = (done tt, check_accepts rd s bytes c q)
    go (refused n p) q = (refused n p, check_refuses rd s bytes n p q)

pub refuses_exactly : RefusesExactly
unfolding PromiseVerdict
refuses_exactly rd s r h n p = (λ q. rw q at h, λ x. one_verdict rd s (told r) (refused n p) h x)

pub accepts_exactly : AcceptsExactly
unfolding PromiseVerdict
accepts_exactly rd s r h = (λ q. rw q at h, λ x. one_verdict rd s (told r) (done tt) h x)

pub told_injective : ToldInjective
told_injective (Ok u) (Ok w) q = refl
told_injective (Ok u) (Err r') q = clash (cc)
told_injective (Err r) (Ok w) q = clash (cc)
told_injective (Err r) (Err r') q = ap Err (same_refusal r r' (cc) (cc))

pub verdict_once : VerdictOnce
unfolding PromiseVerdict
verdict_once rd s r r' x y = told_injective r r' (one_verdict rd s (told r) (told r') x y)

-- ---- what the check answers, `verdict` promises

module _ (rd : Reading) (s : List ℕ) (bytes : AllBytes s) (r : Result Counts Refusal) (q : told r ≡ sheet_check rd s) where
  pub verdict_accepted : (c : Counts) → r ≡ Ok c → PromiseVerdict rd s (Ok tt)
  unfolding PromiseVerdict
  verdict_accepted c h = check_accepts rd s bytes c (rw h at (sym q))

  pub verdict_refused : (x : Refusal) → r ≡ Err x → PromiseVerdict rd s (Err x)
  unfolding PromiseVerdict
  verdict_refused x h = check_refuses rd s bytes (number_of x.reason) x.place (rw h at (sym q))
