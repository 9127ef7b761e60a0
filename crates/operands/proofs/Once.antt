-- Different answers say different things, so a promise allows one outcome.
use Prim.Native.Nat.{ℕ}
use mathlib.Core.Path.{◌≡◌, sym, ap, ◌∙◌}
use mathlib.Core.List.{List}
use Rattle.refusal.specs.MeaningAnswer.{Answer}
use Rattle.refusal.specs.Told.{told_refusal}
use Rattle.refusal.specs.declared.Refusal.{Refusal}
use Rattle.refusal.proofs.Same.{same_refusal}
use Rattle.complex_entity.specs.MeaningParts.{Part}
use Rattle.instantiables.specs.declared.Instantiables.{Instantiables}
use Rattle.std.specs.Prelude.{Result, Ok, Err}
use Rattle.instantiables.specs.Told.{told_listed}
use Rattle.operands.specs.Promises.{Answers}
use Rattle.operands.proofs.Cuts.{clash}

pub refusal_once : {A : Type 0} (a b : Refusal) → ◌≡◌ {A = Answer A} (told_refusal a) (told_refusal b) → a ≡ b
refusal_once a b e = same_refusal a b (cc) (cc)

listed_once : (r s : Result Instantiables Refusal) → told_listed r ≡ told_listed s → r ≡ s
listed_once (Ok a) (Ok b) e =
    let n : a.count ≡ b.count = cc in
    ap (λ (l : Instantiables). Ok l) (λ i. record { count = n i })
listed_once (Ok a) (Err b) e = clash (cc)
listed_once (Err a) (Ok b) e = clash (cc)
listed_once (Err a) (Err b) e = ap (λ (w : Refusal). Err w) (refusal_once a b e)

pub answers_once : (o : Answer (List Part)) (out : List ℕ) (r s : Result Instantiables Refusal) (a b : List ℕ) → Answers o out r a → Answers o out s b → (r ≡ s) × (a ≡ b)
answers_once o out r s a b p q = (listed_once r s (p.says ∙ sym q.says), p.buffer ∙ sym q.buffer)
