-- A list that is longer than what it is taken from has something twice.
use mathlib.Core.Path.{◌≡◌, refl, sym, ap, ◌∙◌, subst}
use mathlib.Core.Logic.{◌⊎◌, inl, inr}
use mathlib.Core.List.{List, [], ◌∷◌}
use mathlib.Core.Bool.{Bool, true, false}
use Prim.Native.Nat.{ℕ, suc, ◌<◌}
use native.Mathlib.Omega.{arith}
use borrow.Author.Tests.{eqb-true, eq-eqb}
use lib.Dec.{eqb}
use lib.ListN.{length}
use Rattle.complex_entity.specs.MeaningRising.{◌∈◌}
use Rattle.complex_entity.specs.MeaningRising.◌∈◌.{here, there}
use Rattle.complex_entity.proofs.Sets.{not_in_nil}
use Rattle.grammar.proofs.Choosing.{clash}

pub data Twice {A : Type 0} : List A → Type 0 where
  now : {a : A} {l : List A} → a ∈ l → Twice (a ∷ l)
  later : {a : A} {l : List A} → Twice l → Twice (a ∷ l)

-- what is left of a list without one of its members
record Without {A : Type 0} (a : A) (l : List A) : Type 0 where
  others : List A
  fewer : length l ≡ suc (length others)
  rest : (b : A) → b ∈ l → (b ≡ a) ⊎ (b ∈ others)

without : {A : Type 0} {a : A} {l : List A} → a ∈ l → Without a l
without {A = A} {a = a} {l = []} x'' = elim x'' [ ]
without {a = a} {l = c ∷ l} (here e) = record { others = l; fewer = refl; rest = by }
  where
    by : (b : _) → b ∈ (c ∷ l) → (b ≡ a) ⊎ (b ∈ l)
    by b (here f) = inl (f ∙ sym e)
    by b (there m) = inr m
without {a = a} {l = c ∷ l} (there k) =
    let w = without k in
    record { others = c ∷ w.others; fewer = ap suc w.fewer; rest = by w }
  where
    by : (w : Without a l) → (b : _) → b ∈ (c ∷ l) → (b ≡ a) ⊎ (b ∈ (c ∷ w.others))
    by w b (here f) = inr (here f)
    by w b (there m) = on (w.rest b m)
      where
        on : (b ≡ a) ⊎ (b ∈ w.others) → (b ≡ a) ⊎ (b ∈ (c ∷ w.others))
        on (inl f) = inl f
        on (inr k) = inr (there k)

-- is the number among these?
among : (a : ℕ) (l : List ℕ) → (a ∈ l) ⊎ (a ∈ l → ⊥)
among a [] = inr not_in_nil
among a (b ∷ l) = by (eqb a b) refl (among a l)
  where
    by : (c : Bool) → eqb a b ≡ c → (a ∈ l) ⊎ (a ∈ l → ⊥) → (a ∈ (b ∷ l)) ⊎ (a ∈ (b ∷ l) → ⊥)
    by true e o = inl (here (eqb-true a b e))
    by false e (inl m) = inl (there m)
    by false e (inr d) = inr no_way
      where
        no_way : a ∈ (b ∷ l) → ⊥
        no_way (here f) = let z = eq-eqb a b f in clash (cc)
        no_way (there m) = d m

pub twice : (l from : List ℕ) → ((a : ℕ) → a ∈ l → a ∈ from) → length from < length l → Twice l
twice [] from f h = absurd (omega arith)
twice (a ∷ l) from f h = by (among a l) (λ others g z. twice l others g z)
  where
    off : (d : a ∈ l → ⊥) (w : Without a from) (b : ℕ) → b ∈ l → (b ≡ a) ⊎ (b ∈ w.others) → b ∈ w.others
    off d w b m (inl q) = absurd (d (subst (λ (z : ℕ). z ∈ l) q m))
    off d w b m (inr k) = k

    by : (a ∈ l) ⊎ (a ∈ l → ⊥) → ((others : List ℕ) → ((b : ℕ) → b ∈ l → b ∈ others) → length others < length l → Twice l) → Twice (a ∷ l)
    by (inl m) go = now m
    by (inr d) go =
        let w = without (f a (here refl)) in
        let e = w.fewer in
        later (go w.others (λ b m. off d w b m (w.rest b (f b (there m)))) (omega arith))
