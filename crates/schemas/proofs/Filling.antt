-- What a filled line says of its first field, a law for each kind of slot; and which tags its fields can have.
use mathlib.Core.Path.{◌≡◌, refl, subst}
use mathlib.Core.List.{List, [], ◌∷◌, ◌++◌}
use mathlib.Core.Logic.{◌⊎◌, inl, inr}
use mathlib.Core.Bool.{Bool, true, false, cond}
use Prim.Native.Nat.{ℕ}
use borrow.Author.Tests.{eqb-true}
use lib.Dec.{eqb}
use Rattle.grammar.proofs.Sequences.{in_left, in_right}
use Rattle.grammar.specs.MeaningGrammar.{one_of, Slot, needed, again, Fills}
use Rattle.grammar.specs.MeaningGrammar.Often.{one, at_most_one, any}
use Rattle.grammar.specs.MeaningGrammar.Fills.{done, skip, last, more}
use Rattle.grammar.proofs.Choosing.{clash, opposed}

-- ---- a tag that is one of some, tried one by one

abbrev pub Tried : (ℕ → Type 0) → List ℕ → Type 0 → Type 0
Tried P [] C = C
Tried P (t ∷ ts) C = P t → Tried P ts C

known : (P : ℕ → Type 0) (ts : List ℕ) (C : Type 0) → C → Tried P ts C
known P [] C c = c
known P (t ∷ ts) C c = λ _. known P ts C c

pub choose : (P : ℕ → Type 0) (ts : List ℕ) (u : ℕ) → one_of ts u ≡ true → Tried P ts (P u)
unfolding one_of
choose P [] u q = clash (cc)
choose P (t ∷ ts) u q = λ x. go (eqb t u) refl q (choose P ts u) x
  where
    go : (b : Bool) → eqb t u ≡ b → cond b true (one_of ts u) ≡ true → (one_of ts u ≡ true → Tried P ts (P u)) → P t → Tried P ts (P u)
    go true k r i x = known P ts (P u) (subst P (eqb-true t u k) x)
    go false k r i x = i r

-- ---- the first field of a value, by the first slot of its line

pub no_more : {us : List ℕ} → Fills [] us → us ≡ []
no_more done = refl

module _ {x : Slot} {xs : List Slot} where
  -- "one": it stands there
  pub one_none : x.often ≡ one → Fills (x ∷ xs) [] → ⊥
  unfolding needed
  one_none q (skip n f) = clash (let z : needed one ≡ false = rw q at n in cc)

  pub one_first : {u : ℕ} {us : List ℕ} → x.often ≡ one → Fills (x ∷ xs) (u ∷ us) → (one_of x.tags u ≡ true) × Fills xs us
  unfolding needed again
  one_first q (skip n f) = clash (let z : needed one ≡ false = rw q at n in cc)
  one_first q (last k f) = (k, f)
  one_first q (more a k f) = clash (let z : again one ≡ true = rw q at a in cc)

  -- "at most one": it stands there, or there is none
  pub some_first : {u : ℕ} {us : List ℕ} → x.often ≡ at_most_one → Fills (x ∷ xs) (u ∷ us) → ((one_of x.tags u ≡ true) × Fills xs us) ⊎ Fills xs (u ∷ us)
  unfolding again
  some_first q (skip n f) = inr f
  some_first q (last k f) = inl (k, f)
  some_first q (more a k f) = clash (let z : again at_most_one ≡ true = rw q at a in cc)

  -- "any": one stands there, and more may follow; or there is none
  pub any_first : {u : ℕ} {us : List ℕ} → x.often ≡ any → Fills (x ∷ xs) (u ∷ us) → ((one_of x.tags u ≡ true) × Fills (x ∷ xs) us) ⊎ Fills xs (u ∷ us)
  unfolding needed
  any_first q (skip n f) = inr f
  any_first q (last k f) = inl (k, skip {x = x} (let z : needed x.often ≡ false = rw q refl in z) f)
  any_first q (more a k f) = inl (k, f)

-- ---- the only slot of a line

module _ {x : Slot} {u : ℕ} {us : List ℕ} where
  pub any_only : x.often ≡ any → Fills (x ∷ []) (u ∷ us) → (one_of x.tags u ≡ true) × Fills (x ∷ []) us
  any_only q F = go (any_first q F)
    where
      go : ((one_of x.tags u ≡ true) × Fills (x ∷ []) us) ⊎ Fills [] (u ∷ us) → (one_of x.tags u ≡ true) × Fills (x ∷ []) us
      go (inl y) = y
      go (inr y) = clash (let z = no_more y in cc)

  pub few_only : again x.often ≡ false → Fills (x ∷ []) (u ∷ us) → (one_of x.tags u ≡ true) × (us ≡ [])
  few_only q (skip n f) = clash (let z = no_more f in cc)
  few_only q (last k f) = (k, no_more f)
  few_only q (more a k f) = opposed a q

-- ---- the tags that a line lets stand

abbrev pub tags_of : List Slot → List ℕ
tags_of [] = []
tags_of (x ∷ xs) = x.tags ++ tags_of xs

abbrev pub All : List ℕ → List ℕ → Type 0
All ts [] = Unit {0}
All ts (u ∷ us) = (one_of ts u ≡ true) × All ts us

wider : (ts ws us : List ℕ) → All ws us → All (ts ++ ws) us
wider ts ws [] x = tt
wider ts ws (u ∷ us) x = (in_right ts ws u x.0, wider ts ws us x.1)

pub all_in : {xs : List Slot} {us : List ℕ} → Fills xs us → All (tags_of xs) us
all_in done = tt
all_in (skip {x = x} {xs = xs} {ts = us} n f) = wider x.tags (tags_of xs) us (all_in f)
all_in (last {x = x} {xs = xs} {t = u} {ts = us} k f) = (in_left x.tags (tags_of xs) u k, wider x.tags (tags_of xs) us (all_in f))
all_in (more {x = x} {xs = xs} {t = u} {ts = us} a k f) = (in_left x.tags (tags_of xs) u k, all_in f)
