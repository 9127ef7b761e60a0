-- What a question answers: a value, or a refusal with a number and a place.
use Rattle.std.specs.Prelude.{ℕ, Bool, true, false}

pub data Answer (A : Type 0) : Type 0 where
  done : A → Answer A
  -- its number, then its place
  refused : ℕ → ℕ → Answer A

-- "a routine that gets a refusal from below hands it up unaltered"
infixl 20 ◌>>=◌
abbrev pub ◌>>=◌ : {A B : Type 0} → Answer A → (A → Answer B) → Answer B
◌>>=◌ (done a) f = f a
◌>>=◌ (refused n place) f = refused n place

-- f of the value, if there is one
abbrev pub mapped : {A B : Type 0} → (A → B) → Answer A → Answer B
mapped f (done a) = done (f a)
mapped f (refused n place) = refused n place

-- the answer, if the test holds; otherwise the refusal n without a place, which is place 0
abbrev pub or_else : {A : Type 0} → ℕ → Bool → Answer A → Answer A
or_else n true r = r
or_else n false r = refused n 0
