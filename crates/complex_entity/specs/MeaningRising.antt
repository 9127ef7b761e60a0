-- Sets as lists: what is in a list, and what rises strictly, over any comparison of two things.
use Rattle.std.specs.Prelude.{◌≡◌, List, [], ◌∷◌}
use Prim.Native.Nat.{Ordering}

-- a stands in a list
infix 50 ◌∈◌
pub data ◌∈◌ {A : Type 0} (a : A) : List A → Type 0 where
  here : {b : A} {l : List A} → a ≡ b → a ∈ (b ∷ l)
  there : {b : A} {l : List A} → a ∈ l → a ∈ (b ∷ l)

module _ {A : Type 0} (cmp : A → A → Ordering) where
  abbrev pub Lt : A → A → Type 0
  Lt a b = cmp a b ≡ Ordering.lt

  -- what each answer of the comparison says
  pub data View (a b : A) : Ordering → Type 0 where
    less : Lt a b → View a b Ordering.lt
    same : a ≡ b → View a b Ordering.eq
    more : Lt b a → View a b Ordering.gt

  -- the comparison is a total order: any two are less, same or more, never two of these
  pub record Order : Type 0 where
    pub view : (a b : A) → View a b (cmp a b)
    pub irrefl : (a : A) → Lt a a → ⊥
    pub trans : (a b c : A) → Lt a b → Lt b c → Lt a c

  -- a list rises strictly: each is less than all that come after it
  abbrev pub Below : A → List A → Type 0
  Below a l = (b : A) → b ∈ l → Lt a b

  pub data Rising : List A → Type 0 where
    empty : Rising []
    next : {a : A} {l : List A} → Below a l → Rising l → Rising (a ∷ l)
