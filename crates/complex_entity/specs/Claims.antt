-- What is proved of parts and lists, to be read without the proofs: each claim is a type, and proofs/Proved.antt has a member of each.
use Rattle.std.specs.Prelude.{◌≡◌, ◌⊎◌, ◌↔◌, List, [], ◌∷◌, length, T}
use Prim.Native.Nat.{ℕ, ◌≤◌, compare, Ordering}
use Rattle.refusal.specs.MeaningAnswer.{done}
use Rattle.complex_entity.specs.MeaningSets.{tidy}
use Rattle.complex_entity.specs.MeaningRising.{◌∈◌, Order, Rising}
use Rattle.complex_entity.specs.MeaningParts.{Part, order, join, new_of, contains, last_index}
use Rattle.complex_entity.specs.MeaningLists.{add, bitand, sub, div, equal, oneof, and, andor, held, and_of, andor_of}
use Rattle.complex_entity.specs.MirrorParts.{merge}
use Rattle.complex_entity.specs.MirrorLists.{andor_from}

-- ---- sets as lists

-- tidy sorts without repeats: the result rises strictly and has the same members
abbrev pub Tidies : Type 1
Tidies = (A : Type 0) (cmp : A → A → Ordering) → Order cmp → (l : List A) → Rising cmp (tidy cmp l) × ((q : A) → (q ∈ tidy cmp l) ↔ (q ∈ l))

-- and no other list does
abbrev pub MembersDecide : Type 1
MembersDecide = (A : Type 0) (cmp : A → A → Ordering) → Order cmp → (k l : List A) → Rising cmp k → Rising cmp l → ((q : A) → (q ∈ k) ↔ (q ∈ l)) → k ≡ l

-- ---- parts

-- any two parts are less, same or more, and the order is transitive
abbrev pub PartsOrdered : Type 0
PartsOrdered = Order order

-- a join has exactly the names of both, and is a part
abbrev pub JoinHasBoth : Type 0
JoinHasBoth = (p q : Part) → Rising compare (join p q) × ((n : ℕ) → (n ∈ join p q) ↔ ((n ∈ p) ⊎ (n ∈ q)))

-- A & A = A, A & B = B & A, A & (B & C) = (A & B) & C
abbrev pub JoinIdempotent : Type 0
JoinIdempotent = (p : Part) → Rising compare p → join p p ≡ p

abbrev pub JoinCommutes : Type 0
JoinCommutes = (p q : Part) → join p q ≡ join q p

abbrev pub JoinAssociates : Type 0
JoinAssociates = (p q r : Part) → join p (join q r) ≡ join (join p q) r

-- walking two parts together is joining them
abbrev pub MergeJoins : Type 0
MergeJoins = (p q : Part) → Rising compare p → Rising compare q → merge p q ≡ join p q

-- contains is inclusion
abbrev pub ContainsIs : Type 0
ContainsIs = (p q : Part) → T (contains p q) ↔ ((n : ℕ) → n ∈ q → n ∈ p)

-- what `new` answers is a part with the names given, none over 255 and at most 12
abbrev pub NewIs : Type 0
NewIs = (l : List ℕ) (p : Part) → new_of l ≡ done p → Rising compare p × ((n : ℕ) → (n ∈ p) ↔ (n ∈ l)) × ((n : ℕ) → n ∈ p → n ≤ last_index) × (length p ≤ 12)

-- and it takes every part
abbrev pub NewTakes : Type 0
NewTakes = (p : Part) → Rising compare p → ((n : ℕ) → n ∈ p → n ≤ last_index) → length p ≤ 12 → new_of p ≡ done p

-- ---- lists: what is in the result of each operator

abbrev pub Among : (List Part) → (Part → Type 0) → Type 0
Among L P = (q : Part) → (q ∈ L) ↔ P q

abbrev pub AddMembers : Type 0
AddMembers = (L K : List Part) → Rising order (add L K) × Among (add L K) (λ q. (q ∈ L) ⊎ (q ∈ K))

abbrev pub BitandMembers : Type 0
BitandMembers = (L K : List Part) → Rising order (bitand L K) × Among (bitand L K) (λ r. (p : Part) × (q : Part) × (p ∈ L) × (q ∈ K) × (r ≡ join p q))

abbrev pub EqualIs : Type 0
EqualIs = (p q : Part) → T (equal p q) ↔ (p ≡ q)

abbrev pub SubMembers : Type 0
SubMembers = (L K : List Part) → Among (sub L K) (λ q. (q ∈ L) × (q ∈ K → ⊥))

abbrev pub DivMembers : Type 0
DivMembers = (L K : List Part) → Among (div L K) (λ p. (p ∈ L) × ((q : Part) × (q ∈ K) × T (contains p q)))

-- a part of one of the lists; the join of a part from every list; the join of one part each from one or more lists
pub data One : List (List Part) → Part → Type 0 where
  this : {L : List Part} {Ls : List (List Part)} {q : Part} → q ∈ L → One (L ∷ Ls) q
  later : {L : List Part} {Ls : List (List Part)} {q : Part} → One Ls q → One (L ∷ Ls) q

pub data Every : List (List Part) → Part → Type 0 where
  last : {L : List Part} {q : Part} → q ∈ L → Every (L ∷ []) q
  with_rest : {L : List Part} {Ls : List (List Part)} {p q r : Part} → p ∈ L → Every Ls q → r ≡ join p q → Every (L ∷ Ls) r

pub data Some : List (List Part) → Part → Type 0 where
  only : {L : List Part} {Ls : List (List Part)} {q : Part} → q ∈ L → Some (L ∷ Ls) q
  without : {L : List Part} {Ls : List (List Part)} {q : Part} → Some Ls q → Some (L ∷ Ls) q
  with_it : {L : List Part} {Ls : List (List Part)} {p q r : Part} → p ∈ L → Some Ls q → r ≡ join p q → Some (L ∷ Ls) r

abbrev pub OneofMembers : Type 0
OneofMembers = (Ls : List (List Part)) → Rising order (oneof Ls) × Among (oneof Ls) (One Ls)

abbrev pub AndMembers : Type 0
AndMembers = (Ls : List (List Part)) → Among (and Ls) (Every Ls)

abbrev pub AndorMembers : Type 0
AndorMembers = (Ls : List (List Part)) → Rising order (andor Ls) × Among (andor Ls) (Some Ls)

-- factor by factor is over every nonempty choice
abbrev pub AndorSteps : Type 0
AndorSteps = (Ls : List (List Part)) → andor_from [] Ls ≡ andor Ls

-- ---- lists: what is answered is that list, within the limits

abbrev pub HeldIs : Type 0
HeldIs = (L K : List Part) → (held L ≡ done K) ↔ ((K ≡ L) × (length L ≤ 128) × ((p : Part) → p ∈ L → length p ≤ 12))

abbrev pub AndIs : Type 0
AndIs = (Ls : List (List Part)) (K : List Part) → and_of Ls ≡ done K → K ≡ and Ls

abbrev pub AndorIs : Type 0
AndorIs = (Ls : List (List Part)) (K : List Part) → andor_of Ls ≡ done K → K ≡ andor Ls
