-- What is in the result of each operator on lists of parts.
use mathlib.Core.Path.{◌≡◌, refl, ◌∙◌, ap}
use mathlib.Core.Logic.{◌⊎◌, inl, inr}
use mathlib.Core.List.{List, [], ◌∷◌, ◌++◌, append-nil, map, flat_map, flatten}
use Prim.Native.Nat.{ℕ, compare}
use Rattle.complex_entity.specs.MeaningSets.{sort_in, tidy}
use Rattle.complex_entity.specs.MeaningRising.{◌∈◌, here, there, Rising}
use Rattle.complex_entity.specs.MeaningParts.{Part, order, join}
use Rattle.complex_entity.specs.MeaningLists.{add, joins}
use Rattle.complex_entity.proofs.Sets.{not_in_nil, sort_in_old, sort_in_new, sort_in_rising, tidy_old, tidy_new, tidy_rising, tidy_same, tidy_is, ext}
use Rattle.complex_entity.proofs.Orders.{nat_order, part_order}

-- ---- members of lists put together
pub ∈_append_left : {A : Type 0} {a : A} (k l : List A) → a ∈ k → a ∈ (k ++ l)
∈_append_left {A = A} {a = a} [] l x' = elim x' [ ]
∈_append_left (b ∷ k) l (here e) = here e
∈_append_left (b ∷ k) l (there m) = there (∈_append_left k l m)

pub ∈_append_right : {A : Type 0} {a : A} (k l : List A) → a ∈ l → a ∈ (k ++ l)
∈_append_right [] l m = m
∈_append_right (b ∷ k) l m = there (∈_append_right k l m)

pub ∈_append_cases : {A : Type 0} {a : A} (k l : List A) → a ∈ (k ++ l) → (a ∈ k) ⊎ (a ∈ l)
∈_append_cases [] l m = inr m
∈_append_cases (b ∷ k) l (here e) = inl (here e)
∈_append_cases (b ∷ k) l (there m) = elim (∈_append_cases k l m) [ inl i ↦ inl (there i) | inr j ↦ inr j ]

pub ∈_map : {A B : Type 0} (f : A → B) {a : A} {l : List A} → a ∈ l → f a ∈ map f l
∈_map f (here e) = here (ap f e)
∈_map f (there m) = there (∈_map f m)

pub ∈_of_map : {A B : Type 0} (f : A → B) {b : B} (l : List A) → b ∈ map f l → (a : A) × (a ∈ l) × (b ≡ f a)
∈_of_map {A = A} {B = B} f {b = b} [] x' = elim x' [ ]
∈_of_map f (x ∷ l) (here e) = (x, here refl, e)
∈_of_map f (x ∷ l) (there m) = let r = ∈_of_map f l m in (r.0, there r.1, r.2)

pub ∈_flatten : {A : Type 0} {a : A} {L : List A} {Ls : List (List A)} → L ∈ Ls → a ∈ L → a ∈ flatten Ls
unfolding flatten
∈_flatten {A = A} {a = a} {L = L} {Ls = []} x5 m = elim x5 [ ]
∈_flatten {L = L} {Ls = K ∷ Ks} (here e) m = ∈_append_left K (flatten Ks) (rw e at m)
∈_flatten {L = L} {Ls = K ∷ Ks} (there i) m = ∈_append_right K (flatten Ks) (∈_flatten i m)

pub ∈_of_flatten : {A : Type 0} {a : A} (Ls : List (List A)) → a ∈ flatten Ls → (L : List A) × (L ∈ Ls) × (a ∈ L)
unfolding flatten
∈_of_flatten {A = A} {a = a} [] m = elim m [ ]
∈_of_flatten (K ∷ Ks) m = elim (∈_append_cases K (flatten Ks) m) [
  | inl i ↦ (K, here refl, i)
  | inr j ↦ let r = ∈_of_flatten Ks j in (r.0, there r.1, r.2)
]

-- ---- `+`
pub add_old : (L K : List Part) {q : Part} → q ∈ add L K → (q ∈ L) ⊎ (q ∈ K)
add_old L K m = ∈_append_cases L K (tidy_old part_order (L ++ K) m)

pub add_left : (L K : List Part) {q : Part} → q ∈ L → q ∈ add L K
add_left L K m = tidy_new part_order (L ++ K) (∈_append_left L K m)

pub add_right : (L K : List Part) {q : Part} → q ∈ K → q ∈ add L K
add_right L K m = tidy_new part_order (L ++ K) (∈_append_right L K m)

pub add_rising : (L K : List Part) → Rising order (add L K)
add_rising L K = tidy_rising part_order (L ++ K)

-- nothing more, one part more, more in two steps
pub add_nil : {L : List Part} → Rising order L → add L [] ≡ L
add_nil {L} R = ap (tidy order) (append-nil L) ∙ tidy_is part_order R

pub add_one_part : {L : List Part} (p : Part) → Rising order L → add L (p ∷ []) ≡ sort_in order p L
add_one_part {L} p R = ext part_order (add_rising L (p ∷ [])) (sort_in_rising part_order p L R)
    (λ q m. elim (add_old L (p ∷ []) m) [ inl i ↦ sort_in_new part_order p L (inr i) | inr j ↦ elim j [ here e ↦ sort_in_new part_order p L (inl e) | there n ↦ absurd (not_in_nil n) ] ])
    (λ q m. elim (sort_in_old part_order p L m) [ inl e ↦ add_right L (p ∷ []) (here e) | inr i ↦ add_left L (p ∷ []) i ])

pub add_steps : (L J K : List Part) → add (add L J) K ≡ add L (J ++ K)
add_steps L J K = tidy_same part_order (add L J ++ K) (L ++ (J ++ K)) to fro
  where
    to : (q : Part) → q ∈ (add L J ++ K) → q ∈ (L ++ (J ++ K))
    to q m = elim (∈_append_cases (add L J) K m) [
      | inl n ↦ elim (add_old L J n) [ inl i ↦ ∈_append_left L (J ++ K) i | inr j ↦ ∈_append_right L (J ++ K) (∈_append_left J K j) ]
      | inr k ↦ ∈_append_right L (J ++ K) (∈_append_right J K k)
    ]

    fro : (q : Part) → q ∈ (L ++ (J ++ K)) → q ∈ (add L J ++ K)
    fro q m = elim (∈_append_cases L (J ++ K) m) [
      | inl i ↦ ∈_append_left (add L J) K (add_left L J i)
      | inr n ↦ elim (∈_append_cases J K n) [ inl j ↦ ∈_append_left (add L J) K (add_right L J j) | inr k ↦ ∈_append_right (add L J) K k ]
    ]

-- ---- joins of parts, and of each with each
pub join_old : (p q : Part) {n : ℕ} → n ∈ join p q → (n ∈ p) ⊎ (n ∈ q)
join_old p q m = ∈_append_cases p q (tidy_old nat_order (p ++ q) m)

pub join_new : (p q : Part) {n : ℕ} → (n ∈ p) ⊎ (n ∈ q) → n ∈ join p q
join_new p q (inl m) = tidy_new nat_order (p ++ q) (∈_append_left p q m)
join_new p q (inr m) = tidy_new nat_order (p ++ q) (∈_append_right p q m)

pub join_rising : (p q : Part) → Rising compare (join p q)
join_rising p q = tidy_rising nat_order (p ++ q)

pub join_comm : (p q : Part) → join p q ≡ join q p
join_comm p q = tidy_same nat_order (p ++ q) (q ++ p) (λ n m. turn p q (∈_append_cases p q m)) (λ n m. turn q p (∈_append_cases q p m))
  where
    turn : (a b : Part) {n : ℕ} → (n ∈ a) ⊎ (n ∈ b) → n ∈ (b ++ a)
    turn a b (inl m) = ∈_append_right b a m
    turn a b (inr m) = ∈_append_left b a m

pub join_self : (p : Part) → Rising compare p → join p p ≡ p
join_self p R = ext nat_order (join_rising p p) R (λ n m. elim (join_old p p m) [ inl i ↦ i | inr j ↦ j ]) (λ n m. join_new p p (inl m))

pub join_assoc : (p q r : Part) → join p (join q r) ≡ join (join p q) r
join_assoc p q r = ext nat_order (join_rising p (join q r)) (join_rising (join p q) r) to fro
  where
    to : (n : ℕ) → n ∈ join p (join q r) → n ∈ join (join p q) r
    to n m = elim (join_old p (join q r) m) [
      | inl i ↦ join_new (join p q) r (inl (join_new p q (inl i)))
      | inr k ↦ elim (join_old q r k) [ inl i ↦ join_new (join p q) r (inl (join_new p q (inr i))) | inr j ↦ join_new (join p q) r (inr j) ]
    ]

    fro : (n : ℕ) → n ∈ join (join p q) r → n ∈ join p (join q r)
    fro n m = elim (join_old (join p q) r m) [
      | inl k ↦ elim (join_old p q k) [ inl i ↦ join_new p (join q r) (inl i) | inr j ↦ join_new p (join q r) (inr (join_new q r (inl j))) ]
      | inr j ↦ join_new p (join q r) (inr (join_new q r (inr j)))
    ]

pub data Joined (L K : List Part) (r : Part) : Type 0 where
  joined : {p q : Part} → p ∈ L → q ∈ K → r ≡ join p q → Joined L K r

pub joins_old : (L K : List Part) {r : Part} → r ∈ joins L K → Joined L K r
unfolding flat_map
joins_old [] K {r = r} m = elim m [ ]
joins_old (p ∷ L) K m = elim (∈_append_cases (map (join p) K) (joins L K) m) [
  | inl n ↦ let x = ∈_of_map (join p) K n in joined (here refl) x.1 x.2
  | inr n ↦ elim (joins_old L K n) [ joined i j e ↦ joined (there i) j e ]
]

pub joins_new : (L K : List Part) {r : Part} → Joined L K r → r ∈ joins L K
unfolding flat_map
joins_new [] K (joined i j e) = absurd (not_in_nil i)
joins_new (p ∷ L) K (joined {q = q} (here d) j e) = ∈_append_left (map (join p) K) (joins L K) (rw (e ∙ ap (λ x. join x q) d) (∈_map (join p) j))
joins_new (p ∷ L) K (joined (there i) j e) = ∈_append_right (map (join p) K) (joins L K) (joins_new L K (joined i j e))
