-- ONEOF, AND and ANDOR: what is in them, and that ANDOR factor by factor is ANDOR over every nonempty choice.
use mathlib.Core.Path.{◌≡◌, refl, sym, ◌∙◌, ap}
use mathlib.Core.Logic.{inl, inr}
use mathlib.Core.List.{List, [], ◌∷◌, ◌++◌, map, flatten}
use Rattle.complex_entity.specs.MeaningRising.{◌∈◌, here, there, Rising, empty}
use Rattle.complex_entity.specs.MeaningParts.{Part, order, join}
use Rattle.complex_entity.specs.MeaningLists.{joins, bitand, oneof, and_from, and, choices, andor}
use Rattle.complex_entity.specs.MirrorLists.{grown, andor_from}
use Rattle.complex_entity.specs.Claims.{One, this, later, Every, last, with_rest, Some, only, without, with_it}
use Rattle.complex_entity.proofs.Sets.{not_in_nil, tidy_old, tidy_new, tidy_rising, ext}
use Rattle.complex_entity.proofs.Orders.{part_order}
use Rattle.complex_entity.proofs.Members.{∈_append_left, ∈_append_right, ∈_append_cases, ∈_map, ∈_of_map, ∈_flatten, ∈_of_flatten, add_old, add_left, add_right, add_rising, Joined, joined, joins_old, joins_new, join_assoc}

-- ---- ONEOF
one_in : {Ls : List (List Part)} {q : Part} → One Ls q → (L : List Part) × (L ∈ Ls) × (q ∈ L)
one_in (this {L = L} m) = (L, here refl, m)
one_in (later o) = let r = one_in o in (r.0, there r.1, r.2)

in_one : {L : List Part} {Ls : List (List Part)} {q : Part} → L ∈ Ls → q ∈ L → One Ls q
in_one {L} (here e) m = this (rw e at m)
in_one (there i) m = later (in_one i m)

pub oneof_old : (Ls : List (List Part)) {q : Part} → q ∈ oneof Ls → One Ls q
oneof_old Ls m = let r = ∈_of_flatten Ls (tidy_old part_order (flatten Ls) m) in in_one r.1 r.2

pub oneof_new : (Ls : List (List Part)) {q : Part} → One Ls q → q ∈ oneof Ls
oneof_new Ls o = let r = one_in o in tidy_new part_order (flatten Ls) (∈_flatten r.1 r.2)

pub oneof_rising : (Ls : List (List Part)) → Rising order (oneof Ls)
oneof_rising Ls = tidy_rising part_order (flatten Ls)

-- ---- AND
bitand_old : (L K : List Part) {r : Part} → r ∈ bitand L K → Joined L K r
bitand_old L K m = joins_old L K (tidy_old part_order (joins L K) m)

bitand_new : (L K : List Part) {r : Part} → Joined L K r → r ∈ bitand L K
bitand_new L K j = tidy_new part_order (joins L K) (joins_new L K j)

regroup_every : (L K : List Part) (Ks : List (List Part)) {r : Part} → Every (bitand L K ∷ Ks) r → Every (L ∷ K ∷ Ks) r
regroup_every L K Ks (last m) = elim (bitand_old L K m) [ joined i j e ↦ with_rest i (last j) e ]
regroup_every L K Ks (with_rest {q = s} m a e) = go (bitand_old L K m) e
  where
    go : {p r : Part} → Joined L K p → r ≡ join p s → Every (L ∷ K ∷ Ks) r
    go (joined {p = p} {q = k} i j d) e = with_rest i (with_rest j a refl) (e ∙ ap (λ x. join x s) d ∙ sym (join_assoc p k s))

split_every : (L K : List Part) (Ks : List (List Part)) {r : Part} → Every (L ∷ K ∷ Ks) r → Every (bitand L K ∷ Ks) r
split_every L K Ks (with_rest i (last j) e) = last (bitand_new L K (joined i j e))
split_every L K Ks (with_rest {p = p} i (with_rest {p = k} {q = s} j a d) e) =
    with_rest (bitand_new L K (joined i j refl)) a (e ∙ ap (join p) d ∙ join_assoc p k s)

every_none : {q : Part} → Every [] q → ⊥
every_none a = elim a [ ]

and_from_old : (L : List Part) (Ls : List (List Part)) {q : Part} → q ∈ and_from L Ls → Every (L ∷ Ls) q
and_from_old L [] m = last m
and_from_old L (K ∷ Ks) m = regroup_every L K Ks (and_from_old (bitand L K) Ks m)

and_from_new : (L : List Part) (Ls : List (List Part)) {q : Part} → Every (L ∷ Ls) q → q ∈ and_from L Ls
and_from_new L [] (last m) = m
and_from_new L [] (with_rest m a e) = absurd (every_none a)
and_from_new L (K ∷ Ks) a = and_from_new (bitand L K) Ks (split_every L K Ks a)

pub and_old : (Ls : List (List Part)) {q : Part} → q ∈ and Ls → Every Ls q
and_old [] m = absurd (not_in_nil m)
and_old (L ∷ Ls) m = and_from_old L Ls m

pub and_new : (Ls : List (List Part)) {q : Part} → Every Ls q → q ∈ and Ls
and_new [] a = absurd (every_none a)
and_new (L ∷ Ls) a = and_from_new L Ls a

-- ---- ANDOR, factor by factor
data Grown (L T : List Part) (r : Part) : Type 0 where
  from_left : r ∈ L → Grown L T r
  from_right : r ∈ T → Grown L T r
  from_both : Joined L T r → Grown L T r

grown_old : (L T : List Part) {r : Part} → r ∈ grown L T → Grown L T r
unfolding grown
grown_old L T m = elim (add_old L (joins L T ++ T) m) [
  | inl i ↦ from_left i
  | inr n ↦ elim (∈_append_cases (joins L T) T n) [ inl j ↦ from_both (joins_old L T j) | inr k ↦ from_right k ]
]

grown_new : (L T : List Part) {r : Part} → Grown L T r → r ∈ grown L T
unfolding grown
grown_new L T (from_left m) = add_left L (joins L T ++ T) m
grown_new L T (from_right m) = add_right L (joins L T ++ T) (∈_append_right (joins L T) T m)
grown_new L T (from_both j) = add_right L (joins L T ++ T) (∈_append_left (joins L T) T (joins_new L T j))

regroup_some : (L T : List Part) (Ts : List (List Part)) {r : Part} → Some (grown L T ∷ Ts) r → Some (L ∷ T ∷ Ts) r
regroup_some L T Ts (only m) = elim (grown_old L T m) [
  | from_left i ↦ only i
  | from_right j ↦ without (only j)
  | from_both x ↦ elim x [ joined i j e ↦ with_it i (only j) e ]
]
regroup_some L T Ts (without s) = without (without s)
regroup_some L T Ts (with_it {q = s} m a e) = go (grown_old L T m) e
  where
    go : {p r : Part} → Grown L T p → r ≡ join p s → Some (L ∷ T ∷ Ts) r
    go (from_left i) e = with_it i (without a) e
    go (from_right j) e = without (with_it j a e)
    go (from_both (joined {p = p} {q = k} i j d)) e = with_it i (with_it j a refl) (e ∙ ap (λ x. join x s) d ∙ sym (join_assoc p k s))

split_some : (L T : List Part) (Ts : List (List Part)) {r : Part} → Some (L ∷ T ∷ Ts) r → Some (grown L T ∷ Ts) r
split_some L T Ts (only m) = only (grown_new L T (from_left m))
split_some L T Ts (without (only j)) = only (grown_new L T (from_right j))
split_some L T Ts (without (without s)) = without s
split_some L T Ts (without (with_it j a e)) = with_it (grown_new L T (from_right j)) a e
split_some L T Ts (with_it i (only j) e) = only (grown_new L T (from_both (joined i j e)))
split_some L T Ts (with_it i (without s) e) = with_it (grown_new L T (from_left i)) s e
split_some L T Ts (with_it {p = p} i (with_it {p = k} {q = s} j a d) e) =
    with_it (grown_new L T (from_both (joined i j refl))) a (e ∙ ap (join p) d ∙ join_assoc p k s)

some_none : {q : Part} → Some [] q → ⊥
some_none s = elim s [ ]

-- the list so far is one more factor
andor_from_old : (L : List Part) (Ts : List (List Part)) {q : Part} → q ∈ andor_from L Ts → Some (L ∷ Ts) q
unfolding andor_from
andor_from_old L [] m = only m
andor_from_old L (T ∷ Ts) m = regroup_some L T Ts (andor_from_old (grown L T) Ts m)

andor_from_new : (L : List Part) (Ts : List (List Part)) {q : Part} → Some (L ∷ Ts) q → q ∈ andor_from L Ts
unfolding andor_from
andor_from_new L [] (only m) = m
andor_from_new L [] (without s) = absurd (some_none s)
andor_from_new L [] (with_it m s e) = absurd (some_none s)
andor_from_new L (T ∷ Ts) s = andor_from_new (grown L T) Ts (split_some L T Ts s)

pub grown_rising : (L T : List Part) → Rising order (grown L T)
unfolding grown
grown_rising L T = add_rising L (joins L T ++ T)

pub andor_from_rising : {L : List Part} (Ts : List (List Part)) → Rising order L → Rising order (andor_from L Ts)
unfolding andor_from
andor_from_rising [] R = R
andor_from_rising {L} (T ∷ Ts) R = andor_from_rising {L = grown L T} Ts (grown_rising L T)

-- the list only grows
pub andor_from_more : (L : List Part) (Ts : List (List Part)) (q : Part) → q ∈ L → q ∈ andor_from L Ts
andor_from_more L Ts q m = andor_from_new L Ts (only m)

-- ---- ANDOR over every nonempty choice
data Chosen : List (List Part) → List (List Part) → Type 0 where
  just : {L : List Part} {Ls : List (List Part)} → Chosen (L ∷ []) (L ∷ Ls)
  pass : {C : List (List Part)} {L : List Part} {Ls : List (List Part)} → Chosen C Ls → Chosen C (L ∷ Ls)
  take : {C : List (List Part)} {L : List Part} {Ls : List (List Part)} → Chosen C Ls → Chosen (L ∷ C) (L ∷ Ls)

chosen_in : {C Ls : List (List Part)} → Chosen C Ls → C ∈ choices Ls
chosen_in just = here refl
chosen_in (pass {L = L} {Ls = Ls} c) = there (∈_append_left (choices Ls) (map (λ C. L ∷ C) (choices Ls)) (chosen_in c))
chosen_in (take {L = L} {Ls = Ls} c) = there (∈_append_right (choices Ls) (map (λ C. L ∷ C) (choices Ls)) (∈_map (λ C. L ∷ C) (chosen_in c)))

chosen_of : (Ls : List (List Part)) {C : List (List Part)} → C ∈ choices Ls → Chosen C Ls
chosen_of [] {C = C} x' = elim x' [ ]
chosen_of (L ∷ Ls) (here e) = rw e just
chosen_of (L ∷ Ls) (there m) = elim (∈_append_cases (choices Ls) (map (λ C. L ∷ C) (choices Ls)) m) [
  | inl i ↦ pass (chosen_of Ls i)
  | inr j ↦ let r = ∈_of_map (λ C. L ∷ C) (choices Ls) j in rw r.2 (take (chosen_of Ls r.1))
]

some_chosen : {Ls : List (List Part)} {q : Part} → Some Ls q → (C : List (List Part)) × Chosen C Ls × Every C q
some_chosen (only {L = L} m) = (L ∷ [], just, last m)
some_chosen (without s) = let r = some_chosen s in (r.0, pass r.1, r.2)
some_chosen (with_it {L = L} m s e) = let r = some_chosen s in (L ∷ r.0, take r.1, with_rest m r.2 e)

chosen_some : {C Ls : List (List Part)} {q : Part} → Chosen C Ls → Every C q → Some Ls q
chosen_some just (last m) = only m
chosen_some just (with_rest m a e) = absurd (every_none a)
chosen_some (pass c) a = without (chosen_some c a)
chosen_some (take c) (last m) = only m
chosen_some (take c) (with_rest m a e) = with_it m (chosen_some c a) e

pub andor_old : (Ls : List (List Part)) {q : Part} → q ∈ andor Ls → Some Ls q
andor_old Ls m =
    let r = one_in (oneof_old (map and (choices Ls)) m) in
    let c = ∈_of_map and (choices Ls) r.1 in
    chosen_some (chosen_of Ls c.1) (and_old c.0 (rw c.2 at r.2))

pub andor_new : (Ls : List (List Part)) {q : Part} → Some Ls q → q ∈ andor Ls
andor_new Ls s = let r = some_chosen s in oneof_new (map and (choices Ls)) (in_one (∈_map and (chosen_in r.1)) (and_new r.0 r.2))

pub andor_steps : (Ls : List (List Part)) → andor_from [] Ls ≡ andor Ls
andor_steps Ls = ext part_order (andor_from_rising Ls empty) (oneof_rising (map and (choices Ls)))
    (λ q m. andor_new Ls (rest (andor_from_old [] Ls m)))
    (λ q m. andor_from_new [] Ls (without (andor_old Ls m)))
  where
    rest : {q : Part} → Some ([] ∷ Ls) q → Some Ls q
    rest (only m) = absurd (not_in_nil m)
    rest (without s) = s
    rest (with_it m s e) = absurd (not_in_nil m)
