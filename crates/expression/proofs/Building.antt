-- The list of an expression has exactly the sets that can be built from it, and rises strictly.
use mathlib.Core.Path.{◌≡◌, refl, ◌∙◌, ap}
use mathlib.Core.Logic.{◌⊎◌, inl, inr, ◌↔◌}
use mathlib.Core.List.{List, [], ◌∷◌, map}
use Prim.Native.Nat.{ℕ}
use native.Mathlib.Omega.{arith}
use Rattle.refusal.specs.MeaningAnswer.{Answer, done, refused, ◌>>=◌}
use Rattle.complex_entity.specs.MeaningRising.{◌∈◌, here, there, Rising, empty, next}
use Rattle.complex_entity.specs.MeaningParts.{Part, order, join}
use Rattle.complex_entity.specs.MeaningLists as lists
use Rattle.complex_entity.specs.MeaningLists.{oneof_of, and_of}
use Rattle.complex_entity.specs.Claims.{One, Every, Some}
use Rattle.complex_entity.specs.Claims as sets
use Rattle.complex_entity.proofs.Sets.{not_in_nil, ext, tidy_rising}
use Rattle.complex_entity.proofs.Orders.{nat_order, part_order}
use Rattle.complex_entity.proofs.Members.{join_old, join_new, join_rising}
use Rattle.complex_entity.proofs.Choices.{oneof_old, oneof_new, oneof_rising, and_old, and_new, andor_old, andor_new}
use Rattle.complex_entity.proofs.Proved.{held_is, and_is, andor_is}
use Rattle.expression.specs.MeaningExpression.{Expr, reference, andor, «and», oneof, Terms, end, ◌then◌, eval, values}
use Rattle.expression.specs.MeaningBuilds.{Joins, Builds, a_name, by_oneof, by_and, by_andor, BuildsOne, this, later, BuildsEvery, last, with_rest, BuildsSome, only, without, with_it}

-- ---- a join by its names is the join
joins_is : {p q r : Part} → Joins p q r → r ≡ join p q
joins_is {p} {q} {r} j = ext nat_order j.set (join_rising p q) (λ n m. join_new p q ((j.names n).0 m)) (λ n m. (j.names n).1 (join_old p q m))

is_joins : {p q r : Part} → r ≡ join p q → Joins p q r
is_joins {p} {q} e = rw e (record { set = join_rising p q; names = λ n. (join_old p q, join_new p q) })

-- ---- what came from below
pub bind_done : {A B : Type 0} (r : Answer A) {f : A → Answer B} {b : B} → (r >>= f) ≡ done b → (a : A) × (r ≡ done a) × (f a ≡ done b)
bind_done (done a) h = (a, refl, h)
bind_done (refused n k) h = let z : ◌≡◌ {A = ℕ} 0 1 = cc in absurd (omega arith)

-- the values of terms, one by one
first_and_rest : (e : Expr ℕ) (t : Terms ℕ) {Ls : List (List Part)} → values (e then t) ≡ done Ls
    → (L : List Part) × (Ks : List (List Part)) × (eval e ≡ done L) × (values t ≡ done Ks) × (Ls ≡ L ∷ Ks)
unfolding values
first_and_rest e t h =
    let a = bind_done (eval e) h in
    let b = bind_done (values t) a.2 in
    (a.0, b.0, a.1, b.1, cc b.2)

-- ---- the list at a node
oneof_list : (Ls : List (List Part)) (L : List Part) → oneof_of Ls ≡ done L → L ≡ lists.oneof Ls
unfolding oneof_of
oneof_list Ls L h = ((held_is (lists.oneof Ls) L).0 h).0

-- ---- how a set comes from lists: at variable indices, so that it can be matched
named : (n : ℕ) (L : List Part) (q : Part) → L ≡ (n ∷ []) ∷ [] → q ∈ L → Builds (reference n) q
named n L q e m = go (rw e at m)
  where
    go : {q : Part} → q ∈ ((n ∷ []) ∷ []) → Builds (reference n) q
    go (here d) = rw d a_name
    go (there k) = absurd (not_in_nil k)

nothing : {Ls : List (List Part)} → values end ≡ done Ls → Ls ≡ []
unfolding values
nothing h = cc

one_none : (q : Part) → One [] q → ⊥
one_none q o = elim o [ ]

every_none : (q : Part) → Every [] q → ⊥
every_none q a = elim a [ ]

some_none : (q : Part) → Some [] q → ⊥
some_none q s = elim s [ ]

one_cases : {L : List Part} {Ls : List (List Part)} {q : Part} → One (L ∷ Ls) q → (q ∈ L) ⊎ One Ls q
one_cases (sets.this m) = inl m
one_cases (sets.later o) = inr o

data EveryCases (L : List Part) (Ls : List (List Part)) (r : Part) : Type 0 where
  at_last : Ls ≡ [] → r ∈ L → EveryCases L Ls r
  and_more : {p q : Part} → p ∈ L → Every Ls q → r ≡ join p q → EveryCases L Ls r

every_cases : {L : List Part} {Ls : List (List Part)} {r : Part} → Every (L ∷ Ls) r → EveryCases L Ls r
every_cases (sets.last m) = at_last refl m
every_cases (sets.with_rest m a d) = and_more m a d

data SomeCases (L : List Part) (Ls : List (List Part)) (r : Part) : Type 0 where
  alone : r ∈ L → SomeCases L Ls r
  left_out : Some Ls r → SomeCases L Ls r
  taken : {p q : Part} → p ∈ L → Some Ls q → r ≡ join p q → SomeCases L Ls r

some_cases : {L : List Part} {Ls : List (List Part)} {r : Part} → Some (L ∷ Ls) r → SomeCases L Ls r
some_cases (sets.only m) = alone m
some_cases (sets.without s) = left_out s
some_cases (sets.with_it m s d) = taken m s d

finish : (e : Expr ℕ) (t : Terms ℕ) {q : Part} → values t ≡ done [] → Builds e q → BuildsEvery (e then t) q
finish e end h b = last b
finish e (f then t) h b = let r = first_and_rest f t h in let z : ◌≡◌ {A = ℕ} 0 1 = cc r.4 in absurd (omega arith)

-- ---- all that is in the list can be built
mutual
  unfolding eval values

  sound : (e : Expr ℕ) {L : List Part} {q : Part} → eval e ≡ done L → q ∈ L → Builds e q
  sound (reference n) {L} {q} h m = named n L q (cc) m
  sound (andor t) {L} {q} h m =
      let r = bind_done (values t) h in
      by_andor (sound_some t r.1 (andor_old r.0 (rw (andor_is r.0 L r.2) at m)))
  sound («and» t) {L} {q} h m =
      let r = bind_done (values t) h in
      by_and (sound_every t r.1 (and_old r.0 (rw (and_is r.0 L r.2) at m)))
  sound (oneof t) {L} {q} h m =
      let r = bind_done (values t) h in
      by_oneof (sound_one t r.1 (oneof_old r.0 (rw (oneof_list r.0 L r.2) at m)))

  sound_one : (t : Terms ℕ) {Ls : List (List Part)} {q : Part} → values t ≡ done Ls → One Ls q → BuildsOne t q
  sound_one end {Ls} {q} h o = absurd (one_none q (rw (nothing h) at o))
  sound_one (e then t) {Ls} {q} h o =
      let r = first_and_rest e t h in
      elim (one_cases (rw r.4 at o)) [ inl m ↦ this (sound e r.2 m) | inr p ↦ later (sound_one t r.3 p) ]

  sound_every : (t : Terms ℕ) {Ls : List (List Part)} {q : Part} → values t ≡ done Ls → Every Ls q → BuildsEvery t q
  sound_every end {Ls} {q} h a = absurd (every_none q (rw (nothing h) at a))
  sound_every (e then t) {Ls} {q} h a =
      let r = first_and_rest e t h in
      elim (every_cases (rw r.4 at a)) [
        | at_last d m ↦ finish e t (r.3 ∙ ap done d) (sound e r.2 m)
        | and_more m b d ↦ with_rest (sound e r.2 m) (sound_every t r.3 b) (is_joins d)
      ]

  sound_some : (t : Terms ℕ) {Ls : List (List Part)} {q : Part} → values t ≡ done Ls → Some Ls q → BuildsSome t q
  sound_some end {Ls} {q} h s = absurd (some_none q (rw (nothing h) at s))
  sound_some (e then t) {Ls} {q} h s =
      let r = first_and_rest e t h in
      elim (some_cases (rw r.4 at s)) [
        | alone m ↦ only (sound e r.2 m)
        | left_out b ↦ without (sound_some t r.3 b)
        | taken m b d ↦ with_it (sound e r.2 m) (sound_some t r.3 b) (is_joins d)
      ]

-- ---- all that can be built is in the list
mutual
  unfolding eval values

  complete : (e : Expr ℕ) {L : List Part} {q : Part} → eval e ≡ done L → Builds e q → q ∈ L
  complete (reference n) {L} h a_name = let e : L ≡ (n ∷ []) ∷ [] = cc in rw e (here refl)
  complete (andor t) {L} h (by_andor b) = let r = bind_done (values t) h in rw (andor_is r.0 L r.2) (andor_new r.0 (complete_some t r.1 b))
  complete («and» t) {L} h (by_and b) = let r = bind_done (values t) h in rw (and_is r.0 L r.2) (and_new r.0 (complete_every t r.1 b))
  complete (oneof t) {L} h (by_oneof b) = let r = bind_done (values t) h in rw (oneof_list r.0 L r.2) (oneof_new r.0 (complete_one t r.1 b))

  complete_one : (t : Terms ℕ) {Ls : List (List Part)} {q : Part} → values t ≡ done Ls → BuildsOne t q → One Ls q
  complete_one end {Ls = Ls} {q = q} h x8 = elim x8 [ ]
  complete_one (e then t) {Ls} h (this b) = let r = first_and_rest e t h in rw r.4 (sets.this (complete e r.2 b))
  complete_one (e then t) {Ls} h (later b) = let r = first_and_rest e t h in rw r.4 (sets.later (complete_one t r.3 b))

  complete_every : (t : Terms ℕ) {Ls : List (List Part)} {q : Part} → values t ≡ done Ls → BuildsEvery t q → Every Ls q
  complete_every end {Ls = Ls} {q = q} h x8 = elim x8 [ ]
  complete_every (e then t) {Ls} h (last b) = let r = first_and_rest e t h in rw (r.4 ∙ ap (λ Ks. r.0 ∷ Ks) (nothing r.3)) (sets.last (complete e r.2 b))
  complete_every (e then t) {Ls} h (with_rest b c j) = let r = first_and_rest e t h in rw r.4 (sets.with_rest (complete e r.2 b) (complete_every t r.3 c) (joins_is j))

  complete_some : (t : Terms ℕ) {Ls : List (List Part)} {q : Part} → values t ≡ done Ls → BuildsSome t q → Some Ls q
  complete_some end {Ls = Ls} {q = q} h x8 = elim x8 [ ]
  complete_some (e then t) {Ls} h (only b) = let r = first_and_rest e t h in rw r.4 (sets.only (complete e r.2 b))
  complete_some (e then t) {Ls} h (without b) = let r = first_and_rest e t h in rw r.4 (sets.without (complete_some t r.3 b))
  complete_some (e then t) {Ls} h (with_it b c j) = let r = first_and_rest e t h in rw r.4 (sets.with_it (complete e r.2 b) (complete_some t r.3 c) (joins_is j))

pub builds_list : (e : Expr ℕ) (L : List Part) → eval e ≡ done L → (q : Part) → (q ∈ L) ↔ Builds e q
builds_list e L h q = (sound e h, complete e h)

-- ---- and rises
and_from_rising : (L : List Part) (Ks : List (List Part)) → Rising order L → Rising order (lists.and_from L Ks)
and_from_rising L [] R = R
and_from_rising L (K ∷ Ks) R = and_from_rising (lists.bitand L K) Ks (tidy_rising part_order (lists.joins L K))

and_rising : (Ls : List (List Part)) (L : List Part) → and_of Ls ≡ done L → Rising order L
unfolding and_of
and_rising [] L h = let z : ◌≡◌ {A = ℕ} 0 1 = cc in absurd (omega arith)
and_rising (K ∷ []) L h = let z : ◌≡◌ {A = ℕ} 0 1 = cc in absurd (omega arith)
and_rising (J ∷ K ∷ Ks) L h = rw (and_is (J ∷ K ∷ Ks) L h) (and_from_rising (lists.bitand J K) Ks (tidy_rising part_order (lists.joins J K)))

pub list_rising : (e : Expr ℕ) (L : List Part) → eval e ≡ done L → Rising order L
unfolding eval
list_rising (reference n) L h = let e : L ≡ (n ∷ []) ∷ [] = cc in rw e (next (λ q m. absurd (not_in_nil m)) empty)
list_rising (andor t) L h = let r = bind_done (values t) h in rw (andor_is r.0 L r.2) (oneof_rising (map lists.and (lists.choices r.0)))
list_rising («and» t) L h = let r = bind_done (values t) h in and_rising r.0 L r.2
list_rising (oneof t) L h = let r = bind_done (values t) h in rw (oneof_list r.0 L r.2) (oneof_rising r.0)
