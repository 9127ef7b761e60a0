-- The walk that joins two parts: a turn takes the least name that is left.
use Prim.Native.Nat.{ℕ, ◌+◌, ◌≤◌, ◌<◌, compare, Ordering}
use mathlib.Core.Path.{◌≡◌, refl, sym, ap, ◌∙◌}
use mathlib.Core.List.{List, [], ◌∷◌}
use native.Mathlib.Omega.{arith}
use lib.ListN.{length, get_or, drop, set, replicate}
use lib.Seq.{drop-drop}
use Rattle.std.specs.Prelude.{Option, None, Some, Ok, Err}
use Rattle.std.proofs.lemmas.Option.{same_Some}
use Rattle.refusal.specs.declared.Reason.TheVariants.{TooManySets}
use Rattle.refusal.specs.declared.Refusal.{Refusal}
use Rattle.complex_entity.specs.MeaningParts.{Part}
use Rattle.complex_entity.specs.MirrorParts.{narrowed, Makes, by, merge, takes, turn_of}
use Rattle.complex_entity.proofs.Names.{rest_some, rest_none}
use Rattle.complex_entity.proofs.Orders.{lt→cmp, gt→cmp, compare_self}
use Rattle.complex_entity.proofs.Filling.{Filling, fill_start, fill_next}
use Rattle.complex_entity.proofs.Answers.{filled_made, filled_over}

-- ---- a turn
module _ (l r : List ℕ) (i j : ℕ) where
  pub turn_end : length l ≤ i → length r ≤ j → None ≡ turn_of i j (drop i l) (drop j r)
  unfolding turn_of
  turn_end h g = rw (rest_none l i h, rest_none r j g)

  pub turn_only_right : (y : ℕ) → length l ≤ i → j < length r → y ≡ get_or r j y → takes y i (j + 1) ≡ turn_of i j (drop i l) (drop j r)
  unfolding turn_of
  turn_only_right y h g f = rw (rest_none l i h, rest_some r j y g f)

  pub turn_only_left : (x : ℕ) → i < length l → x ≡ get_or l i x → length r ≤ j → takes x (i + 1) j ≡ turn_of i j (drop i l) (drop j r)
  unfolding turn_of
  turn_only_left x h e g = rw (rest_some l i x h e, rest_none r j g)

  module _ (x y : ℕ) (h : i < length l) (e : x ≡ get_or l i x) (g : j < length r) (f : y ≡ get_or r j y) where
    turn_compared : (o : Ordering) → compare x y ≡ o → by o (takes x (i + 1) j) (takes x (i + 1) (j + 1)) (takes y i (j + 1)) ≡ turn_of i j (drop i l) (drop j r)
    unfolding turn_of
    turn_compared o d = rw (rest_some l i x h e, rest_some r j y g f, d)

    pub turn_left : x < y → takes x (i + 1) j ≡ turn_of i j (drop i l) (drop j r)
    turn_left w = turn_compared Ordering.lt (lt→cmp x y w)

    pub turn_right : y < x → takes y i (j + 1) ≡ turn_of i j (drop i l) (drop j r)
    turn_right w = turn_compared Ordering.gt (gt→cmp x y w)

    pub turn_both : y ≤ x → x ≤ y → takes x (i + 1) (j + 1) ≡ turn_of i j (drop i l) (drop j r)
    turn_both w w' = let z : x ≡ y = omega arith in turn_compared Ordering.eq (rw z (compare_self y))

pub ruleset turning = (turn_end, turn_only_right, turn_only_left, turn_left, turn_both, turn_right)

-- ---- the walk

-- what a part is from i on: its first name, and what it is from the next on
rest_tail : (L xs : Part) (i x : ℕ) → drop i L ≡ x ∷ xs → drop (i + 1) L ≡ xs
rest_tail L xs i x e = sym (drop-drop 1 i L) ∙ ap (drop 1) e

-- a turn that ends has nothing left to merge, and one that takes a name takes the first of what is left
turn_ends : (i j : ℕ) (xs ys : Part) → turn_of i j xs ys ≡ None → merge xs ys ≡ []
unfolding turn_of merge
turn_ends i j [] [] e = refl
turn_ends i j [] (y ∷ ys) e = cc
turn_ends i j (x ∷ xs) [] e = cc
turn_ends i j (x ∷ xs) (y ∷ ys) e = go (compare x y) e
  where
    go : (o : Ordering) → by o (takes x (i + 1) j) (takes x (i + 1) (j + 1)) (takes y i (j + 1)) ≡ None
        → by o (x ∷ merge xs (y ∷ ys)) (x ∷ merge xs ys) (y ∷ merge (x ∷ xs) ys) ≡ []
    go Ordering.lt e = cc
    go Ordering.eq e = cc
    go Ordering.gt e = cc

merge_nil : (xs : Part) → merge xs [] ≡ xs
unfolding merge
merge_nil [] = refl
merge_nil (x ∷ xs) = refl

some_triple : (x i j y k m : ℕ) → takes x i j ≡ takes y k m → (x ≡ y) × (i ≡ k) × (j ≡ m)
some_triple x i j y k m e =
    let t : ◌≡◌ {A = ℕ × ℕ × ℕ} (x, i, j) (y, k, m) = same_Some _ _ e in
    (ap (λ (w : ℕ × ℕ × ℕ). w.0) t, ap (λ (w : ℕ × ℕ × ℕ). w.1) t, ap (λ (w : ℕ × ℕ × ℕ). w.2) t)

turn_takes : (L R xs ys : Part) (i j x i' j' : ℕ) → drop i L ≡ xs → drop j R ≡ ys → turn_of i j xs ys ≡ takes x i' j'
    → merge xs ys ≡ x ∷ merge (drop i' L) (drop j' R)
unfolding turn_of merge
turn_takes L R xs ys i j x i' j' a b e = go xs ys a b e
  where
    same : (z p q : ℕ) (t : Part) → takes z p q ≡ takes x i' j' → t ≡ z ∷ merge (drop p L) (drop q R) → t ≡ x ∷ merge (drop i' L) (drop j' R)
    same z p q t d w =
        let u = some_triple z p q x i' j' d in
        w ∙ rw (u.0, u.1, u.2) refl

    go : (xs ys : Part) → drop i L ≡ xs → drop j R ≡ ys → turn_of i j xs ys ≡ takes x i' j' → merge xs ys ≡ x ∷ merge (drop i' L) (drop j' R)
    go [] [] a b e = cc
    go [] (y ∷ ys) a b e = same y i (j + 1) _ e (rw (a, rest_tail R ys j y b))
    go (z ∷ zs) [] a b e = same z (i + 1) j _ e (rw (rest_tail L zs i z a, b, merge_nil zs))
    go (z ∷ zs) (y ∷ ys) a b e = both (compare z y) e
      where
        both : (o : Ordering) → by o (takes z (i + 1) j) (takes z (i + 1) (j + 1)) (takes y i (j + 1)) ≡ takes x i' j'
            → by o (z ∷ merge zs (y ∷ ys)) (z ∷ merge zs ys) (y ∷ merge (z ∷ zs) ys) ≡ x ∷ merge (drop i' L) (drop j' R)
        both Ordering.lt e = same z (i + 1) j _ e (rw (rest_tail L zs i z a, b))
        both Ordering.eq e = same z (i + 1) (j + 1) _ e (rw (rest_tail L zs i z a, rest_tail R ys j y b))
        both Ordering.gt e = same y i (j + 1) _ e (rw (a, rest_tail R ys j y b))

-- the names before i of the left and before j of the right are taken: what was taken stands in out, and the merge is t
pub record Joining (l r : List ℕ) (i j k : ℕ) (out t : List ℕ) : Type 0 where
  pub fill : Filling 12 0 k out (merge (drop i l) (drop j r)) t

pub join_start : (l r : List ℕ) → Joining l r 0 0 0 (replicate 12 0) (merge l r)
join_start l r = record { fill = fill_start 12 0 (merge l r) }

module _ (l r : List ℕ) (i j k : ℕ) (out t : List ℕ) (f : Joining l r i j k out t) (s : Option (ℕ × ℕ × ℕ)) (e : s ≡ turn_of i j (drop i l) (drop j r)) where
  pub join_done : s ≡ None → Makes (narrowed t) (Ok (record { n = k; names = out }))
  join_done u = filled_made k out _ t f.fill (turn_ends i j _ _ (sym e ∙ u))

  module _ (x i' j' : ℕ) (u : s ≡ Some (x, i', j')) where
    taken : merge (drop i l) (drop j r) ≡ x ∷ merge (drop i' l) (drop j' r)
    taken = turn_takes l r _ _ i j x i' j' refl refl (sym e ∙ u)

    pub join_next : k < 12 → Joining l r i' j' (k + 1) (set out k x) t
    join_next h = record { fill = fill_next 12 0 k out _ _ t x f.fill h taken }

    -- a thirteenth name is left
    pub join_over : 12 ≤ k → (why : Refusal) → why ≡ record { reason = TooManySets; place = 0 } → Makes (narrowed t) (Err why)
    join_over h why w = filled_over k out _ t f.fill h (rw taken (omega arith)) why w

pub ruleset joining = (join_start, join_done, join_next, join_over)
