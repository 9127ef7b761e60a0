-- Walking two parts together joins them.
use mathlib.Core.Path.{◌≡◌, sym, ◌∙◌}
use mathlib.Core.Logic.{◌⊎◌, inl, inr}
use mathlib.Core.List.{[], ◌∷◌}
use Prim.Native.Nat.{ℕ, compare, Ordering}
use Rattle.complex_entity.specs.MeaningRising.{◌∈◌, here, there, View, less, same, more, Below, Rising, next}
use Rattle.complex_entity.specs.MeaningParts.{Part, join}
use Rattle.complex_entity.specs.MirrorParts.{by, merge}
use Rattle.complex_entity.proofs.Sets.{below_cons, ext}
use Rattle.complex_entity.proofs.Orders.{nat_order, nat_view}
use Rattle.complex_entity.proofs.Members.{join_old, join_new, join_rising}

merge_old : (k l : Part) {q : ℕ} → q ∈ merge k l → (q ∈ k) ⊎ (q ∈ l)
unfolding merge
merge_old [] l m = inr m
merge_old (x ∷ xs) [] m = inl m
merge_old (x ∷ xs) (y ∷ ys) {q} m = go (nat_view x y) (merge_old xs (y ∷ ys)) (merge_old xs ys) (merge_old (x ∷ xs) ys) m
  where
    go : {o : Ordering} → View compare x y o
        → (q ∈ merge xs (y ∷ ys) → (q ∈ xs) ⊎ (q ∈ (y ∷ ys)))
        → (q ∈ merge xs ys → (q ∈ xs) ⊎ (q ∈ ys))
        → (q ∈ merge (x ∷ xs) ys → (q ∈ (x ∷ xs)) ⊎ (q ∈ ys))
        → q ∈ by o (x ∷ merge xs (y ∷ ys)) (x ∷ merge xs ys) (y ∷ merge (x ∷ xs) ys)
        → (q ∈ (x ∷ xs)) ⊎ (q ∈ (y ∷ ys))
    go (less h) f g i (here e) = inl (here e)
    go (less h) f g i (there m) = elim (f m) [ inl a ↦ inl (there a) | inr b ↦ inr b ]
    go (same h) f g i (here e) = inl (here e)
    go (same h) f g i (there m) = elim (g m) [ inl a ↦ inl (there a) | inr b ↦ inr (there b) ]
    go (more h) f g i (here e) = inr (here e)
    go (more h) f g i (there m) = elim (i m) [ inl a ↦ inl a | inr b ↦ inr (there b) ]

merge_new : (k l : Part) {q : ℕ} → (q ∈ k) ⊎ (q ∈ l) → q ∈ merge k l
unfolding merge
merge_new [] l {q = q} (inl m) = elim m [ ]
merge_new (x ∷ xs) [] {q = q} (inr m) = elim m [ ]
merge_new [] l (inr m) = m
merge_new (x ∷ xs) [] (inl m) = m
merge_new (x ∷ xs) (y ∷ ys) {q} m = go (nat_view x y) (merge_new xs (y ∷ ys)) (merge_new xs ys) (merge_new (x ∷ xs) ys) m
  where
    go : {o : Ordering} → View compare x y o
        → ((q ∈ xs) ⊎ (q ∈ (y ∷ ys)) → q ∈ merge xs (y ∷ ys))
        → ((q ∈ xs) ⊎ (q ∈ ys) → q ∈ merge xs ys)
        → ((q ∈ (x ∷ xs)) ⊎ (q ∈ ys) → q ∈ merge (x ∷ xs) ys)
        → (q ∈ (x ∷ xs)) ⊎ (q ∈ (y ∷ ys))
        → q ∈ by o (x ∷ merge xs (y ∷ ys)) (x ∷ merge xs ys) (y ∷ merge (x ∷ xs) ys)
    go (less h) f g i (inl (here e)) = here e
    go (less h) f g i (inl (there m)) = there (f (inl m))
    go (less h) f g i (inr m) = there (f (inr m))
    go (same h) f g i (inl (here e)) = here e
    go (same h) f g i (inl (there m)) = there (g (inl m))
    go (same h) f g i (inr (here e)) = here (e ∙ sym h)
    go (same h) f g i (inr (there m)) = there (g (inr m))
    go (more h) f g i (inl m) = there (i (inl m))
    go (more h) f g i (inr (here e)) = here e
    go (more h) f g i (inr (there m)) = there (i (inr m))

merge_rising : (k l : Part) → Rising compare k → Rising compare l → Rising compare (merge k l)
unfolding merge
merge_rising [] l R S = S
merge_rising (x ∷ xs) [] R S = R
merge_rising (x ∷ xs) (y ∷ ys) (next B R) (next C S) = go (nat_view x y) (merge_rising xs (y ∷ ys) R (next C S)) (merge_rising xs ys R S) (merge_rising (x ∷ xs) ys (next B R) S)
  where
    -- below both is below the merge
    both : (z : ℕ) (k l : Part) → Below compare z k → Below compare z l → Below compare z (merge k l)
    both z k l f g q m = elim (merge_old k l m) [ inl a ↦ f q a | inr b ↦ g q b ]

    go : {o : Ordering} → View compare x y o → Rising compare (merge xs (y ∷ ys)) → Rising compare (merge xs ys) → Rising compare (merge (x ∷ xs) ys)
        → Rising compare (by o (x ∷ merge xs (y ∷ ys)) (x ∷ merge xs ys) (y ∷ merge (x ∷ xs) ys))
    go (less h) f g i = next (both x xs (y ∷ ys) B (below_cons nat_order h C)) f
    go (same h) f g i = next (both x xs ys B (rw h C)) g
    go (more h) f g i = next (both y (x ∷ xs) ys (below_cons nat_order h B) C) i

pub merge_is : {p q : Part} → Rising compare p → Rising compare q → merge p q ≡ join p q
merge_is {p} {q} R S = ext nat_order (merge_rising p q R S) (join_rising p q) (λ n m. join_new p q (merge_old p q m)) (λ n m. merge_new p q (join_old p q m))
