-- What the steps give an owner, for every `same` that is an equivalence.
use mathlib.Core.Path.{◌≡◌, refl, sym, ◌∙◌}
use mathlib.Core.Logic.{inl, inr}
use mathlib.Core.List.{List, [], ◌∷◌, ◌++◌, append-nil}
use mathlib.Core.Bool.{Bool, true, false, cond}
use mathlib.Core.Option.{Option, none, some}
use Rattle.expression.specs.MeaningExpression.{Expr, andor, andor_mut}
use Rattle.merging.specs.MeaningMerging.{Combined, Pair, Group, references, find, merged, into, grouped_onto, grouped, left_over, joined, subtyped, with_groups, with_subtypes}
use Rattle.merging.specs.MeaningItems.{merged_onto, gathered, exprs_of, subs_of, combined_of}
use Rattle.merging.specs.Claims.{Equivalence}
use Rattle.merging.proofs.Factors.{both, not_both, merge_all, with_left, with_subs, subs_combine}

module _ {N : Type 0} {same : N → N → Bool} (E : Equivalence same) where
  -- ---- the same as one of two that are the same
  pub same_right : (p q r : N) → same q p ≡ true → same r q ≡ same r p
  same_right p q r h = elim (both (same r q)) [
    | inl a ↦ a ∙ sym (E.transitive r q p a h)
    | inr a ↦ elim (both (same r p)) [ inl b ↦ not_both (same r q) (E.transitive r p q b (E.symmetric q p h)) a | inr b ↦ a ∙ sym b ]
  ]

  same_turned : (p q : N) → same p q ≡ same q p
  same_turned p q = elim (both (same p q)) [
    | inl a ↦ a ∙ sym (E.symmetric p q a)
    | inr a ↦ elim (both (same q p)) [ inl b ↦ not_both (same p q) (E.symmetric q p b) a | inr b ↦ a ∙ sym b ]
  ]

  -- two others are not the same as one
  not_same : (p q r : N) → same q p ≡ false → same r q ≡ true → same r p ≡ false
  not_same p q r h a = elim (both (same r p)) [ inl b ↦ not_both (same q p) (E.transitive q r p (E.symmetric r q a) b) h | inr b ↦ b ]

  find_right : (p q : N) → same q p ≡ true → (g : List (Combined N)) → find same q g ≡ find same p g
  unfolding find
  find_right p q h [] = refl
  find_right p q h (c ∷ g) = rw (same_right p q c.owner h, find_right p q h g)

  -- ---- merging
  abbrev pub onto : Option (Expr N) → Expr N → Expr N
  onto none e = e
  onto (some d) e = andor_mut d e

  find_merged : (p q : N) (e : Expr N) → same q p ≡ true → (g : List (Combined N)) → find same p (merged same q e g) ≡ some (onto (find same p g) e)
  unfolding find merged
  find_merged p q e h [] = rw h
  find_merged p q e h (c ∷ g) = elim (both (same c.owner p)) [
    | inl a ↦ rw (same_right p q c.owner h, a, a)
    | inr a ↦ rw (same_right p q c.owner h, a, a) (find_merged p q e h g)
  ]

  find_other : (p q : N) (e : Expr N) → same q p ≡ false → (g : List (Combined N)) → find same p (merged same q e g) ≡ find same p g
  unfolding find merged
  find_other p q e h [] = rw h
  find_other p q e h (c ∷ g) = elim (both (same c.owner q)) [
    | inl a ↦ rw (a, not_same p q c.owner h a)
    | inr a ↦ rw (a, find_other p q e h g)
  ]

  merge_one : (o : Option (Expr N)) (e : Expr N) (es : List (Expr N)) → merge_all (some (onto o e)) es ≡ merge_all o (e ∷ es)
  unfolding merge_all
  merge_one none e es = refl
  merge_one (some d) e es = refl

  find_all : (p : N) (cs g : List (Combined N)) → find same p (merged_onto same g cs) ≡ merge_all (find same p g) (exprs_of same p cs)
  unfolding merged_onto exprs_of merge_all
  find_all p [] g = refl
  find_all p (c ∷ cs) g = find_all p cs (merged same c.owner c.expr g) ∙ elim (both (same c.owner p)) [
    | inl a ↦ rw (a, find_merged p c.owner c.expr a g) (merge_one (find same p g) c.expr (exprs_of same p cs))
    | inr a ↦ rw (a, find_other p c.owner c.expr a g)
  ]

  -- ---- the groups of subtypes: each supertype has one
  unfoldable group : N → List (Group N) → List N
  group p [] = []
  group p (y ∷ gs) = cond (same y.super p) y.subs (group p gs)

  unfoldable has : N → List (Group N) → Bool
  has p [] = false
  has p (y ∷ gs) = cond (same y.super p) true (has p gs)

  data Apart : List (Group N) → Type 0 where
    none_yet : Apart []
    and_one : {y : Group N} {gs : List (Group N)} → has y.super gs ≡ false → Apart gs → Apart (y ∷ gs)

  data Filled : List (Group N) → Type 0 where
    no_group : Filled []
    filled : {y : Group N} {gs : List (Group N)} (x : N) (xs : List N) → y.subs ≡ x ∷ xs → Filled gs → Filled (y ∷ gs)

  has_into : (p : N) (x : Pair N) → same x.super p ≡ false → (gs : List (Group N)) → has p (into same x gs) ≡ has p gs
  unfolding has into
  has_into p x h [] = rw h
  has_into p x h (y ∷ gs) = elim (both (same y.super x.super)) [
    | inl a ↦ rw a
    | inr a ↦ rw (a, has_into p x h gs)
  ]

  apart_into : (x : Pair N) {gs : List (Group N)} → Apart gs → Apart (into same x gs)
  unfolding into has
  apart_into x none_yet = and_one refl none_yet
  apart_into x (and_one {y} {gs} h a) = elim (both (same y.super x.super)) [
    | inl b ↦ rw b (and_one h a)
    | inr b ↦ rw b (and_one (has_into y.super x (same_turned x.super y.super ∙ b) gs ∙ h) (apart_into x a))
  ]

  append_cons : (l : List N) (x : N) → (y : N) × (ys : List N) × (l ++ (x ∷ []) ≡ y ∷ ys)
  append_cons [] x = (x, [], refl)
  append_cons (a ∷ l) x = (a, l ++ (x ∷ []), refl)

  filled_into : (x : Pair N) {gs : List (Group N)} → Filled gs → Filled (into same x gs)
  unfolding into
  filled_into x no_group = filled x.sub [] refl no_group
  filled_into x (filled {y} {gs} z zs e f) = elim (both (same y.super x.super)) [
    | inl b ↦ let m = append_cons y.subs x.sub in rw b (filled m.0 m.1 m.2 f)
    | inr b ↦ rw b (filled z zs e (filled_into x f))
  ]

  group_into : (p : N) (x : Pair N) → same x.super p ≡ true → (gs : List (Group N)) → group p (into same x gs) ≡ group p gs ++ (x.sub ∷ [])
  unfolding group into
  group_into p x h [] = rw h
  group_into p x h (y ∷ gs) = elim (both (same y.super p)) [
    | inl a ↦ rw (same_right p x.super y.super h, a, a)
    | inr a ↦ rw (same_right p x.super y.super h, a, a) (group_into p x h gs)
  ]

  group_other : (p : N) (x : Pair N) → same x.super p ≡ false → (gs : List (Group N)) → group p (into same x gs) ≡ group p gs
  unfolding group into
  group_other p x h [] = rw h
  group_other p x h (y ∷ gs) = elim (both (same y.super x.super)) [
    | inl a ↦ rw (a, not_same p x.super y.super h a)
    | inr a ↦ rw (a, group_other p x h gs)
  ]

  group_onto : (p : N) (xs : List (Pair N)) (gs : List (Group N)) → group p (grouped_onto same gs xs) ≡ group p gs ++ subs_of same p xs
  unfolding grouped_onto subs_of
  group_onto p [] gs = sym (append-nil (group p gs))
  group_onto p (x ∷ xs) gs = group_onto p xs (into same x gs) ∙ elim (both (same x.super p)) [
    | inl a ↦ rw (a, group_into p x a gs) (regroup (group p gs))
    | inr a ↦ rw (a, group_other p x a gs)
  ]
    where
      regroup : (l : List N) → (l ++ (x.sub ∷ [])) ++ subs_of same p xs ≡ l ++ (x.sub ∷ subs_of same p xs)
      regroup [] = refl
      regroup (a ∷ l) = rw (regroup l)

  onto_apart : (xs : List (Pair N)) {gs : List (Group N)} → Apart gs → Apart (grouped_onto same gs xs)
  unfolding grouped_onto
  onto_apart [] a = a
  onto_apart (x ∷ xs) a = onto_apart xs (apart_into x a)

  onto_filled : (xs : List (Pair N)) {gs : List (Group N)} → Filled gs → Filled (grouped_onto same gs xs)
  unfolding grouped_onto
  onto_filled [] a = a
  onto_filled (x ∷ xs) a = onto_filled xs (filled_into x a)

  -- ---- a group's subtypes are added
  find_joined : (p q : N) (d : Expr N) → same q p ≡ true → (xs : List N) (g : List (Combined N)) → find same p g ≡ some d → find same p (joined same q xs g) ≡ some (with_left d xs)
  unfolding joined with_left
  find_joined p q d h [] g f = f
  find_joined p q d h (x ∷ xs) g f = find_merged p q (andor (references (x ∷ xs))) h g ∙ rw f

  find_subtyped : (p : N) (y : Group N) (x : N) (xs : List N) → y.subs ≡ x ∷ xs → same y.super p ≡ true → (o : Option (Expr N)) (g : List (Combined N)) → find same p g ≡ o
      → find same p (subtyped same y o g) ≡ with_subs same o y.subs
  unfolding subtyped with_subs
  find_subtyped p y x xs s h none g f = find_merged p y.super (andor (references y.subs)) h g ∙ rw (f, s)
  find_subtyped p y x xs s h (some d) g f = find_joined p y.super d h (left_over same d y.subs) g f

  find_subtyped_other : (p : N) (y : Group N) → same y.super p ≡ false → (o : Option (Expr N)) (g : List (Combined N)) → find same p (subtyped same y o g) ≡ find same p g
  unfolding subtyped joined
  find_subtyped_other p y h none g = find_other p y.super (andor (references y.subs)) h g
  find_subtyped_other p y h (some d) g = go (left_over same d y.subs)
    where
      go : (xs : List N) → find same p (joined same y.super xs g) ≡ find same p g
      go [] = refl
      go (x ∷ xs) = find_other p y.super (andor (references (x ∷ xs))) h g

  no_subs : (o : Option (Expr N)) → with_subs same o [] ≡ o
  unfolding with_subs with_left left_over
  no_subs none = refl
  no_subs (some d) = refl

  has_no : (p : N) (gs : List (Group N)) → has p gs ≡ false → group p gs ≡ []
  unfolding has group
  has_no p [] h = refl
  has_no p (y ∷ gs) h = elim (both (same y.super p)) [
    | inl a ↦ not_both true refl (rw a at h)
    | inr a ↦ rw a (has_no p gs (rw a at h))
  ]

  has_right : (p q : N) → same q p ≡ true → (gs : List (Group N)) → has q gs ≡ has p gs
  unfolding has
  has_right p q h [] = refl
  has_right p q h (y ∷ gs) = rw (same_right p q y.super h, has_right p q h gs)

  find_groups : (p : N) {gs : List (Group N)} → Apart gs → Filled gs → (g : List (Combined N)) → find same p (with_groups same gs g) ≡ with_subs same (find same p g) (group p gs)
  unfolding with_groups group
  find_groups p none_yet f g = sym (no_subs (find same p g))
  find_groups p (and_one {y} {gs} h a) (filled x xs e f) g =
      find_groups p a f (subtyped same y (find same y.super g) g) ∙ elim (both (same y.super p)) [
        | inl b ↦ rw (b, has_no p gs (sym (has_right p y.super b gs) ∙ h), no_subs (find same p (subtyped same y (find same y.super g) g)))
            (find_subtyped p y x xs e b (find same y.super g) g (sym (find_right p y.super b g)) ∙ rw (find_right p y.super b g))
        | inr b ↦ rw (b, find_subtyped_other p y b (find same y.super g) g)
      ]

  pub find_gathered : (p : N) (cs : List (Combined N)) (xs : List (Pair N)) → find same p (gathered same cs xs) ≡ combined_of same p cs xs
  unfolding gathered with_subtypes grouped combined_of group find
  find_gathered p cs xs =
      find_groups p (onto_apart xs none_yet) (onto_filled xs no_group) (merged_onto same [] cs)
      ∙ rw (group_onto p xs [], find_all p cs []) (subs_combine same (exprs_of same p cs) (subs_of same p xs))
