-- Names replaced before gathering or after it: the same, where good names are told apart alike.
use mathlib.Core.Path.{◌≡◌, refl, sym, ap, ◌∙◌}
use mathlib.Core.Logic.{inl, inr}
use mathlib.Core.List.{List, [], ◌∷◌, ◌++◌, map}
use mathlib.Core.Bool.{Bool, true}
use mathlib.Core.Option.{Option, none, some}
use Rattle.expression.specs.MeaningExpression.{Expr, reference, andor, «and», oneof, Terms, end, ◌then◌, append, is_in, is_in_some, andor_mut, factors}
use Rattle.merging.specs.MeaningMerging.{Combined, Pair, Group, references, find, merged, into, grouped_onto, grouped, left_over, joined, subtyped, with_groups, with_subtypes}
use Rattle.merging.specs.MeaningItems.{merged_onto, gathered}
use Rattle.merging.specs.MeaningNumbering.{map_expr, map_terms}
use Rattle.merging.specs.MeaningRenaming.{map_combined, map_pair, map_found, GoodExpr, GoodTerms, GoodCombined, GoodPair, Each}
use Rattle.merging.proofs.Factors.{both, not_both, merged_factors}

module _ {N M : Type 0} (f : N → M) where
  map_append : (t u : Terms N) → map_terms f (append t u) ≡ append (map_terms f t) (map_terms f u)
  unfolding map_expr
  map_append end u = refl
  map_append (e then t) u = rw (map_append t u)

  map_factors : (e : Expr N) → map_terms f (factors e) ≡ factors (map_expr f e)
  unfolding map_expr factors
  map_factors (reference n) = refl
  map_factors (andor t) = refl
  map_factors («and» t) = refl
  map_factors (oneof t) = refl

  map_andor : (t : Terms N) → map_expr f (andor t) ≡ andor (map_terms f t)
  unfolding map_expr
  map_andor t = refl

  map_merged : (d e : Expr N) → map_expr f (andor_mut d e) ≡ andor_mut (map_expr f d) (map_expr f e)
  map_merged d e =
      rw (merged_factors d e, merged_factors (map_expr f d) (map_expr f e), map_andor (append (factors d) (factors e)), map_append (factors d) (factors e), map_factors d, map_factors e)

  map_references : (xs : List N) → map_terms f (references xs) ≡ references (map f xs)
  unfolding map_expr references
  map_references [] = refl
  map_references (x ∷ xs) = rw (map_references xs)

  abbrev map_group : Group N → Group M
  map_group y = record { super = f y.super; subs = map f y.subs }

-- ---- good names stay good
module _ {N : Type 0} (Good : N → Type 0) where
  good_append : (t u : Terms N) → GoodTerms Good t → GoodTerms Good u → GoodTerms Good (append t u)
  unfolding GoodExpr
  good_append end u g h = h
  good_append (e then t) u g h = (g.0, good_append t u g.1 h)

  good_factors : (e : Expr N) → GoodExpr Good e → GoodTerms Good (factors e)
  unfolding GoodExpr factors
  good_factors (reference n) g = (g, tt)
  good_factors (andor t) g = g
  good_factors («and» t) g = (g, tt)
  good_factors (oneof t) g = (g, tt)

  good_andor : (t : Terms N) → GoodTerms Good t → GoodExpr Good (andor t)
  unfolding GoodExpr
  good_andor t g = g

  good_merge : (d e : Expr N) → GoodExpr Good d → GoodExpr Good e → GoodExpr Good (andor_mut d e)
  good_merge d e g h = rw (merged_factors d e) (good_andor (append (factors d) (factors e)) (good_append (factors d) (factors e) (good_factors d g) (good_factors e h)))

  good_references : (xs : List N) → Each Good xs → GoodTerms Good (references xs)
  unfolding GoodExpr references Each
  good_references [] g = tt
  good_references (x ∷ xs) g = (g.0, good_references xs g.1)

  abbrev GoodGroup : Group N → Type 0
  GoodGroup y = Good y.super × Each Good y.subs

  module _ (same : N → N → Bool) where
    good_found : (p : N) (g : List (Combined N)) → Each (GoodCombined Good) g → (d : Expr N) → find same p g ≡ some d → GoodExpr Good d
    unfolding find Each
    good_found p [] G d h = not_both true refl (cc)
    good_found p (c ∷ g) G d h = elim (both (same c.owner p)) [
      | inl a ↦ let k : c.expr ≡ d = cc (rw a at h) in rw k at G.0.1
      | inr a ↦ good_found p g G.1 d (rw a at h)
    ]

    good_merged : (p : N) (e : Expr N) (g : List (Combined N)) → Good p → GoodExpr Good e → Each (GoodCombined Good) g → Each (GoodCombined Good) (merged same p e g)
    unfolding merged Each
    good_merged p e [] P X G = ((P, X), tt)
    good_merged p e (c ∷ g) P X G = elim (both (same c.owner p)) [
      | inl a ↦ rw a ((G.0.0, good_merge c.expr e G.0.1 X), G.1)
      | inr a ↦ rw a (G.0, good_merged p e g P X G.1)
    ]

    good_all : (cs g : List (Combined N)) → Each (GoodCombined Good) g → Each (GoodCombined Good) cs → Each (GoodCombined Good) (merged_onto same g cs)
    unfolding merged_onto Each
    good_all [] g G C = G
    good_all (c ∷ cs) g G C = good_all cs (merged same c.owner c.expr g) (good_merged c.owner c.expr g C.0.0 C.0.1 G) C.1

    good_more : (xs : List N) (x : N) → Each Good xs → Good x → Each Good (xs ++ (x ∷ []))
    unfolding Each
    good_more [] x G X = (X, tt)
    good_more (y ∷ xs) x G X = (G.0, good_more xs x G.1 X)

    good_into : (x : Pair N) (gs : List (Group N)) → GoodPair Good x → Each GoodGroup gs → Each GoodGroup (into same x gs)
    unfolding into Each
    good_into x [] X G = ((X.0, (X.1, tt)), tt)
    good_into x (y ∷ gs) X G = elim (both (same y.super x.super)) [
      | inl a ↦ rw a ((G.0.0, good_more y.subs x.sub G.0.1 X.1), G.1)
      | inr a ↦ rw a (G.0, good_into x gs X G.1)
    ]

    good_onto : (xs : List (Pair N)) (gs : List (Group N)) → Each (GoodPair Good) xs → Each GoodGroup gs → Each GoodGroup (grouped_onto same gs xs)
    unfolding grouped_onto Each
    good_onto [] gs X G = G
    good_onto (x ∷ xs) gs X G = good_onto xs (into same x gs) X.1 (good_into x gs X.0 G)

    good_left : (d : Expr N) (xs : List N) → Each Good xs → Each Good (left_over same d xs)
    unfolding left_over Each
    good_left d [] G = tt
    good_left d (x ∷ xs) G = elim (both (is_in same x d)) [ inl a ↦ rw a (good_left d xs G.1) | inr a ↦ rw a (G.0, good_left d xs G.1) ]

    good_joined : (p : N) (xs : List N) (g : List (Combined N)) → Good p → Each Good xs → Each (GoodCombined Good) g → Each (GoodCombined Good) (joined same p xs g)
    unfolding joined
    good_joined p [] g P X G = G
    good_joined p (x ∷ xs) g P X G = good_merged p (andor (references (x ∷ xs))) g P (good_andor (references (x ∷ xs)) (good_references (x ∷ xs) X)) G

    good_subtyped : (y : Group N) (o : Option (Expr N)) (g : List (Combined N)) → GoodGroup y → Each (GoodCombined Good) g → Each (GoodCombined Good) (subtyped same y o g)
    unfolding subtyped
    good_subtyped y none g Y G = good_merged y.super (andor (references y.subs)) g Y.0 (good_andor (references y.subs) (good_references y.subs Y.1)) G
    good_subtyped y (some d) g Y G = good_joined y.super (left_over same d y.subs) g Y.0 (good_left d y.subs Y.1) G

    good_groups : (gs : List (Group N)) (g : List (Combined N)) → Each GoodGroup gs → Each (GoodCombined Good) g → Each (GoodCombined Good) (with_groups same gs g)
    unfolding with_groups Each
    good_groups [] g Y G = G
    good_groups (y ∷ gs) g Y G = good_groups gs (subtyped same y (find same y.super g) g) Y.1 (good_subtyped y (find same y.super g) g Y.0 G)

    pub good_gathered : (cs : List (Combined N)) (xs : List (Pair N)) → Each (GoodCombined Good) cs → Each (GoodPair Good) xs → Each (GoodCombined Good) (gathered same cs xs)
    unfolding gathered with_subtypes grouped Each
    good_gathered cs xs C X = good_groups (grouped_onto same [] xs) (merged_onto same [] cs) (good_onto xs [] X tt) (good_all cs [] tt C)

-- ---- each step
module _ {N M : Type 0} (f : N → M) (same : N → N → Bool) (same' : M → M → Bool) (Good : N → Type 0) (agree : (p q : N) → Good p → Good q → same p q ≡ same' (f p) (f q)) where
  mutual
    unfolding is_in map_expr GoodExpr

    map_in : (x : N) → Good x → (e : Expr N) → GoodExpr Good e → is_in same' (f x) (map_expr f e) ≡ is_in same x e
    map_in x X (reference n) G = sym (agree n x G X)
    map_in x X (andor t) G = map_in_some x X t G
    map_in x X («and» t) G = map_in_some x X t G
    map_in x X (oneof t) G = map_in_some x X t G

    map_in_some : (x : N) → Good x → (t : Terms N) → GoodTerms Good t → is_in_some same' (f x) (map_terms f t) ≡ is_in_some same x t
    map_in_some x X end G = refl
    map_in_some x X (e then t) G = rw (map_in x X e G.0, map_in_some x X t G.1)

  pub mapped_find : (p : N) (g : List (Combined N)) → Good p → Each (GoodCombined Good) g → find same' (f p) (map (map_combined f) g) ≡ map_found f (find same p g)
  unfolding find Each
  mapped_find p [] P G = refl
  mapped_find p (c ∷ g) P G = elim (both (same c.owner p)) [
    | inl a ↦ rw (← agree c.owner p G.0.0 P, a)
    | inr a ↦ rw (← agree c.owner p G.0.0 P, a) (mapped_find p g P G.1)
  ]

  mapped_merged : (p : N) (e : Expr N) (g : List (Combined N)) → Good p → Each (GoodCombined Good) g
      → merged same' (f p) (map_expr f e) (map (map_combined f) g) ≡ map (map_combined f) (merged same p e g)
  unfolding merged Each
  mapped_merged p e [] P G = refl
  mapped_merged p e (c ∷ g) P G = elim (both (same c.owner p)) [
    | inl a ↦ rw (← agree c.owner p G.0.0 P, a, map_merged f c.expr e)
    | inr a ↦ rw (← agree c.owner p G.0.0 P, a) (ap (λ (l : List (Combined M)). map_combined f c ∷ l) (mapped_merged p e g P G.1))
  ]

  mapped_all : (cs g : List (Combined N)) → Each (GoodCombined Good) cs → Each (GoodCombined Good) g
      → merged_onto same' (map (map_combined f) g) (map (map_combined f) cs) ≡ map (map_combined f) (merged_onto same g cs)
  unfolding merged_onto Each
  mapped_all [] g C G = refl
  mapped_all (c ∷ cs) g C G =
      ap (λ (l : List (Combined M)). merged_onto same' l (map (map_combined f) cs)) (mapped_merged c.owner c.expr g C.0.0 G)
      ∙ mapped_all cs (merged same c.owner c.expr g) C.1 (good_merged Good same c.owner c.expr g C.0.0 C.0.1 G)

  map_more : (xs : List N) (x : N) → map f xs ++ (f x ∷ []) ≡ map f (xs ++ (x ∷ []))
  map_more [] x = refl
  map_more (y ∷ xs) x = rw (map_more xs x)

  mapped_into : (x : Pair N) (gs : List (Group N)) → GoodPair Good x → Each (GoodGroup Good) gs → into same' (map_pair f x) (map (map_group f) gs) ≡ map (map_group f) (into same x gs)
  unfolding into Each
  mapped_into x [] X G = refl
  mapped_into x (y ∷ gs) X G = elim (both (same y.super x.super)) [
    | inl a ↦ rw (← agree y.super x.super G.0.0 X.0, a, map_more y.subs x.sub)
    | inr a ↦ rw (← agree y.super x.super G.0.0 X.0, a) (ap (λ (l : List (Group M)). map_group f y ∷ l) (mapped_into x gs X G.1))
  ]

  mapped_onto : (xs : List (Pair N)) (gs : List (Group N)) → Each (GoodPair Good) xs → Each (GoodGroup Good) gs
      → grouped_onto same' (map (map_group f) gs) (map (map_pair f) xs) ≡ map (map_group f) (grouped_onto same gs xs)
  unfolding grouped_onto Each
  mapped_onto [] gs X G = refl
  mapped_onto (x ∷ xs) gs X G = ap (λ (l : List (Group M)). grouped_onto same' l (map (map_pair f) xs)) (mapped_into x gs X.0 G) ∙ mapped_onto xs (into same x gs) X.1 (good_into Good same x gs X.0 G)

  mapped_left : (d : Expr N) (xs : List N) → GoodExpr Good d → Each Good xs → left_over same' (map_expr f d) (map f xs) ≡ map f (left_over same d xs)
  unfolding left_over Each
  mapped_left d [] D X = refl
  mapped_left d (x ∷ xs) D X = elim (both (is_in same x d)) [
    | inl a ↦ rw (map_in x X.0 d D, a) (mapped_left d xs D X.1)
    | inr a ↦ rw (map_in x X.0 d D, a) (ap (λ (l : List M). f x ∷ l) (mapped_left d xs D X.1))
  ]

  andor_references : (xs : List N) → andor (references (map f xs)) ≡ map_expr f (andor (references xs))
  andor_references xs = ap andor (sym (map_references f xs)) ∙ sym (map_andor f (references xs))

  mapped_joined : (p : N) (xs : List N) (g : List (Combined N)) → Good p → Each (GoodCombined Good) g → joined same' (f p) (map f xs) (map (map_combined f) g) ≡ map (map_combined f) (joined same p xs g)
  unfolding joined
  mapped_joined p [] g P G = refl
  mapped_joined p (x ∷ xs) g P G = rw (andor_references (x ∷ xs)) (mapped_merged p (andor (references (x ∷ xs))) g P G)

  mapped_subtyped : (y : Group N) (o : Option (Expr N)) (g : List (Combined N)) → GoodGroup Good y → Each (GoodCombined Good) g → ((d : Expr N) → o ≡ some d → GoodExpr Good d)
      → subtyped same' (map_group f y) (map_found f o) (map (map_combined f) g) ≡ map (map_combined f) (subtyped same y o g)
  unfolding subtyped
  mapped_subtyped y none g Y G D = rw (andor_references y.subs) (mapped_merged y.super (andor (references y.subs)) g Y.0 G)
  mapped_subtyped y (some d) g Y G D = rw (mapped_left d y.subs (D d refl) Y.1) (mapped_joined y.super (left_over same d y.subs) g Y.0 G)

  mapped_groups : (gs : List (Group N)) (g : List (Combined N)) → Each (GoodGroup Good) gs → Each (GoodCombined Good) g
      → with_groups same' (map (map_group f) gs) (map (map_combined f) g) ≡ map (map_combined f) (with_groups same gs g)
  unfolding with_groups Each
  mapped_groups [] g Y G = refl
  mapped_groups (y ∷ gs) g Y G =
      ap (λ (o : Option (Expr M)). with_groups same' (map (map_group f) gs) (subtyped same' (map_group f y) o (map (map_combined f) g))) (mapped_find y.super g Y.0.0 G)
      ∙ ap (λ (l : List (Combined M)). with_groups same' (map (map_group f) gs) l) (mapped_subtyped y (find same y.super g) g Y.0 G (good_found Good same y.super g G))
      ∙ mapped_groups gs (subtyped same y (find same y.super g) g) Y.1 (good_subtyped Good same y (find same y.super g) g Y.0 G)

  -- all of it
  pub mapped_gather : (cs : List (Combined N)) (xs : List (Pair N)) → Each (GoodCombined Good) cs → Each (GoodPair Good) xs
      → gathered same' (map (map_combined f) cs) (map (map_pair f) xs) ≡ map (map_combined f) (gathered same cs xs)
  unfolding gathered with_subtypes grouped Each
  mapped_gather cs xs C X =
      rw (mapped_all cs [] C tt, mapped_onto xs [] X tt) (mapped_groups (grouped_onto same [] xs) (merged_onto same [] cs) (good_onto Good same xs [] X tt) (good_all Good same cs [] tt C))
