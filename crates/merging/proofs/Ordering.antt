-- The owners stand in order of first entry.
use mathlib.Core.Path.{◌≡◌, refl, sym, ap, ◌∙◌}
use mathlib.Core.Logic.{inl, inr}
use mathlib.Core.List.{List, [], ◌∷◌, ◌++◌, map, append-nil, append_assoc}
use mathlib.Core.Bool.{Bool, true, false, cond}
use mathlib.Core.Option.{Option, none, some}
use Rattle.expression.specs.MeaningExpression.{Expr, andor}
use Rattle.merging.specs.MeaningMerging.{Combined, Pair, Group, references, find, merged, into, grouped_onto, grouped, left_over, joined, subtyped, with_groups, with_subtypes}
use Rattle.merging.specs.MeaningItems.{merged_onto, gathered}
use Rattle.merging.specs.MeaningFirsts.{among, firsts}
use Rattle.merging.specs.Claims.{Equivalence}
use Rattle.merging.proofs.Factors.{both, not_both}
use Rattle.merging.proofs.Finding.{same_right}

abbrev pub owners : {N : Type 0} → List (Combined N) → List N
owners cs = map (λ c. c.owner) cs

abbrev pub supers : {N : Type 0} → List (Pair N) → List N
supers xs = map (λ x. x.super) xs

module _ {N : Type 0} (same : N → N → Bool) where
  -- one name behind the others, unless it is among them; and several
  unfoldable entry : N → List N → List N
  entry p [] = p ∷ []
  entry p (q ∷ qs) = cond (same q p) (q ∷ qs) (q ∷ entry p qs)

  unfoldable entries : List N → List N → List N
  entries s [] = s
  entries s (p ∷ ps) = entries (entry p s) ps

  entries_append : (s ps qs : List N) → entries s (ps ++ qs) ≡ entries (entries s ps) qs
  unfolding entries
  entries_append s [] qs = refl
  entries_append s (p ∷ ps) qs = entries_append (entry p s) ps qs

  entry_old : (p : N) (s : List N) → among same p s ≡ true → entry p s ≡ s
  unfolding entry among
  entry_old p [] h = not_both true refl (sym h)
  entry_old p (q ∷ s) h = elim (both (same q p)) [ inl a ↦ rw a | inr a ↦ rw a (ap (λ (l : List N). q ∷ l) (entry_old p s (rw a at h))) ]

  entry_new : (p : N) (s : List N) → among same p s ≡ false → entry p s ≡ s ++ (p ∷ [])
  unfolding entry among
  entry_new p [] h = refl
  entry_new p (q ∷ s) h = elim (both (same q p)) [ inl a ↦ not_both true refl (rw a at h) | inr a ↦ rw a (ap (λ (l : List N). q ∷ l) (entry_new p s (rw a at h))) ]

  entries_firsts : (s ps : List N) → entries s ps ≡ s ++ firsts same s ps
  unfolding entries firsts
  entries_firsts s [] = sym (append-nil s)
  entries_firsts s (p ∷ ps) = elim (both (among same p s)) [
    | inl a ↦ rw (a, entry_old p s a) (entries_firsts s ps)
    | inr a ↦ rw (a, entry_new p s a) (entries_firsts (s ++ (p ∷ [])) ps ∙ append_assoc s (p ∷ []) (firsts same (s ++ (p ∷ [])) ps))
  ]

  -- ---- the steps, by their owners
  owners_merged : (p : N) (e : Expr N) (g : List (Combined N)) → owners (merged same p e g) ≡ entry p (owners g)
  unfolding merged entry
  owners_merged p e [] = refl
  owners_merged p e (c ∷ g) = elim (both (same c.owner p)) [ inl a ↦ rw a | inr a ↦ rw a (ap (λ (l : List N). c.owner ∷ l) (owners_merged p e g)) ]

  owners_all : (cs g : List (Combined N)) → owners (merged_onto same g cs) ≡ entries (owners g) (owners cs)
  unfolding merged_onto entries
  owners_all [] g = refl
  owners_all (c ∷ cs) g = owners_all cs (merged same c.owner c.expr g) ∙ rw (owners_merged c.owner c.expr g)

  is_among : (p : N) (g : List (Combined N)) (d : Expr N) → find same p g ≡ some d → among same p (owners g) ≡ true
  unfolding find among
  is_among p [] d f = not_both true refl (cc)
  is_among p (c ∷ g) d f = elim (both (same c.owner p)) [ inl a ↦ rw a | inr a ↦ rw a (is_among p g d (rw a at f)) ]

  owners_joined : (p : N) (xs : List N) (g : List (Combined N)) → among same p (owners g) ≡ true → owners (joined same p xs g) ≡ entry p (owners g)
  unfolding joined
  owners_joined p [] g h = sym (entry_old p (owners g) h)
  owners_joined p (x ∷ xs) g h = owners_merged p (andor (references (x ∷ xs))) g

  owners_subtyped : (y : Group N) (o : Option (Expr N)) (g : List (Combined N)) → find same y.super g ≡ o → owners (subtyped same y o g) ≡ entry y.super (owners g)
  unfolding subtyped
  owners_subtyped y none g f = owners_merged y.super (andor (references y.subs)) g
  owners_subtyped y (some d) g f = owners_joined y.super (left_over same d y.subs) g (is_among y.super g d f)

  abbrev heads : List (Group N) → List N
  heads gs = map (λ y. y.super) gs

  owners_groups : (gs : List (Group N)) (g : List (Combined N)) → owners (with_groups same gs g) ≡ entries (owners g) (heads gs)
  unfolding with_groups entries
  owners_groups [] g = refl
  owners_groups (y ∷ gs) g = owners_groups gs (subtyped same y (find same y.super g) g) ∙ rw (owners_subtyped y (find same y.super g) g refl)

  heads_into : (x : Pair N) (gs : List (Group N)) → heads (into same x gs) ≡ entry x.super (heads gs)
  unfolding into entry
  heads_into x [] = refl
  heads_into x (y ∷ gs) = elim (both (same y.super x.super)) [ inl a ↦ rw a | inr a ↦ rw a (ap (λ (l : List N). y.super ∷ l) (heads_into x gs)) ]

  heads_onto : (xs : List (Pair N)) (gs : List (Group N)) → heads (grouped_onto same gs xs) ≡ entries (heads gs) (supers xs)
  unfolding grouped_onto entries
  heads_onto [] gs = refl
  heads_onto (x ∷ xs) gs = heads_onto xs (into same x gs) ∙ rw (heads_into x gs)

  -- ---- entered once or again, the order is the same
  pub among_append : (q : N) (s t : List N) → among same q (s ++ t) ≡ cond (among same q s) true (among same q t)
  unfolding among
  among_append q [] t = refl
  among_append q (p ∷ s) t = elim (both (same p q)) [ inl a ↦ rw a | inr a ↦ rw a (among_append q s t) ]

  among_entry : (q p : N) (s : List N) → among same q s ≡ true → among same q (entry p s) ≡ true
  among_entry q p s h = elim (both (among same p s)) [
    | inl a ↦ rw (entry_old p s a) h
    | inr a ↦ rw (entry_new p s a, among_append q s (p ∷ []), h)
  ]

module _ {N : Type 0} {same : N → N → Bool} (E : Equivalence same) where
  among_same : (p q : N) → same q p ≡ true → (s : List N) → among same q s ≡ among same p s
  unfolding among
  among_same p q h [] = refl
  among_same p q h (r ∷ s) = rw (same_right E p q r h, among_same p q h s)

  among_entered : (q p : N) (s : List N) → same p q ≡ true → among same q (entry same p s) ≡ true
  unfolding among
  among_entered q p s h = elim (both (among same p s)) [
    | inl a ↦ rw (entry_old same p s a) (sym (among_same q p h s) ∙ a)
    | inr a ↦ rw (entry_new same p s a, among_append same q s (p ∷ []), h) (last (among same q s))
  ]
    where
      last : (b : Bool) → cond b true true ≡ true
      last true = refl
      last false = refl

  wider : (s t : List N) (p : N) → ((q : N) → among same q t ≡ true → among same q s ≡ true)
      → (q : N) → among same q (t ++ (p ∷ [])) ≡ true → among same q (entry same p s) ≡ true
  unfolding among
  wider s t p f q h = elim (both (among same q t)) [
    | inl a ↦ among_entry same q p s (f q a)
    | inr a ↦ elim (both (same p q)) [
      | inl b ↦ among_entered q p s b
      | inr b ↦ not_both true refl (sym (sym (among_append same q t (p ∷ []) ∙ rw (a, b)) ∙ h))
    ]
  ]

  entries_again : (s t ps : List N) → ((q : N) → among same q t ≡ true → among same q s ≡ true) → entries same s (firsts same t ps) ≡ entries same s ps
  unfolding entries firsts
  entries_again s t [] f = refl
  entries_again s t (p ∷ ps) f = elim (both (among same p t)) [
    | inl a ↦ rw (a, entry_old same p s (f p a)) (entries_again s t ps f)
    | inr a ↦ rw a (entries_again (entry same p s) (t ++ (p ∷ [])) ps (wider s t p f))
  ]

  pub owners_gathered : (cs : List (Combined N)) (xs : List (Pair N)) → owners (gathered same cs xs) ≡ firsts same [] (owners cs ++ supers xs)
  unfolding gathered with_subtypes grouped among
  owners_gathered cs xs =
      owners_groups same (grouped_onto same [] xs) (merged_onto same [] cs)
      ∙ rw (owners_all same cs [], heads_onto same xs [], entries_firsts same [] (supers xs))
      (entries_again (entries same [] (owners cs)) [] (supers xs) (λ q h. not_both true refl (sym h)) ∙ sym (entries_append same [] (owners cs) (supers xs)) ∙ entries_firsts same [] (owners cs ++ supers xs))

  -- only what is among them matters of those that stand already
  firsts_same : (s t ps : List N) → ((q : N) → among same q s ≡ among same q t) → firsts same s ps ≡ firsts same t ps
  unfolding firsts
  firsts_same s t [] f = refl
  firsts_same s t (p ∷ ps) f = elim (both (among same p t)) [
    | inl a ↦ rw (f p, a) (firsts_same s t ps f)
    | inr a ↦ rw (f p, a) (ap (λ (l : List N). p ∷ l) (firsts_same (s ++ (p ∷ [])) (t ++ (p ∷ [])) ps (λ q. among_append same q s (p ∷ []) ∙ rw (f q) (sym (among_append same q t (p ∷ []))))))
  ]

  -- one that stands already may stand again
  pub firsts_again : (s : List N) (p : N) (ps : List N) → among same p s ≡ true → firsts same s (p ∷ ps) ≡ firsts same (s ++ (p ∷ [])) ps
  unfolding firsts among
  firsts_again s p ps h = rw h (firsts_same s (s ++ (p ∷ [])) ps again)
    where
      kept : (b : Bool) → b ≡ cond b true false
      kept true = refl
      kept false = refl

      again : (q : N) → among same q s ≡ among same q (s ++ (p ∷ []))
      again q = elim (both (same p q)) [
        | inl a ↦ let k : among same q s ≡ true = sym (among_same q p a s) ∙ h in rw (among_append same q s (p ∷ []), k)
        | inr a ↦ rw (among_append same q s (p ∷ []), a) (kept (among same q s))
      ]
