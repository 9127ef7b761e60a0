-- The items of an owner with no subtype left over: none, one that is no ANDOR, or others.
use mathlib.Core.Path.{◌≡◌, refl, sym, ap, ◌∙◌}
use mathlib.Core.Bool.{true, false}
use mathlib.Core.Logic.{inl, inr}
use mathlib.Core.List.{List, [], ◌∷◌, map}
use Prim.Native.Nat.{ℕ, ◌≤◌}
use native.Mathlib.Omega.{arith}
use lib.Dec.{eqb}
use lib.ListN.{length, get_or}
use Rattle.std.specs.Prelude.{Option, None, Some, filter}
use Rattle.std.specs.Option.{is_some}
use Rattle.std.proofs.lemmas.Iterator.{YieldsList}
use Rattle.expression.specs.declared.Kind.TheVariants.{Andor}
use Rattle.expression.specs.MeaningExpression.{Expr, reference, andor, «and», oneof}
use Rattle.expression.specs.MirrorKinds.{kind_of}
use Rattle.expression.specs.MirrorNodes.{flat}
use Rattle.expression.proofs.Spans.{flat_long}
use Rattle.merging.specs.MeaningMerging.{Combined}
use Rattle.merging.specs.MeaningItems.{exprs_of}
use Rattle.merging.specs.MirrorStream.{stream_of, Records, begins, alone_of}
use Rattle.merging.specs.MirrorWalk.{records_of, shown_item}
use Rattle.merging.specs.declared.Combination.{Combination}
use Rattle.merging.proofs.Factors.{both}
use Rattle.merging.proofs.Asking.{has}
use Rattle.merging.proofs.Walking.{records_are}

-- ---- one call of `next`
module _ {S A B : Type 0} {steps : S → Option A → S → Type 0} (v : A → B) (s : S) (ys : List B) (t : S) where
  pub none_left : steps s None t → YieldsList steps v s ys → ys ≡ []
  none_left p road = go ys road
    where
      go : (ys : List B) → YieldsList steps v s ys → ys ≡ []
      go [] r = refl
      go (y ∷ ys) r = absurd (r.runs.0 t p)

  pub one_left : (x : A) → steps s (Some x) t → YieldsList steps v s ys → (zs : List B) × (ys ≡ v x ∷ zs) × YieldsList steps v t zs
  one_left x p road = go ys road
    where
      go : (ys : List B) → YieldsList steps v s ys → (zs : List B) × (ys ≡ v x ∷ zs) × YieldsList steps v t zs
      go [] r = absurd (r.runs x t p)
      go (y ∷ ys) r = let h = r.runs.1 x t p in (ys, ap (λ (z : B). z ∷ ys) (sym h.0), record { runs = h.1 })

  pub some_left : (r : Option A) → steps s r t → is_some r ≡ true → YieldsList steps v s ys → (z : B) × (zs : List B) × (ys ≡ z ∷ zs)
  some_left None p h road = let z : ◌≡◌ {A = ℕ} 0 1 = cc in absurd (omega arith)
  some_left (Some x) p h road = let n = one_left x p road in (v x, n.0, n.1)

  pub no_more : (r : Option A) → steps s r t → is_some r ≡ false → YieldsList steps v s ys → ys ≡ []
  no_more None p h road = none_left p road
  no_more (Some x) p h road = let z : ◌≡◌ {A = ℕ} 0 1 = cc in absurd (omega arith)

-- ---- the nodes of the owner's items
own_nodes : (owner : ℕ) (cs : List (Combined ℕ)) → map (λ (x : ℕ × List ℕ). x.1) (filter (has owner) (map shown_item cs)) ≡ map flat (exprs_of eqb owner cs)
unfolding exprs_of
own_nodes owner [] = refl
own_nodes owner (c ∷ cs) = elim (both (eqb c.owner owner)) [ inl a ↦ rw a (ap (λ (l : List (List ℕ)). flat c.expr ∷ l) (own_nodes owner cs)) | inr a ↦ rw a (own_nodes owner cs) ]

abbrev pub own : ℕ → List ℕ → List (ℕ × List ℕ)
own owner l = filter (has owner) (records_of l)

module _ (l : List ℕ) (owner stop : ℕ) (ys : List (ℕ × List ℕ)) (s : own owner l ≡ ys) where
  nodes_are : (cs : List (Combined ℕ)) → l ≡ stream_of cs → map (λ (x : ℕ × List ℕ). x.1) ys ≡ map flat (exprs_of eqb owner cs)
  nodes_are cs e = ap (map (λ (x : ℕ × List ℕ). x.1)) (sym s ∙ ap (λ (m : List ℕ). own owner m) e ∙ ap (filter (has owner)) (records_are cs)) ∙ own_nodes owner cs

  pub alone_none : ys ≡ [] → (r : Option Combination) → r ≡ None → (cs : List (Combined ℕ)) → l ≡ stream_of cs → r ≡ alone_of (exprs_of eqb owner cs) stop
  unfolding alone_of
  alone_none i r h cs e = h ∙ go (exprs_of eqb owner cs) (sym (nodes_are cs e) ∙ ap (map (λ (x : ℕ × List ℕ). x.1)) i)
    where
      go : (es : List (Expr ℕ)) → map flat es ≡ [] → None ≡ alone_of es stop
      go [] h = refl
      go (e ∷ es) h = absurd (omega (arith, ap length h))

  module _ (x : ℕ × List ℕ) (zs : List (ℕ × List ℕ)) (i : ys ≡ x ∷ zs) where
    -- the first has a node at least
    pub alone_long : Records l → 3 ≤ length x.1
    alone_long w = go (exprs_of eqb owner w.list) (sym (nodes_are w.list w.is) ∙ ap (map (λ (x : ℕ × List ℕ). x.1)) i)
      where
        go : (es : List (Expr ℕ)) → map flat es ≡ x.1 ∷ map (λ (x : ℕ × List ℕ). x.1) zs → 3 ≤ length x.1
        go [] h = absurd (omega (arith, ap length h))
        go (e ∷ es) h = let p : flat e ≡ x.1 = cc in rw (← p) (flat_long e)

    pub alone_whole : kind_of (get_or x.1 0 0) ≡ Andor → (cs : List (Combined ℕ)) → l ≡ stream_of cs → Some (record { start = 0; stop = stop }) ≡ alone_of (exprs_of eqb owner cs) stop
    unfolding alone_of begins flat
    alone_whole k cs e = go (exprs_of eqb owner cs) (sym (nodes_are cs e) ∙ ap (map (λ (x : ℕ × List ℕ). x.1)) i)
      where
        first : (e : Expr ℕ) (es : List (Expr ℕ)) → kind_of (get_or (flat e) 0 0) ≡ Andor → Some (record { start = 0; stop = stop }) ≡ alone_of (e ∷ es) stop
        first (reference n) es k = absurd (cc)
        first («and» t) es k = absurd (cc)
        first (oneof t) es k = absurd (cc)
        first (andor t) [] k = refl
        first (andor t) (d ∷ es) k = refl

        go : (es : List (Expr ℕ)) → map flat es ≡ x.1 ∷ map (λ (x : ℕ × List ℕ). x.1) zs → Some (record { start = 0; stop = stop }) ≡ alone_of es stop
        go [] h = absurd (omega (arith, ap length h))
        go (e ∷ es) h = let p : flat e ≡ x.1 = cc in first e es (ap (λ (m : List ℕ). kind_of (get_or m 0 0)) p ∙ k)

    pub alone_more : (z : ℕ × List ℕ) (us : List (ℕ × List ℕ)) → zs ≡ z ∷ us → (cs : List (Combined ℕ)) → l ≡ stream_of cs → Some (record { start = 0; stop = stop }) ≡ alone_of (exprs_of eqb owner cs) stop
    unfolding alone_of
    alone_more z us j cs e = go (exprs_of eqb owner cs) (sym (nodes_are cs e) ∙ ap (map (λ (x : ℕ × List ℕ). x.1)) (i ∙ ap (λ (m : List (ℕ × List ℕ)). x ∷ m) j))
      where
        go : (es : List (Expr ℕ)) → map flat es ≡ x.1 ∷ z.1 ∷ map (λ (x : ℕ × List ℕ). x.1) us → Some (record { start = 0; stop = stop }) ≡ alone_of es stop
        go [] h = absurd (omega (arith, ap length h))
        go (e ∷ []) h = absurd (omega (arith, ap length h))
        go (e ∷ d ∷ es) h = refl

    pub alone_one : (kind_of (get_or x.1 0 0) ≡ Andor → ⊥) → zs ≡ [] → (cs : List (Combined ℕ)) → l ≡ stream_of cs → Some (record { start = 3; stop = stop }) ≡ alone_of (exprs_of eqb owner cs) stop
    unfolding alone_of begins flat
    alone_one k j cs e = go (exprs_of eqb owner cs) (sym (nodes_are cs e) ∙ ap (map (λ (x : ℕ × List ℕ). x.1)) (i ∙ ap (λ (m : List (ℕ × List ℕ)). x ∷ m) j))
      where
        one : (e : Expr ℕ) → (kind_of (get_or (flat e) 0 0) ≡ Andor → ⊥) → Some (record { start = 3; stop = stop }) ≡ alone_of (e ∷ []) stop
        one (reference n) k = refl
        one («and» t) k = refl
        one (oneof t) k = refl
        one (andor t) k = absurd (k refl)

        go : (es : List (Expr ℕ)) → map flat es ≡ x.1 ∷ [] → Some (record { start = 3; stop = stop }) ≡ alone_of es stop
        go [] h = absurd (omega (arith, ap length h))
        go (e ∷ d ∷ es) h = absurd (omega (arith, ap length h))
        go (e ∷ []) h = let p : flat e ≡ x.1 = cc in one e (λ q. k (ap (λ (m : List ℕ). kind_of (get_or m 0 0)) (sym p) ∙ q))
