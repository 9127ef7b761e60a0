-- A scope that was read, back from its struct, and the question of the partial order.
use mathlib.Core.Path.{◌≡◌, refl, sym, ap, ◌∙◌}
use mathlib.Core.List.{List, [], ◌∷◌}
use mathlib.Core.Option.{Option, none, some}
use Prim.Native.Nat.{ℕ, zero, suc, ◌+◌, ◌-◌, ◌≤◌}
use native.Mathlib.Omega.{arith}
use lib.Dec.{eqb}
use lib.ListN.{length}
use Rattle.std.specs.declared.cmp.Ordering.{Ordering}
use Rattle.std.specs.Prelude as code
use Rattle.std.specs.Prelude.{Ok, Err, Result}
use Rattle.refusal.specs.MeaningAnswer.{Answer, done, refused}
use Rattle.refusal.specs.Told.{told_refusal}
use Rattle.refusal.specs.declared.Reason.TheVariants.{Malformed}
use Rattle.refusal.specs.declared.Refusal.{Refusal}
use Rattle.grammar.specs.MeaningReading.{Reading}
use Rattle.grammar.proofs.Choosing.{either, clash}
use Rattle.scope.specs.MeaningScope as meaning
use Rattle.scope.specs.MeaningScope.{Step, stop, most_steps, compared}
use Rattle.scope.specs.Told.{told_kind, told_compared, told_step, told_scope}
use Rattle.scope.specs.Held.{kind_in, rung_of, no_rung, scope_of}
use Rattle.scope.specs.MirrorScope.{Spans, Fits}
use Rattle.query.specs.MeaningQuery.{step_at, Taken, one_more, steps_at, scope_query, order_of}
use Rattle.query.specs.Promises.{PromiseOrder}
use Rattle.scope.specs.declared.Scope.{Scope}
use Rattle.query.specs.MirrorQuery.{asked_by}
use Rattle.query.proofs.Reaching.{Lies, StepLies, step_lies}
use Rattle.query.proofs.Routes.{few_steps}

-- ---- a scope that was read, back from its struct

kind_back : (k : meaning.ScopeType) → told_kind (kind_in k) ≡ k
kind_back meaning.ScopeType.entity = refl
kind_back meaning.ScopeType.alias = refl
kind_back meaning.ScopeType.function = refl
kind_back meaning.ScopeType.procedure = refl
kind_back meaning.ScopeType.query = refl
kind_back meaning.ScopeType.repeat = refl
kind_back meaning.ScopeType.rule = refl
kind_back meaning.ScopeType.schema = refl
kind_back meaning.ScopeType.sub_type = refl
kind_back meaning.ScopeType.type = refl

pub step_back : (q : List ℕ) (x : Step) → Lies q x.name → told_step q (rung_of x) ≡ x
unfolding told_step rung_of
step_back q x l = let n : x.name.at + length x.name.bytes - x.name.at ≡ length x.name.bytes = omega arith in rw (kind_back x.kind, n, l.there) refl

pub spans_of : (q : List ℕ) (x : Step) → Lies q x.name → Spans q (rung_of x)
unfolding rung_of
spans_of q x l = record { ordered = omega arith; inside = l.within }

pub spans_none : (q : List ℕ) → Spans q no_rung
spans_none q = record { ordered = omega arith; inside = omega arith }

abbrev pub AllLie : List ℕ → List Step → Type 0
AllLie q [] = Unit {0}
AllLie q (x ∷ xs) = Lies q x.name × AllLie q xs

pub steps_back : (q : List ℕ) (l : List Step) → AllLie q l → length l ≤ 3 → told_scope q (scope_of l) ≡ l
unfolding told_scope scope_of
steps_back q [] a h = refl
steps_back q (x ∷ []) a h = rw (step_back q x a.0) refl
steps_back q (x ∷ y ∷ []) a h = rw (step_back q x a.0, step_back q y a.1.0) refl
steps_back q (x ∷ y ∷ z ∷ []) a h = rw (step_back q x a.0, step_back q y a.1.0, step_back q z a.1.1.0) refl
steps_back q (x ∷ y ∷ z ∷ w ∷ l) a h = absurd (let e : ⊥ = omega arith in e)

pub steps_fit : (q : List ℕ) (l : List Step) → AllLie q l → length l ≤ 3 → Fits q (scope_of l)
unfolding scope_of
steps_fit q [] a h = record { few = omega arith; first = spans_none q; second = spans_none q; third = spans_none q }
steps_fit q (x ∷ []) a h = record { few = omega arith; first = spans_of q x a.0; second = spans_none q; third = spans_none q }
steps_fit q (x ∷ y ∷ []) a h = record { few = omega arith; first = spans_of q x a.0; second = spans_of q y a.1.0; third = spans_none q }
steps_fit q (x ∷ y ∷ z ∷ []) a h = record { few = omega arith; first = spans_of q x a.0; second = spans_of q y a.1.0; third = spans_of q z a.1.1.0 }
steps_fit q (x ∷ y ∷ z ∷ w ∷ l) a h = absurd (let e : ⊥ = omega arith in e)

lie_by : (q : List ℕ) (at : ℕ) (go : ℕ → Taken) → ((b : ℕ) → AllLie q (go b).steps) → (m : Option Step) → StepLies q m → AllLie q (one_more m at go).steps
lie_by q at go k none l = tt
lie_by q at go k (some x) l = (l, k (stop x.name))

pub steps_lie : (k : ℕ) (q : List ℕ) (at : ℕ) → AllLie q (steps_at k q at).steps
unfolding steps_at
steps_lie zero q at = tt
steps_lie (suc k) q at = lie_by q at (steps_at k q) (steps_lie k q) (step_at q at) (step_lies q at)

-- a scope that was read lies in the query, and a refusal is 15
abbrev Read : List ℕ → Answer meaning.Scope → Type 0
Read q (refused n p) = n ≡ 15
Read q (done l) = AllLie q l × (length l ≤ 3)

scope_read : (q : List ℕ) → Read q (scope_query q)
unfolding scope_query
scope_read q = either (Read q) (eqb (steps_at most_steps q 0).after (length q)) _ _ (λ _. (steps_lie most_steps q 0, few_steps most_steps q 0)) (λ _. refl)

-- ---- the question

module _ (q : List ℕ) (a : Result Scope Refusal) (e : a ≡ asked_by scope_of (scope_query q)) where
  told_refused : (w : Refusal) → a ≡ Err w → scope_query q ≡ told_refusal w
  unfolding asked_by
  told_refused w k = go (scope_query q) (scope_read q) (sym e ∙ k)
    where
      go : (o : Answer meaning.Scope) → Read q o → asked_by scope_of o ≡ Err w → o ≡ told_refusal w
      go (refused n p) f z = let u : record { reason = Malformed; place = p } ≡ w = cc in rw (← u, f) refl
      go (done l) f z = clash (cc)

  module _ (x : Scope) (k : a ≡ Ok x) where
    held : (l : List Step) × (scope_query q ≡ done l) × AllLie q l × (length l ≤ 3) × (scope_of l ≡ x)
    unfolding asked_by
    held = go (scope_query q) refl (scope_read q) (sym e ∙ k)
      where
        go : (o : Answer meaning.Scope) → scope_query q ≡ o → Read q o → asked_by scope_of o ≡ Ok x → (l : List Step) × (scope_query q ≡ done l) × AllLie q l × (length l ≤ 3) × (scope_of l ≡ x)
        go (refused n p) v f z = clash (cc)
        go (done l) v f z = (l, v, f.0, f.1, cc)

    pub scope_fits : Fits q x
    scope_fits = let z = held in rw (← z.4) (steps_fit q z.0 z.2 z.3)

    told_done : scope_query q ≡ done (told_scope q x)
    told_done = let z = held in z.1 ∙ ap done (sym (steps_back q z.0 z.2 z.3) ∙ ap (told_scope q) z.4)

module _ (rd : Reading) (l r : List ℕ) (a : Result Scope Refusal) (e : a ≡ asked_by scope_of (scope_query l)) where
  pub order_left : (w : Refusal) → a ≡ Err w → (v : Result (code.Option Ordering) Refusal) → v ≡ Err w → PromiseOrder rd l r v
  unfolding PromiseOrder order_of
  order_left w k v m = rw (m, told_refused l a e w k) refl

  module _ (x : Scope) (k : a ≡ Ok x) (b : Result Scope Refusal) (f : b ≡ asked_by scope_of (scope_query r)) where
    pub order_right : (w : Refusal) → b ≡ Err w → (v : Result (code.Option Ordering) Refusal) → v ≡ Err w → PromiseOrder rd l r v
    unfolding PromiseOrder order_of
    order_right w m v n = rw (n, told_done l a e x k, told_refused r b f w m) refl

    pub order_both : (y : Scope) → b ≡ Ok y → (c : code.Option Ordering) → told_compared c ≡ compared rd (told_scope l x) (told_scope r y) → PromiseOrder rd l r (Ok c)
    unfolding PromiseOrder order_of
    order_both y m c z = rw (told_done l a e x k, told_done r b f y m, z) refl

pub ruleset ordering = (scope_fits, order_left, order_right, order_both)
