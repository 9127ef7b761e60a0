-- A path's query: a fourth step after three, or the last of fewer, is the item.
use mathlib.Core.Path.{◌≡◌, refl, sym, ap, ◌∙◌}
use mathlib.Core.List.{List, [], ◌∷◌, ◌++◌}
use mathlib.Core.Option.{Option, none, some}
use Prim.Native.Nat.{ℕ, zero, suc, ◌≤◌}
use native.Mathlib.Omega.{arith}
use borrow.Author.Tests.{eq-eqb, ne_eqb, lt-leb}
use lib.ListN.{length}
use Rattle.refusal.specs.MeaningAnswer.{done}
use Rattle.std.specs.Prelude as code
use Rattle.std.specs.Prelude.{Some, None, Ok, Err, Result}
use Rattle.refusal.specs.declared.Reason.TheVariants.{Malformed}
use Rattle.refusal.specs.declared.Refusal.{Refusal}
use Rattle.sheet.specs.MeaningSheet.{tag_of, end_of}
use Rattle.grammar.proofs.Choosing.{clash}
use Rattle.scope.specs.MeaningScope as meaning
use Rattle.scope.specs.MeaningScope.{Step, most_steps, stop}
use Rattle.query.specs.MeaningQuery.{name_at, kind_for, step_at, Taken, one_more, steps_at, path_from, path_of, path_query}
use Rattle.scope.specs.Held.{rung_of, scope_of, path_in}
use Rattle.scope.specs.MirrorScope.{popped_from, last_of}
use Rattle.query.specs.MirrorQuery.{step_out, step_in, past_of, moved_to, past_step, front, asked_by}
use Rattle.scope.specs.declared.Rung.{Rung}
use Rattle.scope.specs.declared.Scope.{Scope}
use Rattle.scope.proofs.Holding.{pop_refused}
use Rattle.query.proofs.Standing.{no_name}
use Rattle.query.specs.declared.Place.{Place}
use Rattle.query.proofs.Reaching.{behind, nobody}

-- ---- one step more: what the fourth adds to three

abbrev then_one : Taken → Option Step → Taken
then_one t none = t
then_one t (some x) = record { steps = t.steps ++ (x ∷ []); after = stop x.name }

in_front : (x : Step) (t : Taken) (m : Option Step) → record { steps = x ∷ (then_one t m).steps; after = (then_one t m).after } ≡ then_one (record { steps = x ∷ t.steps; after = t.after }) m
in_front x t none = refl
in_front x t (some y) = refl

one_step : (q : List ℕ) (at : ℕ) (m : Option Step) → one_more m at (λ b. record { steps = []; after = b }) ≡ then_one (record { steps = []; after = at }) m
one_step q at none = refl
one_step q at (some x) = refl

steps_by : (q : List ℕ) (at : ℕ) (long less : ℕ → Taken) → ((b : ℕ) → long b ≡ then_one (less b) (step_at q (less b).after)) → (m : Option Step) → step_at q at ≡ m → one_more m at long ≡ then_one (one_more m at less) (step_at q (one_more m at less).after)
steps_by q at long less h none e = rw e refl
steps_by q at long less h (some x) e = let b = stop x.name in ap (λ (t : Taken). record { steps = x ∷ t.steps; after = t.after }) (h b) ∙ in_front x (less b) (step_at q (less b).after)

after_one : (t : Taken) (m : Option Step) → (then_one t m).after ≡ past_of (λ (x : Rung). x.stop) (step_out m) t.after
unfolding step_out past_of rung_of
after_one t none = refl
after_one t (some x) = refl

steps_more : (k : ℕ) (q : List ℕ) (at : ℕ) → steps_at (suc k) q at ≡ then_one (steps_at k q at) (step_at q (steps_at k q at).after)
unfolding steps_at
steps_more zero q at = one_step q at (step_at q at)
steps_more (suc k) q at = steps_by q at (steps_at (suc k) q) (steps_at k q) (steps_more k q) (step_at q at) refl

few_by : (m : Option Step) (at k : ℕ) (go : ℕ → Taken) → ((b : ℕ) → length (go b).steps ≤ k) → length (one_more m at go).steps ≤ suc k
few_by none at k go h = omega arith
few_by (some x) at k go h = let z = h (stop x.name) in omega arith

pub few_steps : (k : ℕ) (q : List ℕ) (at : ℕ) → length (steps_at k q at).steps ≤ k
unfolding steps_at
few_steps zero q at = omega arith
few_steps (suc k) q at = few_by (step_at q at) at k (steps_at k q) (few_steps k q)

-- nothing stands at the end
pub none_at_end : (q : List ℕ) → step_at q (length q) ≡ none
unfolding step_at name_at
none_at_end q = let e = lt-leb (end_of q (length q)) (length q) (omega arith) in rw e (no_name (kind_for (tag_of q (length q))))

-- ---- the last step is the item

pub from_last : (l : List Step) (x : Step) (e : ℕ) → path_of (l ++ (x ∷ [])) e ≡ done (record { scope = l; item = x })
unfolding path_of path_from
from_last [] x e = refl
from_last (y ∷ l) x e = ap done (go y l)
  where
    go : (y : Step) (l : List Step) → path_from y (l ++ (x ∷ [])) ≡ record { scope = y ∷ l; item = x }
    go y [] = refl
    go y (z ∷ l) = ap (λ (p : meaning.Path). record { scope = y ∷ p.scope; item = p.item }) (go z l)

outer_of : (x : Step) (l : List Step) → length (x ∷ l) ≤ 3 → popped_from (scope_of (x ∷ l)) ≡ Some (scope_of (path_from x l).scope)
unfolding popped_from scope_of path_from
outer_of x [] h = refl
outer_of x (y ∷ []) h = refl
outer_of x (y ∷ z ∷ []) h = refl
outer_of x (y ∷ z ∷ w ∷ l) h = absurd (let e : ⊥ = omega arith in e)

item_of_law : (x : Step) (l : List Step) → length (x ∷ l) ≤ 3 → last_of (scope_of (x ∷ l)) ≡ rung_of (path_from x l).item
unfolding last_of scope_of path_from
item_of_law x [] h = refl
item_of_law x (y ∷ []) h = refl
item_of_law x (y ∷ z ∷ []) h = refl
item_of_law x (y ∷ z ∷ w ∷ l) h = absurd (let e : ⊥ = omega arith in e)

root_only : (l : List Step) → length l ≤ 3 → popped_from (scope_of l) ≡ None → l ≡ []
root_only [] h e = refl
root_only (x ∷ l) h e = let z : ◌≡◌ {A = code.Option Scope} (Some (scope_of (path_from x l).scope)) None = sym (outer_of x l h) ∙ e in clash (cc)

last_asked : (l : List Step) → length l ≤ 3 → (u : Scope) → popped_from (scope_of l) ≡ Some u → (e : ℕ) → Ok (record { scope = u; item = last_of (scope_of l) }) ≡ asked_by path_in (path_of l e)
unfolding path_of asked_by path_in
last_asked [] h u k e = let z : ◌≡◌ {A = code.Option Scope} None (Some u) = sym pop_refused ∙ k in clash (cc)
last_asked (x ∷ l) h u k e =
    let z : Some (scope_of (path_from x l).scope) ≡ Some u = sym (outer_of x l h) ∙ k in
    let y : scope_of (path_from x l).scope ≡ u = cc in
    rw (item_of_law x l h, y) refl

-- behind the steps
module _ (q : List ℕ) (s : Scope) (h : s ≡ scope_of (front q).steps) (p : Place) (k : p ≡ moved_to (front q).after (record { at = 0; end = length q })) where
  abbrev fourth : Option Step
  fourth = step_at q (front q).after

  module _ (n : code.Option Rung) (e : n ≡ step_in q p.at) (r : Place) (m : r ≡ past_step q p) where
    next_is : n ≡ step_out fourth
    next_is = rw k at e

    at_four : (steps_at (suc most_steps) q 0).after ≡ r.at
    at_four = ap (λ (u : Taken). u.after) (steps_more most_steps q 0) ∙ (after_one (front q) fourth ∙ sym (ap (λ (p : Place). p.at) (m ∙ ap (past_step q) k)))

    at_end : r.end ≡ length q
    at_end = rw (m, k) refl

    -- a field that is no step, or one too many
    pub path_more : (r.at ≡ r.end → ⊥) → (w : Refusal) → w ≡ record { reason = Malformed; place = r.at } → Err w ≡ asked_by path_in (path_query q)
    unfolding path_query asked_by
    path_more d w z = rw z (sym (rw (at_four, ne_eqb r.at (length q) (λ i. d (i ∙ sym at_end))) refl))

    module _ (w : r.at ≡ r.end) where
      whole : path_query q ≡ path_of (then_one (front q) fourth).steps (length q)
      unfolding path_query
      whole = rw (at_four, eq-eqb r.at (length q) (w ∙ at_end), steps_more most_steps q 0) refl

      pub path_four : (x : Rung) → n ≡ Some x → Ok (record { scope = s; item = x }) ≡ asked_by path_in (path_query q)
      unfolding asked_by path_in
      path_four x f =
          let b = behind fourth n x next_is f in
          sym (rw (whole, b.1, from_last (front q).steps b.0 (length q), b.2, h) refl)

      module _ (f : n ≡ None) (o : code.Option Scope) (i : o ≡ popped_from s) where
        fewer : path_query q ≡ path_of (front q).steps (length q)
        fewer = whole ∙ rw (nobody fourth n next_is f) refl

        taken : popped_from (scope_of (front q).steps) ≡ o
        taken = rw (← h) (sym i)

        pub path_none : o ≡ None → (z : Refusal) → z ≡ record { reason = Malformed; place = r.at } → Err z ≡ asked_by path_in (path_query q)
        unfolding path_of asked_by
        path_none j z l = rw l (sym (rw (fewer, root_only (front q).steps (few_steps most_steps q 0) (taken ∙ j), ← at_end, ← w) refl))

        pub path_last : (u : Scope) → o ≡ Some u → (x : Rung) → x ≡ last_of s → Ok (record { scope = u; item = x }) ≡ asked_by path_in (path_query q)
        path_last u j x z = rw (z, fewer, h) (last_asked (front q).steps (few_steps most_steps q 0) u (taken ∙ j) (length q))

pub ruleset routing = (path_more, path_four, path_none, path_last)
