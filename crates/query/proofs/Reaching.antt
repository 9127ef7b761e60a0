-- The steps that a query begins with, and so the scope and the name that it asks for, or the place of its refusal.
use mathlib.Core.Path.{◌≡◌, refl, sym, ap, ◌∙◌, subst}
use mathlib.Core.List.{List, [], ◌∷◌, ◌++◌, append-nil}
use mathlib.Core.Option.{Option, none, some}
use mathlib.Core.Bool.{Bool, true, false, ◌&&◌}
use Prim.Native.Nat.{ℕ, ◌+◌, ◌-◌, ◌<◌, ◌≤◌}
use native.Mathlib.Omega.{arith}
use borrow.Author.Tests.{leb-true, ltb-true, ltb-false}
use lib.Dec.{leb, ltb}
use lib.ListN.{length, take, drop, length-append}
use Rattle.std.specs.Prelude as code
use Rattle.std.specs.Prelude.{Some, None}
use Rattle.sheet.specs.MeaningName.{Name, is_name}
use Rattle.sheet.specs.MeaningSheet.{tag_of, size_of, end_of, value_of}
use Rattle.grammar.proofs.Choosing.{either, clash, both}
use Rattle.scope.specs.MeaningScope as meaning
use Rattle.scope.specs.MeaningScope.{Step, most_steps, stop}
use Rattle.scope.proofs.Holding.{push_appends, push_refused}
use Rattle.query.specs.MeaningQuery.{name_at, kind_for, step_of, step_at, Taken, steps_at}
use Rattle.scope.specs.Held.{rung_of, scope_0, scope_of}
use Rattle.query.specs.MirrorQuery.{step_out, reached_of}
use Rattle.scope.specs.MirrorScope.{pushed_on}
use Rattle.scope.specs.declared.Rung.{Rung}
use Rattle.scope.specs.declared.Scope.{Scope}
use Rattle.query.proofs.Standing.{name_ends}

-- ---- what stands in a query lies in its bytes

-- the bytes of a name are those at its place
pub record Lies (q : List ℕ) (x : Name) : Type 0 where
  pub within : stop x ≤ length q
  pub there : take (length x.bytes) (drop x.at q) ≡ x.bytes

abbrev pub NameLies : List ℕ → Option Name → Type 0
NameLies q none = Unit {0}
NameLies q (some x) = Lies q x

abbrev pub StepLies : List ℕ → Option Step → Type 0
StepLies q none = Unit {0}
StepLies q (some x) = Lies q x.name

pub name_lies : (q : List ℕ) (at : ℕ) → NameLies q (name_at q at)
unfolding name_at
name_lies q at = either (NameLies q) (leb (end_of q at) (length q) && is_name (value_of q at)) _ none there (λ _. tt)
  where
    there : leb (end_of q at) (length q) && is_name (value_of q at) ≡ true → Lies q (record { at = at + 3; bytes = value_of q at })
    there h =
        let b = both (leb (end_of q at) (length q)) (is_name (value_of q at)) h in
        let l = leb-true (end_of q at) (length q) b.0 in
        let e = name_ends q at b.0 in
        let n : length (value_of q at) ≡ size_of q at = omega (arith, e) in
        record { within = rw e l; there = rw n refl }

step_of_lies : (q : List ℕ) (k : Option meaning.ScopeType) (m : Option Name) → NameLies q m → StepLies q (step_of k m)
step_of_lies q none m l = tt
step_of_lies q (some k) none l = tt
step_of_lies q (some k) (some x) l = l

pub step_lies : (q : List ℕ) (at : ℕ) → StepLies q (step_at q at)
unfolding step_at
step_lies q at = step_of_lies q (kind_for (tag_of q at)) (name_at q at) (name_lies q at)

-- ---- the step behind a found item

pub behind : (m : Option Step) (o : code.Option Rung) (r : Rung) → o ≡ step_out m → o ≡ Some r → (x : Step) × (m ≡ some x) × (rung_of x ≡ r)
unfolding step_out
behind none o r e f = let g : ◌≡◌ {A = code.Option Rung} None (Some r) = sym e ∙ f in clash (cc)
behind (some x) o r e f = let g : Some (rung_of x) ≡ Some r = sym e ∙ f in (x, refl, cc)

pub nobody : (m : Option Step) (o : code.Option Rung) → o ≡ step_out m → o ≡ None → m ≡ none
unfolding step_out
nobody none o e f = refl
nobody (some x) o e f = let g : ◌≡◌ {A = code.Option Rung} None (Some (rung_of x)) = sym f ∙ e in clash (cc)

stop_rung : (x : Step) (r : Rung) → rung_of x ≡ r → stop x.name ≡ r.stop
unfolding rung_of
stop_rung x r k = ap (λ (r : Rung). r.stop) k

module _ (q : List ℕ) (at : ℕ) (o : code.Option Rung) (e : o ≡ step_out (step_at q at)) (r : Rung) (f : o ≡ Some r) where
  pub found_inside : (end : ℕ) → end ≡ length q → r.stop ≤ end
  found_inside end h =
      let b = behind (step_at q at) o r e f in
      let l : StepLies q (some b.0) = subst (StepLies q) b.1 (step_lies q at) in
      let w = l.within in
      let s = stop_rung b.0 r b.2 in
      omega (arith, w, s, h)

-- ---- the loop of `read_steps`: the steps that the scope holds, and then those that stand from a place on

abbrev joined : List Step → Taken → Taken
joined l t = record { steps = l ++ t.steps; after = t.after }

pub record Taking (q : List ℕ) (at from : ℕ) (s : Scope) : Type 0 where
  pub steps : List Step
  pub few : length steps ≤ 3
  pub held : s ≡ scope_of steps
  pub inside : from ≤ length q
  pub rest : joined steps (steps_at (3 - length steps) q from) ≡ steps_at most_steps q at

counted : (l : List Step) → length l ≤ 3 → (scope_of l).count ≡ length l
unfolding scope_of
counted [] h = refl
counted (x ∷ []) h = refl
counted (x ∷ y ∷ []) h = refl
counted (x ∷ y ∷ z ∷ []) h = refl
counted (x ∷ y ∷ z ∷ w ∷ l) h = absurd (let e : ⊥ = omega arith in e)

-- what a scope of these steps takes
pushed : (l : List Step) (x : Step) (p : code.Option Scope) → p ≡ pushed_on (scope_of l) (rung_of x) → (p ≡ None → 3 ≤ length l) × ((u : Scope) → p ≡ Some u → (length l < 3) × (u ≡ scope_of (l ++ (x ∷ []))))
pushed l x p e = go (ltb (length l) 3) refl
  where
    go : (b : Bool) → ltb (length l) 3 ≡ b → (p ≡ None → 3 ≤ length l) × ((u : Scope) → p ≡ Some u → (length l < 3) × (u ≡ scope_of (l ++ (x ∷ []))))
    go true h =
        let k = ltb-true (length l) 3 h in
        let z : p ≡ Some (scope_of (l ++ (x ∷ []))) = e ∙ push_appends l x k in
        (λ f. clash (cc), λ u f. (k, cc))
    go false h =
        let k = ltb-false (length l) 3 h in
        let z : p ≡ None = e ∙ push_refused l x k in
        (λ f. k, λ u f. clash (cc))

none_left : (q : List ℕ) (from : ℕ) (l : List Step) → length l ≤ 3 → step_at q from ≡ none → joined l (steps_at (3 - length l) q from) ≡ record { steps = l; after = from }
unfolding steps_at
none_left q from [] h m = rw m refl
none_left q from (x ∷ []) h m = rw m refl
none_left q from (x ∷ y ∷ []) h m = rw m refl
none_left q from (x ∷ y ∷ z ∷ []) h m = refl
none_left q from (x ∷ y ∷ z ∷ w ∷ l) h m = absurd (let e : ⊥ = omega arith in e)

no_room : (q : List ℕ) (from : ℕ) (l : List Step) → length l ≡ 3 → joined l (steps_at (3 - length l) q from) ≡ record { steps = l; after = from }
unfolding steps_at
no_room q from l h = rw (h, append-nil l) refl

one_less : (q : List ℕ) (from : ℕ) (l : List Step) (x : Step) → length l < 3 → step_at q from ≡ some x → joined (l ++ (x ∷ [])) (steps_at (3 - length (l ++ (x ∷ []))) q (stop x.name)) ≡ joined l (steps_at (3 - length l) q from)
unfolding steps_at
one_less q from [] x h m = rw m refl
one_less q from (a ∷ []) x h m = rw m refl
one_less q from (a ∷ b ∷ []) x h m = rw m refl
one_less q from (a ∷ b ∷ c ∷ l) x h m = absurd (let e : ⊥ = omega arith in e)

pub steps_start : (q : List ℕ) (at end : ℕ) → at ≤ end → end ≡ length q → (s : Scope) → s ≡ scope_0 → Taking q at at s
unfolding scope_of
steps_start q at end h l s e = record { steps = []; few = omega arith; held = e; inside = omega (arith, h, l); rest = refl }

module _ (q : List ℕ) (at from : ℕ) (s : Scope) (f : Taking q at from s) where
  pub steps_inside : (end : ℕ) → end ≡ length q → from ≤ end
  steps_inside end l = omega (arith, f.inside, l)

  reached : joined f.steps (steps_at (3 - length f.steps) q from) ≡ record { steps = f.steps; after = from } → record { scope = s; at = from } ≡ reached_of (steps_at most_steps q at)
  unfolding reached_of
  reached e = ap (λ (x : Scope). record { scope = x; at = from }) f.held ∙ ap reached_of (sym (sym f.rest ∙ e))

  module _ (o : code.Option Rung) (e : o ≡ step_out (step_at q from)) where
    pub steps_end : o ≡ None → record { scope = s; at = from } ≡ reached_of (steps_at most_steps q at)
    steps_end n = reached (none_left q from f.steps f.few (nobody (step_at q from) o e n))

    module _ (r : Rung) (k : o ≡ Some r) (p : code.Option Scope) (g : p ≡ pushed_on s r) where
      found : (x : Step) × (step_at q from ≡ some x) × (rung_of x ≡ r)
      found = behind (step_at q from) o r e k

      taken : (p ≡ None → 3 ≤ length f.steps) × ((u : Scope) → p ≡ Some u → (length f.steps < 3) × (u ≡ scope_of (f.steps ++ (found.0 ∷ []))))
      taken = pushed f.steps found.0 p (rw (found.2, ← f.held) g)

      pub steps_full : p ≡ None → record { scope = s; at = from } ≡ reached_of (steps_at most_steps q at)
      steps_full n = reached (no_room q from f.steps (omega (arith, f.few, taken.0 n)))

      module _ (u : Scope) (n : p ≡ Some u) where
        longer : length (f.steps ++ (found.0 ∷ [])) ≡ length f.steps + 1
        longer = simp (length-append) refl

        room : length f.steps < 3
        room = (taken.1 u n).0

        pub steps_next : Taking q at r.stop u
        steps_next =
            record {
              steps = f.steps ++ (found.0 ∷ []);
              few = omega (arith, room, longer);
              held = (taken.1 u n).1;
              inside = found_inside q from o e r k (length q) refl;
              rest = subst (λ (b : ℕ). joined (f.steps ++ (found.0 ∷ [])) (steps_at (3 - length (f.steps ++ (found.0 ∷ []))) q b) ≡ steps_at most_steps q at) (stop_rung found.0 r found.2) (one_less q from f.steps found.0 room found.1 ∙ f.rest);
            }

        pub steps_less : 3 - u.count < 3 - s.count
        steps_less =
            let a : s.count ≡ length f.steps = ap (λ (s : Scope). s.count) f.held ∙ counted f.steps f.few in
            let b : u.count ≡ length (f.steps ++ (found.0 ∷ [])) = ap (λ (s : Scope). s.count) (taken.1 u n).1 ∙ counted (f.steps ++ (found.0 ∷ [])) (omega (arith, room, longer)) in
            omega (arith, a, b, room, longer)

pub ruleset stepping = (steps_start, steps_inside, steps_end, steps_full, steps_next, steps_less)
