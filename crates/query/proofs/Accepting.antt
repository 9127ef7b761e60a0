-- Which queries are accepted, and where the others are refused, by the steps that stand in them.
use mathlib.Core.Path.{◌≡◌, refl, sym, ap, ◌∙◌, subst}
use mathlib.Core.Logic.{◌⊎◌, inl, inr}
use mathlib.Core.List.{List, [], ◌∷◌, ◌++◌}
use mathlib.Core.Option.{Option, none, some}
use mathlib.Core.Bool.{Bool, true, false, cond, ◌&&◌}
use Prim.Native.Nat.{ℕ, zero, suc, ◌+◌, ◌<◌, ◌≤◌}
use native.Mathlib.Omega.{arith}
use borrow.Author.Tests.{eq-eqb, ne_eqb, eqb-true, eqb-false, leb-true}
use lib.Dec.{eqb, leb}
use lib.ListN.{length}
use Rattle.refusal.specs.MeaningAnswer.{Answer, done, refused}
use Rattle.sheet.specs.MeaningName.{Name, is_name}
use Rattle.sheet.specs.MeaningSheet.{tag_of, end_of, value_of}
use Rattle.grammar.proofs.Choosing.{either, clash, both}
use Rattle.scope.specs.MeaningScope.{ScopeType, Step, Scope, Path, most_steps, stop}
use Rattle.query.specs.MeaningQuery.{name_at, tagged, kind_for, step_of, step_at, word_at, one_more, steps_at, malformed, scope_query, path_from, path_of, path_query, Question, asked, resolve_query}
use Rattle.scope.specs.Held.{rung_of}
use Rattle.query.specs.MirrorQuery.{step_out, word_out, past_of}
use Rattle.query.specs.Claims.{Stand, Whole, Fails, Asks, FailsAsking, StepMoves, WordMoves}
use Rattle.query.specs.Claims.Stand.{here, then}
use Rattle.query.specs.Claims.Fails.{bad, surplus, missing}
use Rattle.query.specs.Claims.FailsAsking.{unasked, behind}
use Rattle.query.proofs.Standing.{name_ends}
use Rattle.query.proofs.Reaching.{StepLies, step_lies}
use Rattle.query.proofs.Routes.{few_steps, none_at_end, from_last}

-- ---- a step ends where its field does

abbrev NameEnds : List ℕ → ℕ → Option Name → Type 0
NameEnds q at none = Unit {0}
NameEnds q at (some x) = (stop x ≡ end_of q at) × (end_of q at ≤ length q)

abbrev StepEnds : ℕ → Option Step → Type 0
StepEnds e none = Unit {0}
StepEnds e (some x) = stop x.name ≡ e

by_kind : (q : List ℕ) (at : ℕ) (k : Option ScopeType) (m : Option Name) → NameEnds q at m → StepEnds (end_of q at) (step_of k m)
by_kind q at none m l = tt
by_kind q at (some k) none l = tt
by_kind q at (some k) (some x) l = l.0

by_name : (q : List ℕ) (at : ℕ) → NameEnds q at (name_at q at)
unfolding name_at
by_name q at = either (NameEnds q at) (leb (end_of q at) (length q) && is_name (value_of q at)) _ none there (λ _. tt)
  where
    there : leb (end_of q at) (length q) && is_name (value_of q at) ≡ true → (at + 3 + length (value_of q at) ≡ end_of q at) × (end_of q at ≤ length q)
    there h = let b = both (leb (end_of q at) (length q)) (is_name (value_of q at)) h in (name_ends q at b.0, leb-true (end_of q at) (length q) b.0)

step_ends : (q : List ℕ) (at : ℕ) (x : Step) → step_at q at ≡ some x → stop x.name ≡ end_of q at
unfolding step_at
step_ends q at x e = subst (StepEnds (end_of q at)) e (by_kind q at (kind_for (tag_of q at)) (name_at q at) (by_name q at))

pub step_moves : StepMoves
unfolding step_out rung_of past_of
step_moves q at = (λ x e. rw e (step_ends q at x e), λ e. rw e refl)

-- ---- the steps that are taken stand there, and no more could be

pub taken_stand : (k : ℕ) (q : List ℕ) (at : ℕ) → Stand q at (steps_at k q at).steps (steps_at k q at).after
unfolding steps_at
taken_stand zero q at = here
taken_stand (suc k) q at = go (taken_stand k q) (step_at q at) refl
  where
    go : ((b : ℕ) → Stand q b (steps_at k q b).steps (steps_at k q b).after) → (m : Option Step) → step_at q at ≡ m → Stand q at (one_more m at (steps_at k q)).steps (one_more m at (steps_at k q)).after
    go next none e = here
    go next (some x) e = then e (subst (λ (b : ℕ). Stand q b (steps_at k q (stop x.name)).steps (steps_at k q (stop x.name)).after) (step_ends q at x e) (next (stop x.name)))

-- all that may come have come, or none stands there
abbrev Ended : ℕ → List ℕ → List Step → ℕ → Type 0
Ended k q xs e = (length xs ≡ k) ⊎ ((length xs < k) × (step_at q e ≡ none))

ended_on : (k : ℕ) (q : List ℕ) (x : Step) (xs : List Step) (e : ℕ) → Ended k q xs e → Ended (suc k) q (x ∷ xs) e
ended_on k q x xs e (inl l) = inl (ap suc l)
ended_on k q x xs e (inr f) = inr (omega (arith, f.0), f.1)

taken_ended : (k : ℕ) (q : List ℕ) (at : ℕ) → Ended k q (steps_at k q at).steps (steps_at k q at).after
unfolding steps_at
taken_ended zero q at = inl refl
taken_ended (suc k) q at = go (taken_ended k q) (step_at q at) refl
  where
    go : ((b : ℕ) → Ended k q (steps_at k q b).steps (steps_at k q b).after) → (m : Option Step) → step_at q at ≡ m → Ended (suc k) q (one_more m at (steps_at k q)).steps (one_more m at (steps_at k q)).after
    go next none e = inr (omega arith, e)
    go next (some x) e = ended_on k q x (steps_at k q (stop x.name)).steps (steps_at k q (stop x.name)).after (next (stop x.name))

pub taken_inside : (k : ℕ) (q : List ℕ) (at : ℕ) → at ≤ length q → (steps_at k q at).after ≤ length q
unfolding steps_at
taken_inside zero q at h = h
taken_inside (suc k) q at h = go (taken_inside k q) (step_at q at) (step_lies q at)
  where
    go : ((b : ℕ) → b ≤ length q → (steps_at k q b).after ≤ length q) → (m : Option Step) → StepLies q m → (one_more m at (steps_at k q)).after ≤ length q
    go next none l = h
    go next (some x) l = next (stop x.name) l.within

-- and what stands there, and ends so, is taken
stand_taken : (k : ℕ) (q : List ℕ) (at : ℕ) (xs : List Step) (e : ℕ) → Stand q at xs e → Ended k q xs e → steps_at k q at ≡ record { steps = xs; after = e }
unfolding steps_at
stand_taken zero q at xs e here f = refl
stand_taken zero q at xs e (then m s) (inl l) = absurd (let z : ⊥ = omega (arith, l) in z)
stand_taken zero q at xs e (then m s) (inr f) = absurd (let z : ⊥ = omega (arith, f.0) in z)
stand_taken (suc k) q at xs e here (inl l) = absurd (let z : ⊥ = omega (arith, l) in z)
stand_taken (suc k) q at xs e here (inr f) = rw f.1 refl
stand_taken (suc k) q at (x ∷ xs) e (then m s) f = rw (m, step_ends q at x m, stand_taken k q (end_of q at) xs e s (less f)) refl
  where
    less : Ended (suc k) q (x ∷ xs) e → Ended k q xs e
    less (inl l) = inl (omega (arith, l))
    less (inr g) = inr (omega (arith, g.0), g.1)

ended_by : (k : ℕ) (q : List ℕ) (xs : List Step) (e : ℕ) → length xs ≤ k → (length xs < k → step_at q e ≡ none) → Ended k q xs e
ended_by k q xs e h f = go (eqb (length xs) k) refl
  where
    go : (b : Bool) → eqb (length xs) k ≡ b → Ended k q xs e
    go true z = inl (eqb-true (length xs) k z)
    go false z = let d = eqb-false (length xs) k z in let l : length xs < k = omega (arith, d) in inr (l, f l)

whole_taken : (k : ℕ) (q : List ℕ) (xs : List Step) → Stand q 0 xs (length q) → length xs ≤ k → steps_at k q 0 ≡ record { steps = xs; after = length q }
whole_taken k q xs s h = stand_taken k q 0 xs (length q) s (ended_by k q xs (length q) h (λ _. none_at_end q))

-- ---- where the steps end before the query does

fails_after : (least k : ℕ) (q : List ℕ) → ((steps_at k q 0).after ≡ length q → ⊥) → Fails least k q (steps_at k q 0).after
fails_after least k q d = go (taken_ended k q 0)
  where
    inside : (steps_at k q 0).after < length q
    inside = let h = taken_inside k q 0 (omega arith) in omega (arith, h, d)

    go : Ended k q (steps_at k q 0).steps (steps_at k q 0).after → Fails least k q (steps_at k q 0).after
    go (inl l) = surplus (taken_stand k q 0) l inside
    go (inr f) = bad (taken_stand k q 0) f.0 inside f.1

refused_at : {A : Type 0} (p n at : ℕ) → ◌≡◌ {A = Answer A} (refused 15 p) (refused n at) → (n ≡ 15) × (p ≡ at)
refused_at p n at e = (cc, cc)

-- ---- a scope query

pub scope_done : (q : List ℕ) (xs : Scope) → scope_query q ≡ done xs → Whole 0 3 q xs
unfolding scope_query
scope_done q xs = go (eqb (steps_at most_steps q 0).after (length q)) refl
  where
    go : (b : Bool) → eqb (steps_at most_steps q 0).after (length q) ≡ b → cond b (done (steps_at most_steps q 0).steps) (malformed (steps_at most_steps q 0).after) ≡ done xs → Whole 0 3 q xs
    go true e z =
        let u : (steps_at most_steps q 0).steps ≡ xs = cc in
        let v = eqb-true (steps_at most_steps q 0).after (length q) e in
        (rw (u, v) at (taken_stand most_steps q 0), omega arith, rw u at (few_steps most_steps q 0))
    go false e z = clash (cc)

pub whole_scope : (q : List ℕ) (xs : Scope) → Whole 0 3 q xs → scope_query q ≡ done xs
unfolding scope_query
whole_scope q xs w = rw (whole_taken most_steps q xs w.0 w.2, eq-eqb (length q) (length q) refl) refl

pub scope_fails : (q : List ℕ) (n at : ℕ) → scope_query q ≡ refused n at → (n ≡ 15) × Fails 0 3 q at
unfolding scope_query
scope_fails q n at = go (eqb (steps_at most_steps q 0).after (length q)) refl
  where
    go : (b : Bool) → eqb (steps_at most_steps q 0).after (length q) ≡ b → cond b (done (steps_at most_steps q 0).steps) (malformed (steps_at most_steps q 0).after) ≡ refused n at → (n ≡ 15) × Fails 0 3 q at
    go true e z = clash (cc)
    go false e z = let r = refused_at (steps_at most_steps q 0).after n at z in (r.0, subst (Fails 0 3 q) r.1 (fails_after 0 most_steps q (eqb-false (steps_at most_steps q 0).after (length q) e)))

pub fails_scope : (q : List ℕ) (at : ℕ) → Fails 0 3 q at → scope_query q ≡ refused 15 at
unfolding scope_query
fails_scope q at (bad {xs = xs} s l h m) = rw (stand_taken most_steps q 0 xs at s (inr (l, m)), ne_eqb at (length q) (λ e. absurd (let z : ⊥ = omega (arith, e, h) in z))) refl
fails_scope q at (surplus {xs = xs} s l h) = rw (stand_taken most_steps q 0 xs at s (inl l), ne_eqb at (length q) (λ e. absurd (let z : ⊥ = omega (arith, e, h) in z))) refl
fails_scope q at (missing s l) = absurd (let z : ⊥ = omega (arith, l) in z)

-- ---- a path query

path_steps : (x : Step) (xs : List Step) → (path_from x xs).scope ++ ((path_from x xs).item ∷ []) ≡ x ∷ xs
unfolding path_from
path_steps x [] = refl
path_steps x (y ∷ ys) = ap (λ (l : List Step). x ∷ l) (path_steps y ys)

path_of_law : (q : List ℕ) (xs : List Step) (p : Path) → Stand q 0 xs (length q) → length xs ≤ 4 → path_of xs (length q) ≡ done p → Whole 1 4 q (p.scope ++ (p.item ∷ []))
unfolding path_of
path_of_law q [] p s h z = clash (cc)
path_of_law q (x ∷ xs) p s h z =
    let u : path_from x xs ≡ p = cc in
    let v : p.scope ++ (p.item ∷ []) ≡ x ∷ xs = rw (← u) (path_steps x xs) in
    rw v (s, omega arith, h)

pub path_done : (q : List ℕ) (p : Path) → path_query q ≡ done p → Whole 1 4 q (p.scope ++ (p.item ∷ []))
unfolding path_query
path_done q p = go (eqb (steps_at (suc most_steps) q 0).after (length q)) refl
  where
    go : (b : Bool) → eqb (steps_at (suc most_steps) q 0).after (length q) ≡ b → cond b (path_of (steps_at (suc most_steps) q 0).steps (length q)) (malformed (steps_at (suc most_steps) q 0).after) ≡ done p → Whole 1 4 q (p.scope ++ (p.item ∷ []))
    go true e z =
        let v = eqb-true (steps_at (suc most_steps) q 0).after (length q) e in
        path_of_law q (steps_at (suc most_steps) q 0).steps p (rw v at (taken_stand (suc most_steps) q 0)) (few_steps (suc most_steps) q 0) z
    go false e z = clash (cc)

pub whole_path : (q : List ℕ) (p : Path) → Whole 1 4 q (p.scope ++ (p.item ∷ [])) → path_query q ≡ done p
unfolding path_query
whole_path q p w = rw (whole_taken (suc most_steps) q (p.scope ++ (p.item ∷ [])) w.0 w.2, eq-eqb (length q) (length q) refl) (from_last p.scope p.item (length q))

path_missing : (q : List ℕ) (xs : List Step) (n at : ℕ) → Stand q 0 xs (length q) → path_of xs (length q) ≡ refused n at → (n ≡ 15) × Fails 1 4 q at
unfolding path_of
path_missing q [] n at s z = let r = refused_at (length q) n at z in (r.0, subst (Fails 1 4 q) r.1 (missing s (omega arith)))
path_missing q (x ∷ xs) n at s z = clash (cc)

pub path_fails : (q : List ℕ) (n at : ℕ) → path_query q ≡ refused n at → (n ≡ 15) × Fails 1 4 q at
unfolding path_query
path_fails q n at = go (eqb (steps_at (suc most_steps) q 0).after (length q)) refl
  where
    go : (b : Bool) → eqb (steps_at (suc most_steps) q 0).after (length q) ≡ b → cond b (path_of (steps_at (suc most_steps) q 0).steps (length q)) (malformed (steps_at (suc most_steps) q 0).after) ≡ refused n at → (n ≡ 15) × Fails 1 4 q at
    go true e z =
        let v = eqb-true (steps_at (suc most_steps) q 0).after (length q) e in
        path_missing q (steps_at (suc most_steps) q 0).steps n at (rw v at (taken_stand (suc most_steps) q 0)) z
    go false e z = let r = refused_at (steps_at (suc most_steps) q 0).after n at z in (r.0, subst (Fails 1 4 q) r.1 (fails_after 1 (suc most_steps) q (eqb-false (steps_at (suc most_steps) q 0).after (length q) e)))

no_steps_left : (xs : List Step) → length xs < 1 → (e : ℕ) → path_of xs e ≡ refused 15 e
unfolding path_of
no_steps_left [] l e = refl
no_steps_left (x ∷ xs) l e = absurd (let z : ⊥ = omega arith in z)

pub fails_path : (q : List ℕ) (at : ℕ) → Fails 1 4 q at → path_query q ≡ refused 15 at
unfolding path_query
fails_path q at (bad {xs = xs} s l h m) = rw (stand_taken (suc most_steps) q 0 xs at s (inr (l, m)), ne_eqb at (length q) (λ e. absurd (let z : ⊥ = omega (arith, e, h) in z))) refl
fails_path q at (surplus {xs = xs} s l h) = rw (stand_taken (suc most_steps) q 0 xs at s (inl l), ne_eqb at (length q) (λ e. absurd (let z : ⊥ = omega (arith, e, h) in z))) refl
fails_path q at (missing {xs = xs} s l) = rw (whole_taken (suc most_steps) q xs s (omega (arith, l)), eq-eqb (length q) (length q) refl) (no_steps_left xs l (length q))

-- ---- a `resolve` query

no_kind : kind_for 0x10 ≡ none
unfolding tagged
no_kind = refl

-- a field 10 is no step
word_no_step : (q : List ℕ) (at : ℕ) (w : Name) → word_at q at ≡ some w → step_at q at ≡ none
unfolding word_at step_at
word_no_step q at w e = go (eqb (tag_of q at) 0x10) refl e
  where
    go : (b : Bool) → eqb (tag_of q at) 0x10 ≡ b → cond b (name_at q at) none ≡ some w → step_of (kind_for (tag_of q at)) (name_at q at) ≡ none
    go true z k = rw (eqb-true (tag_of q at) 0x10 z, no_kind) refl
    go false z k = clash (cc)

before : (s e l : ℕ) → s ≡ e → e ≤ l → (s ≡ l → ⊥) → e < l
before s e l h k d = omega (arith, h, k, d)

word_ends : (q : List ℕ) (at : ℕ) (w : Name) → word_at q at ≡ some w → (stop w ≡ end_of q at) × (end_of q at ≤ length q)
unfolding word_at
word_ends q at w e = subst (NameEnds q at) e (either (NameEnds q at) (eqb (tag_of q at) 0x10) (name_at q at) none (λ _. by_name q at) (λ _. tt))

pub word_moves : WordMoves
unfolding word_out past_of
word_moves q at = (λ w e. rw e (word_ends q at w e).0, λ e. rw e refl)

module _ (q : List ℕ) where
  asked_done : (m : Option Name) (a : Question) → word_at q (steps_at most_steps q 0).after ≡ m → asked q (steps_at most_steps q 0).steps (steps_at most_steps q 0).after m ≡ done a → Asks q a.scope a.word
  unfolding asked
  asked_done none a e z = clash (cc)
  asked_done (some x) a e z = go (eqb (stop x) (length q)) refl z
    where
      go : (b : Bool) → eqb (stop x) (length q) ≡ b → cond {A = Answer Question} b (done (record { scope = (steps_at most_steps q 0).steps; word = x })) (malformed (stop x)) ≡ done a → Asks q a.scope a.word
      go true y k =
          let u : record { scope = (steps_at most_steps q 0).steps; word = x } ≡ a = cc in
          let n = word_ends q (steps_at most_steps q 0).after x e in
          rw (← u) ((steps_at most_steps q 0).after, taken_stand most_steps q 0, few_steps most_steps q 0, e, sym n.0 ∙ eqb-true (stop x) (length q) y)
      go false y k = clash (cc)

  pub resolve_done : (a : Question) → resolve_query q ≡ done a → Asks q a.scope a.word
  unfolding resolve_query
  resolve_done a z = asked_done (word_at q (steps_at most_steps q 0).after) a refl z

  asking_taken : (at : ℕ) (xs : List Step) (w : Name) → Stand q 0 xs at → length xs ≤ 3 → word_at q at ≡ some w → steps_at most_steps q 0 ≡ record { steps = xs; after = at }
  asking_taken at xs w s l e = stand_taken most_steps q 0 xs at s (ended_by most_steps q xs at l (λ _. word_no_step q at w e))

  pub asks_resolve : (a : Question) → Asks q a.scope a.word → resolve_query q ≡ done a
  unfolding resolve_query asked
  asks_resolve a f =
      let n = word_ends q f.0 a.word f.3 in
      rw (asking_taken f.0 a.scope a.word f.1 f.2 f.3, f.3, eq-eqb (stop a.word) (length q) (n.0 ∙ f.4)) refl

  still_none : length (steps_at most_steps q 0).steps < 3 → step_at q (steps_at most_steps q 0).after ≡ none
  still_none l = go (taken_ended most_steps q 0)
    where
      go : Ended most_steps q (steps_at most_steps q 0).steps (steps_at most_steps q 0).after → step_at q (steps_at most_steps q 0).after ≡ none
      go (inl z) = absurd (let y : ⊥ = omega (arith, z, l) in y)
      go (inr z) = z.1

  asked_refused : (m : Option Name) (n at : ℕ) → word_at q (steps_at most_steps q 0).after ≡ m → asked q (steps_at most_steps q 0).steps (steps_at most_steps q 0).after m ≡ refused n at → (n ≡ 15) × FailsAsking q at
  unfolding asked
  asked_refused none n at e z = let r = refused_at (steps_at most_steps q 0).after n at z in (r.0, subst (FailsAsking q) r.1 (unasked (taken_stand most_steps q 0) (few_steps most_steps q 0) still_none e))
  asked_refused (some x) n at e z = go (eqb (stop x) (length q)) refl z
    where
      go : (b : Bool) → eqb (stop x) (length q) ≡ b → cond {A = Answer Question} b (done (record { scope = (steps_at most_steps q 0).steps; word = x })) (malformed (stop x)) ≡ refused n at → (n ≡ 15) × FailsAsking q at
      go true y k = clash (cc)
      go false y k =
          let r = refused_at (stop x) n at k in
          let w = word_ends q (steps_at most_steps q 0).after x e in
          let d = eqb-false (stop x) (length q) y in
          let i : end_of q (steps_at most_steps q 0).after < length q = before (stop x) (end_of q (steps_at most_steps q 0).after) (length q) w.0 w.1 d in
          (r.0, subst (FailsAsking q) (sym w.0 ∙ r.1) (behind (taken_stand most_steps q 0) (few_steps most_steps q 0) e i))

  pub resolve_fails : (n at : ℕ) → resolve_query q ≡ refused n at → (n ≡ 15) × FailsAsking q at
  unfolding resolve_query
  resolve_fails n at z = asked_refused (word_at q (steps_at most_steps q 0).after) n at refl z

  pub fails_resolve : (at : ℕ) → FailsAsking q at → resolve_query q ≡ refused 15 at
  unfolding resolve_query asked
  fails_resolve at (unasked {xs = xs} s l f w) = rw (stand_taken most_steps q 0 xs at s (ended_by most_steps q xs at l f), w) refl
  fails_resolve end (behind {at = at} {xs = xs} {w = w} s l e h) =
      let n = word_ends q at w e in
      rw (asking_taken at xs w s l e, e, n.0, ne_eqb (end_of q at) (length q) (λ z. absurd (let y : ⊥ = omega (arith, z, h) in y))) refl
