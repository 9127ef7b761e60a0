-- The walk through named types: equal paths step alike, so the walk by numbers answers what the walk does, and nothing else can.
use mathlib.Core.Path.{◌≡◌, refl, sym, ap, ◌∙◌, subst}
use mathlib.Core.Logic.{◌⊎◌, inl, inr}
use mathlib.Core.List.{List, [], ◌∷◌, map}
use mathlib.Core.Bool.{Bool, true, false}
use mathlib.Core.Option.{Option, none, some}
use Prim.Native.Nat.{ℕ, zero, suc, ◌+◌, ◌-◌, ◌<◌, ◌≤◌}
use native.Mathlib.Nat.{eq-or-lt_of_le}
use native.Mathlib.Omega.{arith}
use borrow.Author.Tests.{leb-true, leb-false}
use lib.Dec.{leb}
use lib.ListN.{length, length-map}
use Rattle.refusal.specs.MeaningAnswer.{Answer, done, refused, mapped, ◌>>=◌}
use Rattle.complex_entity.specs.MeaningRising.{◌∈◌}
use Rattle.complex_entity.specs.MeaningRising.◌∈◌.{here, there}
use Rattle.complex_entity.proofs.Sets.{not_in_nil}
use Rattle.complex_entity.proofs.Members.{∈_map}
use Rattle.grammar.specs.MeaningReading.{Reading}
use Rattle.sheet.specs.MeaningName.{Name}
use Rattle.grammar.proofs.Choosing.{clash, both}
use Rattle.schemas.specs.MeaningSchemas.{Body, Schema}
use Rattle.schemas.specs.MeaningSchemas.Body.{simple, enumeration, named, other}
use Rattle.scope.specs.MeaningScope.{Scope, Path, same_scope, steps_equal, same_path}
use Rattle.declarations.specs.MeaningNamespace.{Declaration, Named, declarations, answered, declaration_for, resolved}
use Rattle.declarations.specs.MeaningNamespace.Named.{a_type, an_entity}
use Rattle.declarations.proofs.Numbering.{at_number}
use Rattle.declarations.proofs.Scopes.{declaration_same}
use Rattle.declarations.proofs.Proved.{resolved_declared, get_lowest, get_apart}
use Rattle.resolving.proofs.Reaching.{resolved_same}
use Rattle.records.specs.MeaningResolving.{path_for, number_for}
use Rattle.gathering.specs.Claims.{IsDeclared}
use Rattle.records.proofs.Declaring.{in_at, path_declared}
use Rattle.gathering.proofs.Declaring.{number_is}
use Rattle.named_types.specs.MeaningWalk.{Step, ends, goes, body_step, named_step, step_from, Reaches, start, onward, Walks, ended, failed, again}
use Rattle.named_types.specs.MirrorTypes.{turn_of, turn_from, turn_at, turned, walked_by}
use Rattle.named_types.proofs.Twice.{Twice, now, later, twice}

ends_apart : (v w : Answer Bool) → mapped ends v ≡ mapped ends w → v ≡ w
ends_apart (done a) (done b) e = cc
ends_apart (done a) (refused n place) e = clash (cc)
ends_apart (refused n place) (done b) e = clash (cc)
ends_apart (refused n place) (refused m place') e = cc

module _ (rd : Reading) (xs : List Schema) where
  -- ---- one step

  module _ (a b : Scope) (e : same_scope rd a b ≡ true) where
    body_same : (t : Body) → body_step rd xs a t ≡ body_step rd xs b t
    unfolding body_step path_for
    body_same (simple k) = refl
    body_same enumeration = refl
    body_same (named x) = rw (resolved_same rd xs x.bytes a b e) refl
    body_same other = refl

    named_same : (d : Named) → named_step rd xs a d ≡ named_step rd xs b d
    unfolding named_step
    named_same (a_type t) = body_same t.body
    named_same (an_entity x) = refl

  scopes : (p q : Path) → same_path rd p q ≡ true → same_scope rd p.scope q.scope ≡ true
  unfolding same_path
  scopes p q e = (both (same_scope rd p.scope q.scope) (steps_equal rd p.item q.item) e).0

  -- equal paths step alike
  step_same : (p q : Path) → same_path rd p q ≡ true → step_from rd xs p ≡ step_from rd xs q
  unfolding step_from answered
  step_same p q e = rw (declaration_same rd xs p q e) (by (declaration_for rd xs q))
    where
      by : (o : Option Declaration) → (answered 7 0 o >>= λ d. named_step rd xs p.scope d.named) ≡ (answered 7 0 o >>= λ d. named_step rd xs q.scope d.named)
      by none = refl
      by (some d) = named_same p.scope q.scope (scopes p q e) d.named

  -- a path that the walk goes on to is declared
  meant_declared : (sc : Scope) (x : Name) (r : Path) → mapped goes (path_for rd xs sc x) ≡ done (goes r) → IsDeclared rd xs r
  unfolding path_for answered
  meant_declared sc x r e = by (resolved rd xs sc x.bytes) refl e
    where
      by : (o : Option Declaration) → resolved rd xs sc x.bytes ≡ o → mapped goes (mapped (λ d. d.path) (answered 6 x.at o)) ≡ done (goes r) → IsDeclared rd xs r
      by none q e = clash (cc)
      by (some d) q e = path_declared rd xs d r (in_at (declarations xs) d.number d (resolved_declared rd xs sc x.bytes d q).1) (cc)

  next_declared : (sc : Scope) (d : Named) (r : Path) → named_step rd xs sc d ≡ done (goes r) → IsDeclared rd xs r
  unfolding named_step body_step
  next_declared sc (an_entity x) r e = clash (cc)
  next_declared sc (a_type t) r e = by t.body e
    where
      by : (b : Body) → body_step rd xs sc b ≡ done (goes r) → IsDeclared rd xs r
      by (simple k) e = clash (cc)
      by enumeration e = clash (cc)
      by (named x) e = meant_declared sc x r e
      by other e = clash (cc)

  -- so are both ends of a step
  step_declared : (q r : Path) → step_from rd xs q ≡ done (goes r) → IsDeclared rd xs q × IsDeclared rd xs r
  unfolding step_from answered
  step_declared q r e = by (declaration_for rd xs q) refl e
    where
      by : (o : Option Declaration) → declaration_for rd xs q ≡ o → (answered 7 0 o >>= λ d. named_step rd xs q.scope d.named) ≡ done (goes r) → IsDeclared rd xs q × IsDeclared rd xs r
      by none k e = clash (cc)
      by (some d) k e = ((d, k), next_declared q.scope d.named r e)

  -- the step, seen by numbers
  turn_is : (p : Path) (d : Declaration) → declaration_for rd xs p ≡ some d → turn_at rd xs d.number ≡ mapped (turn_of rd xs) (step_from rd xs p)
  unfolding turn_at turn_from step_from answered
  turn_is p d e =
      let l = get_lowest rd xs p d e in
      rw ((at_number xs d l.0).1, e) (ap (mapped (turn_of rd xs)) (named_same d.path.scope p.scope (scopes d.path p l.1) d.named))

  -- a step is never refused by 13
  not_13 : (p : Path) (place : ℕ) → step_from rd xs p ≡ refused 13 place → ◌≡◌ {A = ℕ} 0 1
  unfolding step_from answered body_step path_for named_step
  not_13 p place e = by (declaration_for rd xs p) e
    where
      means : (o : Option Declaration) (x : Name) → mapped goes (mapped (λ d. d.path) (answered 6 x.at o)) ≡ refused 13 place → ◌≡◌ {A = ℕ} 0 1
      means none x e = let z : ◌≡◌ {A = ℕ} 6 13 = cc in clash (omega arith)
      means (some d) x e = clash (cc)

      body : (sc : Scope) (b : Body) → body_step rd xs sc b ≡ refused 13 place → ◌≡◌ {A = ℕ} 0 1
      body sc (simple k) e = clash (cc)
      body sc enumeration e = clash (cc)
      body sc (named x) e = means (resolved rd xs sc x.bytes) x e
      body sc other e = clash (cc)

      named_by : (sc : Scope) (d : Named) → named_step rd xs sc d ≡ refused 13 place → ◌≡◌ {A = ℕ} 0 1
      named_by sc (a_type t) e = body sc t.body e
      named_by sc (an_entity x) e = clash (cc)

      by : (o : Option Declaration) → (answered 7 0 o >>= λ d. named_step rd xs p.scope d.named) ≡ refused 13 place → ◌≡◌ {A = ℕ} 0 1
      by none e = let z : ◌≡◌ {A = ℕ} 7 13 = cc in clash (omega arith)
      by (some d) e = named_by p.scope d.named e

  module _ (p : Path) where
    -- ---- positions

    -- the walk goes on from its a-th path
    record Passed (a : ℕ) : Type 0 where
      from : Path
      to : Path
      reached : Reaches rd xs p a from
      step : step_from rd xs from ≡ done (goes to)

    passed : {b : ℕ} {r : Path} → Reaches rd xs p b r → (a : ℕ) → a < b → Passed a
    passed start a h = absurd (omega arith)
    passed (onward {n} {q} {r} R e) a h = by (eq-or-lt_of_le (let z : a ≤ n = omega arith in z)) (λ z. passed R a z)
      where
        by : (a ≡ n) ⊎ (a < n) → (a < n → Passed a) → Passed a
        by (inr z) go = go z
        by (inl z) go = record { from = q; to = r; reached = subst (λ (k : ℕ). Reaches rd xs p k q) (sym z) R; step = e }

    one_place : {n : ℕ} {q r : Path} → Reaches rd xs p n q → Reaches rd xs p n r → q ≡ r
    one_place start start = refl
    one_place (onward {q = x} R e) (onward {q = y} S f) = let z : x ≡ y = one_place R S in cc

    -- it does not go on from where it ends
    abbrev Stops : Path → Type 0
    Stops q = (r : Path) → step_from rd xs q ≡ done (goes r) → ◌≡◌ {A = ℕ} 0 1

    stopped : {n m : ℕ} {q r : Path} → Reaches rd xs p n q → Stops q → Reaches rd xs p m r → n < m → ◌≡◌ {A = ℕ} 0 1
    stopped {n} {m} {q} R s S h =
        let P = passed S n h in
        let z : q ≡ P.from = one_place R P.reached in
        s P.to (ap (step_from rd xs) z ∙ P.step)

    -- ---- a path met again: the walk never ends

    pub record Again : Type 0 where
      pub n : ℕ
      pub m : ℕ
      pub q : Path
      pub r : Path
      pub sooner : Reaches rd xs p n q
      pub later : Reaches rd xs p m r
      pub order : n < m
      pub alike : same_path rd q r ≡ true

    module _ (A : Again) where
      -- after k steps it is at a path equal to one of those that go round
      record Rounds (k : ℕ) : Type 0 where
        at : Path
        reached : Reaches rd xs p k at
        i : ℕ
        below : i < A.m
        before : Path
        was : Reaches rd xs p i before
        same_step : step_from rd xs at ≡ step_from rd xs before

      onto_next : (k i : ℕ) (y : Path) → Reaches rd xs p k y → Reaches rd xs p (suc i) y → (suc i ≡ A.m) ⊎ (suc i < A.m) → Rounds k
      onto_next k i y R S (inr z) = record { at = y; reached = R; i = suc i; below = z; before = y; was = S; same_step = refl }
      onto_next k i y R S (inl z) =
          let e : y ≡ A.r = one_place (subst (λ (k : ℕ). Reaches rd xs p k y) z S) A.later in
          record { at = y; reached = R; i = A.n; below = A.order; before = A.q; was = A.sooner; same_step = rw e (sym (step_same A.q A.r A.alike)) }

      round_on : (k : ℕ) → Rounds k → Rounds (suc k)
      round_on k R =
          let P = passed A.later R.i R.below in
          let e : P.from ≡ R.before = one_place P.reached R.was in
          let s : step_from rd xs R.before ≡ done (goes P.to) = ap (step_from rd xs) (sym e) ∙ P.step in
          onto_next (suc k) R.i P.to (onward R.reached (R.same_step ∙ s)) (onward R.was s) (eq-or-lt_of_le (let h = R.below in let z : suc R.i ≤ A.m = omega arith in z))

      rounds : (j : ℕ) → Rounds (j + A.n)
      rounds zero = let z : 0 + A.n ≡ A.n = omega arith in rw z (record { at = A.q; reached = A.sooner; i = A.n; below = A.order; before = A.q; was = A.sooner; same_step = refl })
      rounds (suc j) = let z : suc j + A.n ≡ suc (j + A.n) = omega arith in rw z (round_on (j + A.n) (rounds j))

    -- so it is not where the walk stops
    endless : Again → {n : ℕ} {q : Path} → Reaches rd xs p n q → Stops q → ◌≡◌ {A = ℕ} 0 1
    endless A {n} R s = stopped R s (rounds A (suc n)).reached (omega arith)

    -- ---- a long walk meets a path again

    -- a number that it has met
    record Met (n m : ℕ) : Type 0 where
      at : ℕ
      early : at < n
      path : Path
      reached : Reaches rd xs p at path
      it : Declaration
      leads : declaration_for rd xs path ≡ some it
      number_of : it.number ≡ m

    record Trail (n : ℕ) : Type 0 where
      numbers : List ℕ
      count : length numbers ≡ n
      met : (m : ℕ) → m ∈ numbers → Met n m
      met_again : Twice numbers → Again

    meets : {n : ℕ} {q : Path} → Reaches rd xs p n q → (d : Declaration) → declaration_for rd xs q ≡ some d → Met n d.number → Again
    meets {n} {q} R d e M =
        record { n = M.at; m = n; q = M.path; r = q; sooner = M.reached; later = R; order = M.early; alike = (get_apart rd xs M.path q M.it d M.leads e).0 M.number_of }

    trail_on : {n : ℕ} {q : Path} → Reaches rd xs p n q → IsDeclared rd xs q → Trail n → Trail (suc n)
    trail_on {n} {q} R D T = record { numbers = D.0.number ∷ T.numbers; count = ap suc T.count; met = met; met_again = met_again }
      where
        met : (m : ℕ) → m ∈ (D.0.number ∷ T.numbers) → Met (suc n) m
        met m (here z) = record { at = n; early = omega arith; path = q; reached = R; it = D.0; leads = D.1; number_of = sym z }
        met m (there k) = let M = T.met m k in record { at = M.at; early = (let h = M.early in omega arith); path = M.path; reached = M.reached; it = M.it; leads = M.leads; number_of = M.number_of }

        met_again : Twice (D.0.number ∷ T.numbers) → Again
        met_again (now k) = meets R D.0 D.1 (T.met D.0.number k)
        met_again (later t) = T.met_again t

    trail : {n : ℕ} {r : Path} → Reaches rd xs p n r → Trail n
    trail start = record { numbers = []; count = refl; met = λ m k. absurd (not_in_nil k); met_again = λ t. elim t [ ] }
    trail (onward {q = q} {r = r} R e) = trail_on R (step_declared q r e).0 (trail R)

    -- as many steps as there are declarations are one path more
    long : {n : ℕ} {r : Path} → Reaches rd xs p n r → IsDeclared rd xs r → length (declarations xs) ≤ n → Again
    long {n} R D h =
        let T = trail_on R D (trail R) in
        let a = length-map (declarations xs) (λ (d : Declaration). d.number) in
        let b = T.count in
        T.met_again (twice T.numbers (map (λ (d : Declaration). d.number) (declarations xs)) (λ m k. known (T.met m k)) (omega arith))
      where
        known : {m : ℕ} → Met (suc n) m → m ∈ map (λ (d : Declaration). d.number) (declarations xs)
        known M = subst (λ (k : ℕ). k ∈ map (λ (d : Declaration). d.number) (declarations xs)) M.number_of (∈_map (λ (d : Declaration). d.number) (get_lowest rd xs M.path M.it M.leads).0)

    -- ---- what the walk by numbers answers

    -- the walk's answer, or it made n steps
    abbrev Ran : ℕ → Answer Bool → Type 0
    Ran n w = Walks rd xs p w ⊎ ((w ≡ refused 13 0) × ((r : Path) × Reaches rd xs p n r × IsDeclared rd xs r))

    module _ {k : ℕ} {q : Path} (R : Reaches rd xs p k q) (d : Declaration) (e : declaration_for rd xs q ≡ some d) where
      turn_on : (go : ℕ → Answer Bool) (n : ℕ) → ((r : Path) → step_from rd xs q ≡ done (goes r) → IsDeclared rd xs r → Ran n (go (number_for rd xs r))) → Ran n (turn_at rd xs d.number >>= turned rd xs go)
      unfolding turned turn_of
      turn_on go n f = rw (turn_is q d e) (by (step_from rd xs q) refl)
        where
          by : (o : Answer Step) → step_from rd xs q ≡ o → Ran n (mapped (turn_of rd xs) o >>= turned rd xs go)
          by (done (ends b)) z = inl (ended R z)
          by (done (goes r)) z = f r z (step_declared q r z).1
          by (refused n place) z = inl (failed R z)

    runs : (left : ℕ) {k : ℕ} {q : Path} → Reaches rd xs p k q → (d : Declaration) → declaration_for rd xs q ≡ some d → Ran (suc (left + k)) (walked_by rd xs left d.number)
    unfolding walked_by
    runs zero {k} {q} R d e = turn_on R d e (λ m. refused 13 0) (suc (0 + k)) (λ r z D. inr (refl, (r, (let y : 0 + k ≡ k = omega arith in rw y (onward R z)), D)))
    runs (suc left) {k} {q} R d e =
        let y : suc (suc left + k) ≡ suc (left + suc k) = omega arith in
        rw y (turn_on R d e (λ m. walked_by rd xs left m) (suc (left + suc k)) (λ r z D. rw (number_is rd xs r D.0 D.1) (runs left (onward R z) D.0 D.1)))

    -- fewer steps than there are declarations do
    pub walks_by_number : (d : Declaration) → declaration_for rd xs p ≡ some d → Walks rd xs p (walked_by rd xs (length (declarations xs) - 1) d.number)
    walks_by_number d e = by (runs (length (declarations xs) - 1) start d e)
      where
        by : {w : Answer Bool} → Ran (suc (length (declarations xs) - 1 + 0)) w → Walks rd xs p w
        by (inl w) = w
        by (inr (z, (r, R, D))) = let A = long R D (omega arith) in rw z (again A.sooner A.later A.order A.alike)

    pub not_declared : declaration_for rd xs p ≡ none → Walks rd xs p (refused 7 0)
    unfolding step_from answered
    not_declared e = failed start step
      where
        step : step_from rd xs p ≡ refused 7 0
        step = rw e refl

    -- ---- it answers, once

    pub answers : (w : Answer Bool) × Walks rd xs p w
    answers = by (declaration_for rd xs p) refl
      where
        by : (o : Option Declaration) → declaration_for rd xs p ≡ o → (w : Answer Bool) × Walks rd xs p w
        by none e = (refused 7 0, not_declared e)
        by (some d) e = (walked_by rd xs (length (declarations xs) - 1) d.number, walks_by_number d e)

    pub met_twice : Walks rd xs p (refused 13 0) → Again
    met_twice W = by W refl
      where
        by : {w : Answer Bool} → Walks rd xs p w → w ≡ refused 13 0 → Again
        by (ended R z) e = clash (cc)
        by (failed {k = k} {place = place} {q = q} R z) e = let y : k ≡ 13 = cc in clash (not_13 q place (z ∙ rw y refl))
        by (again {n} {m} {q} {r} R S h z) e = record { n = n; m = m; q = q; r = r; sooner = R; later = S; order = h; alike = z }

    -- the answer where it stops, or none
    data Outcome : Answer Bool → Type 0 where
      stops_at : {n : ℕ} {q : Path} {w : Answer Bool} → Reaches rd xs p n q → Stops q → step_from rd xs q ≡ mapped ends w → Outcome w
      goes_round : Again → Outcome (refused 13 0)

    outcome : {w : Answer Bool} → Walks rd xs p w → Outcome w
    outcome (ended R z) = stops_at R (λ r y. clash (cc)) z
    outcome (failed R z) = stops_at R (λ r y. clash (cc)) z
    outcome (again {n} {m} {q} {r} R S h z) = goes_round (record { n = n; m = m; q = q; r = r; sooner = R; later = S; order = h; alike = z })

    one_end : {n m : ℕ} {q r : Path} → Reaches rd xs p n q → Stops q → Reaches rd xs p m r → Stops r → q ≡ r
    one_end {n} {m} {q} {r} R s S t = by (leb n m) refl
      where
        on : (n ≡ m) ⊎ (n < m) → q ≡ r
        on (inl e) = one_place (subst (λ (k : ℕ). Reaches rd xs p k q) e R) S
        on (inr h) = clash (stopped R s S h)

        by : (b : Bool) → leb n m ≡ b → q ≡ r
        by true e = on (eq-or-lt_of_le (leb-true n m e))
        by false e = clash (stopped S t R (leb-false n m e))

    apart : {v w : Answer Bool} → Outcome v → Outcome w → v ≡ w
    apart {v} {w} (stops_at R s e) (stops_at S t f) = ends_apart v w (sym e ∙ ap (step_from rd xs) (one_end R s S t) ∙ f)
    apart (stops_at R s e) (goes_round A) = clash (endless A R s)
    apart (goes_round A) (stops_at R s e) = clash (endless A R s)
    apart (goes_round A) (goes_round B) = refl

    pub once : (v w : Answer Bool) → Walks rd xs p v → Walks rd xs p w → v ≡ w
    once v w x y = apart (outcome x) (outcome y)
