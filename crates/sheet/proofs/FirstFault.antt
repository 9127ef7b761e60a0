-- What the check answers is the first fault of the sheet, and where it accepts there is none.
use mathlib.Core.Path.{◌≡◌, refl, sym, ap, subst, ◌∙◌}
use mathlib.Core.Logic.{◌⊎◌, inl, inr}
use mathlib.Core.List.{List, [], ◌∷◌, ◌++◌}
use mathlib.Core.Bool.{Bool, true, false}
use Prim.Native.Nat.{ℕ, zero, suc, ◌+◌, ◌-◌, ◌*◌, ◌<◌, ◌≤◌}
use native.Mathlib.Nat.{not-suc-le-zero, le_refl}
use native.Mathlib.Omega.{arith}
use borrow.Author.Tests.{le-leb, lt-leb, leb-true, leb-false}
use lib.Dec.{leb}
use lib.ListN.{length}
use Rattle.refusal.specs.MeaningAnswer.{Answer, done, refused, ◌>>=◌}
use Rattle.grammar.specs.MeaningReading.{Reading}
use Rattle.grammar.specs.MeaningGrammar.{one_of, expressions, kind_of, most_bytes, most_depth}
use Rattle.grammar.specs.MeaningGrammar.Kind.{fields}
use Rattle.sheet.specs.MeaningSheet.{tag_of, end_of, Stood, how_many, Open, deep, Comes, Wrong, Fault, NotAfter, First}
use Rattle.sheet.specs.MeaningSheet.Open.{within}
use Rattle.sheet.specs.MeaningSheet.Comes.{start, into, past, out}
use Rattle.sheet.specs.MeaningSheet.Wrong.{passes, bad_tag, bad_simple, full, missing, bad_name, limit, depth, forbidden}
use Rattle.sheet.specs.MeaningSheet.Fault.{long, wrong}
use Rattle.sheet.specs.Claims.{AllBytes}
use Rattle.sheet.specs.MirrorCheck.{step_at, after, walk_at, no_counts, sheet_check}
use Rattle.sheet.specs.declared.Counts.{Counts}
use Rattle.sheet.specs.declared.Step.{Step}
use Rattle.sheet.specs.declared.Step.TheVariants.{Done, Past, Into}
use Rattle.grammar.proofs.Choosing.{clash}
use Rattle.sheet.proofs.Onward.{walk_eq}
use Rattle.grammar.proofs.Tabulated.{Fit, sheet_fit}
use Rattle.sheet.proofs.Judging.{counts_of, JudgedIf, judged, from3}

then_then : {A B : Type 0} (x : Answer A) (f : A → Answer B) (g : B → Answer Counts) → ((x >>= f) >>= g) ≡ (x >>= λ c. f c >>= g)
then_then (done c) f g = refl
then_then (refused n q) f g = refl

then_done : (x : Answer Counts) → (x >>= λ c. done c) ≡ x
then_done (done c) = refl
then_done (refused n q) = refl

-- a refusal: its number and its place
record Stop : Type 0 where
  number : ℕ
  place : ℕ

moved_on : {A B C C1 : Type 0} → (A → B ⊎ C) → (C1 → C) → A ⊎ C1 → B ⊎ C
moved_on f g (inl a) = f a
moved_on f g (inr c) = inr (g c)

module _ (rd : Reading) (s : List ℕ) (bytes : AllBytes s) (small : length s ≤ most_bytes) where
  -- K is what the check still does from a place on, given the counts
  abbrev Waits : List Open → ℕ → (Counts → Answer Counts) → Type 0
  Waits [] at K = (c : Counts) → K c ≡ done c
  Waits (within p e es ∷ os) at K =
      (st : ℕ) × Fit p es st × (at ≤ e) × (e ≤ length s) × (K1 : Counts → Answer Counts) × Waits os e K1
      × ((c : Counts) → K c ≡ ((walk_at rd s p st at e (most_depth - deep (within p e es ∷ os)) c) >>= K1))

  -- the check has come here, and its answer is what it still does
  record At (os : List Open) (at : ℕ) (fs : List Stood) : Type 0 where
    rest : Counts → Answer Counts
    waits : Waits os at rest
    so : sheet_check rd s ≡ rest (counts_of fs)

  -- what comes next
  data Next (p e : ℕ) (es : List ℕ) (os : List Open) (at : ℕ) (fs : List Stood) : Type 0 where
    ended : at ≡ e → ((n : ℕ) → Wrong rd s p e es os at fs n → ⊥) → At os e fs → Next p e es os at fs
    passed : at < e → end_of s at ≤ e → e ≤ length s → (kind_of (tag_of s at) ≡ fields → ⊥) → ((n : ℕ) → Wrong rd s p e es os at fs n → ⊥)
        → At (within p e (es ++ (tag_of s at ∷ [])) ∷ os) (end_of s at) ((p, tag_of s at) ∷ fs) → Next p e es os at fs
    entered : at < e → end_of s at ≤ e → e ≤ length s → kind_of (tag_of s at) ≡ fields → ((n : ℕ) → Wrong rd s p e es os at fs n → ⊥)
        → At (within (tag_of s at) (end_of s at) [] ∷ within p e (es ++ (tag_of s at ∷ [])) ∷ os) (at + 3) ((p, tag_of s at) ∷ fs) → Next p e es os at fs
    stopped : (r : Stop) → r.place ≡ at → Wrong rd s p e es os at fs r.number → ((m : ℕ) → Wrong rd s p e es os at fs m → r.number ≤ m) → sheet_check rd s ≡ refused r.number r.place → Next p e es os at fs

  module _ (p e : ℕ) (es : List ℕ) (os : List Open) (at : ℕ) (fs : List Stood) where
    abbrev D : ℕ
    D = deep (within p e es ∷ os)

    -- the depth that is left inside the field
    abbrev inner : ℕ
    inner = most_depth - deep (within (tag_of s at) (end_of s at) [] ∷ within p e (es ++ (tag_of s at ∷ [])) ∷ os)

    by_step : (st : ℕ) (K : Counts → Answer Counts) → Waits os e K → e ≤ length s → (x : Answer Step) → JudgedIf rd s p e es os at fs x → sheet_check rd s ≡ ((x >>= after (walk_at rd s) p e (most_depth - D)) >>= K) → Next p e es os at fs
    unfolding after deep
    by_step st K w l (done (Done c1)) j v = ended j.0 j.2 (record { rest = K; waits = w; so = v ∙ ap K j.1 })
    by_step st K w l (done (Past c1 st1 b)) j v =
        passed j.0.before j.0.whole l j.1 j.0.right (record {
          rest = λ c. ((walk_at rd s p st1 (end_of s at) e (most_depth - D) c) >>= K);
          waits = (st1, j.0.fit, j.0.whole, l, K, w, λ c. refl);
          so = v ∙ ap (λ (x : ℕ). ((walk_at rd s p st1 x e (most_depth - D) c1) >>= K)) j.0.ends ∙ ap (λ (c : Counts). ((walk_at rd s p st1 (end_of s at) e (most_depth - D) c) >>= K)) j.0.count;
        })
    by_step st K w l (done (Into c1 st1 u d1 a b)) j v =
        let K1 : Counts → Answer Counts = λ c. ((walk_at rd s p st1 (end_of s at) e (most_depth - D) c) >>= K) in
        entered j.0.before j.0.whole l j.1 j.0.right (record {
          rest = λ c. ((walk_at rd s (tag_of s at) 0 (at + 3) (end_of s at) inner c) >>= K1);
          waits = (0, j.4, omega arith, omega (arith, j.0.whole), K1, (st1, j.0.fit, j.0.whole, l, K, w, λ c. refl), λ c. refl);
          so = v ∙ rw (j.2, j.3, j.0.ends, j.5, j.0.count) (then_then (walk_at rd s (tag_of s at) 0 (at + 3) (end_of s at) inner (counts_of ((p, tag_of s at) ∷ fs))) (λ c. walk_at rd s p st1 (end_of s at) e (most_depth - D) c) K);
        })
    by_step st K w l (refused n q) j v = stopped (record { number = n; place = q }) j.0 j.1 j.2 v

    next : At (within p e es ∷ os) at fs → Next p e es os at fs
    next A =
        let w = A.waits in
        let st = w.0 in
        by_step st w.4 w.5 w.3 (step_at rd s p st at e (most_depth - D) (counts_of fs)) (judged rd s p e es os at fs st w.1 (bytes at) small w.3 w.2)
        (A.so ∙ w.6 (counts_of fs) ∙ ap (λ (x : Answer Counts). (x >>= w.4)) (walk_eq rd s p st at e (most_depth - D) (counts_of fs)))

  begun : At (within 0 (length s) [] ∷ []) 0 []
  unfolding sheet_check no_counts deep one_of expressions how_many
  begun = record {
    rest = λ c. ((walk_at rd s 0 0 0 (length s) most_depth c) >>= (λ c. done c));
    waits = (0, sheet_fit, omega arith, le_refl (length s), (λ c. done c), (λ c. refl), λ c. refl);
    so = rw (le-leb (length s) most_bytes small) (sym (then_done _));
  }

  -- ---- no fault comes before the answer

  -- the check has stopped before this place, or at it for a field that is missing
  abbrev Cut : ℕ → Type 0
  Cut at = (r : Stop) × (sheet_check rd s ≡ refused r.number r.place) × ((r.place < at) ⊎ ((r.place ≡ at) × (r.number ≤ 3)))

  later : (a b : ℕ) → a < b → Cut a → Cut b
  later a b h (r, v, inl q) = (r, v, inl (omega arith))
  later a b h (r, v, inr q) = (r, v, inl (omega arith))

  go_into : (p e : ℕ) (es : List ℕ) (os : List Open) (at : ℕ) (fs : List Stood) → at < e → kind_of (tag_of s at) ≡ fields → Next p e es os at fs
      → At (within (tag_of s at) (end_of s at) [] ∷ within p e (es ++ (tag_of s at ∷ [])) ∷ os) (at + 3) ((p, tag_of s at) ∷ fs) ⊎ Cut (at + 3)
  go_into p e es os at fs b k (ended q r A) = absurd (let y : ⊥ = omega arith in y)
  go_into p e es os at fs b k (passed c w l nk r A) = absurd (nk k)
  go_into p e es os at fs b k (entered c w l ik r A) = inl A
  go_into p e es os at fs b k (stopped r z w m v) = inr (r, v, inl (omega arith))

  go_past : (p e : ℕ) (es : List ℕ) (os : List Open) (at : ℕ) (fs : List Stood) → at < e → (kind_of (tag_of s at) ≡ fields → ⊥) → Next p e es os at fs
      → At (within p e (es ++ (tag_of s at ∷ [])) ∷ os) (end_of s at) ((p, tag_of s at) ∷ fs) ⊎ Cut (end_of s at)
  go_past p e es os at fs b k (ended q r A) = absurd (let y : ⊥ = omega arith in y)
  go_past p e es os at fs b k (passed c w l nk r A) = inl A
  go_past p e es os at fs b k (entered c w l ik r A) = absurd (k ik)
  go_past p e es os at fs b k (stopped r z w m v) = inr (r, v, inl (omega arith))

  -- at the end of a value no field stands, so only 3 can be wrong
  three_at_end : (p e : ℕ) (es : List ℕ) (os : List Open) (fs : List Stood) (n : ℕ) → Wrong rd s p e es os e fs n → n ≤ 3
  three_at_end p e es os fs n (passes a b) = omega arith
  three_at_end p e es os fs n (bad_tag a b) = omega arith
  three_at_end p e es os fs n (bad_simple a b c) = omega arith
  three_at_end p e es os fs n (full a b c) = omega arith
  three_at_end p e es os fs n (missing a b) = omega arith
  three_at_end p e es os fs n (bad_name a b c) = omega arith
  three_at_end p e es os fs n (limit a l b c) = omega arith
  three_at_end p e es os fs n (depth a b c) = omega arith
  three_at_end p e es os fs n (forbidden a b) = omega arith

  go_out : (p e : ℕ) (es : List ℕ) (os : List Open) (fs : List Stood) → Next p e es os e fs → At os e fs ⊎ Cut e
  go_out p e es os fs (ended q r A) = inl A
  go_out p e es os fs (passed c w l nk r A) = absurd (let y : ⊥ = omega arith in y)
  go_out p e es os fs (entered c w l ik r A) = absurd (let y : ⊥ = omega arith in y)
  go_out p e es os fs (stopped r z w m v) = inr (r, v, inr (z, three_at_end p e es os fs r.number w))

  arrived : {os : List Open} {at : ℕ} {fs : List Stood} → Comes s os at fs → At os at fs ⊎ Cut at
  arrived start = inl begun
  arrived (into {p} {e} {at} {es} {os} {fs} x w k) = moved_on (λ A. go_into p e es os at fs (omega arith) k (next p e es os at fs A)) (later at (at + 3) (omega arith)) (arrived x)
  arrived (past {p} {e} {at} {es} {os} {fs} x w k) = moved_on (λ A. go_past p e es os at fs (omega arith) k (next p e es os at fs A)) (later at (end_of s at) (omega arith)) (arrived x)
  arrived (out {p} {e} {es} {os} {fs} x) = moved_on (λ A. go_out p e es os fs (next p e es os e fs A)) (λ c. c) (arrived x)

  abbrev Bounded : ℕ → ℕ → Type 0
  Bounded m q = (r : Stop) × (sheet_check rd s ≡ refused r.number r.place) × NotAfter r.number r.place m q

  at_fault : (p e : ℕ) (es : List ℕ) (os : List Open) (at : ℕ) (fs : List Stood) (m : ℕ) → Wrong rd s p e es os at fs m → Next p e es os at fs → Bounded m at
  at_fault p e es os at fs m x (ended q r A) = absurd (r m x)
  at_fault p e es os at fs m x (passed c w l nk r A) = absurd (r m x)
  at_fault p e es os at fs m x (entered c w l ik r A) = absurd (r m x)
  at_fault p e es os at fs m x (stopped r z w l v) = (r, v, inr (z, l m x))

  behind : (m at : ℕ) → 3 ≤ m → Cut at → Bounded m at
  behind m at h (r, v, inl q) = (r, v, inl q)
  behind m at h (r, v, inr q) = (r, v, inr (q.0, omega arith))

  bounded : (m q : ℕ) → Fault rd s m q → Bounded m q
  bounded m q (long h) = absurd (let y : ⊥ = omega arith in y)
  bounded m q (wrong {p} {e} {at} {n} {es} {os} {fs} x w) = by (arrived x)
    where
      by : At (within p e es ∷ os) at fs ⊎ Cut at → Bounded n at
      by (inl A) = at_fault p e es os at fs n w (next p e es os at fs A)
      by (inr c) = behind n at (from3 rd s p e es os at fs n w) c

  -- ---- the answer is a fault

  sound : (k : ℕ) (os : List Open) (at : ℕ) (fs : List Stood) → (length s - at) * 2 + length os < k → Comes s os at fs → At os at fs → (r : Stop) → sheet_check rd s ≡ refused r.number r.place → Fault rd s r.number r.place
  sound zero os at fs h x A r v = absurd (not-suc-le-zero h)
  sound (suc k) [] at fs h x A r v = let z = A.so ∙ A.waits (counts_of fs) in clash (cc)
  sound (suc k) (within p e es ∷ os) at fs h x A r v = go (next p e es os at fs A) (sound k)
    where
      go : Next p e es os at fs → ((os : List Open) (at : ℕ) (fs : List Stood) → (length s - at) * 2 + length os < k → Comes s os at fs → At os at fs → (r : Stop) → sheet_check rd s ≡ refused r.number r.place → Fault rd s r.number r.place) → Fault rd s r.number r.place
      go (ended i f B) ih = ih os e fs (omega arith) (out (subst (λ (y : ℕ). Comes s (within p e es ∷ os) y fs) i x)) B r v
      go (passed c w l nk f B) ih = ih (within p e (es ++ (tag_of s at ∷ [])) ∷ os) (end_of s at) ((p, tag_of s at) ∷ fs) (omega arith) (past x w nk) B r v
      go (entered c w l ik f B) ih = ih (within (tag_of s at) (end_of s at) [] ∷ within p e (es ++ (tag_of s at ∷ [])) ∷ os) (at + 3) ((p, tag_of s at) ∷ fs) (omega arith) (into x w ik) B r v
      go (stopped r' z w l u) ih =
          let a : r'.number ≡ r.number = cc in
          let b : r'.place ≡ r.place = cc in
          rw (← a, ← b, z) (wrong x w)

  a_fault : (r : Stop) → sheet_check rd s ≡ refused r.number r.place → Fault rd s r.number r.place
  a_fault r v = sound (suc (length s * 2 + 1)) (within 0 (length s) [] ∷ []) 0 [] (omega arith) start begun r v

-- ---- sheets of any length

too_long : (rd : Reading) (s : List ℕ) → most_bytes < length s → sheet_check rd s ≡ refused 1 0
unfolding sheet_check
too_long rd s h = rw (lt-leb (length s) most_bytes h) refl

module _ (rd : Reading) (s : List ℕ) (bytes : AllBytes s) where
  by_length : {C : Type 0} → (length s ≤ most_bytes → C) → (most_bytes < length s → C) → C
  by_length {C} f g = go (leb (length s) most_bytes) refl
    where
      go : (b : Bool) → leb (length s) most_bytes ≡ b → C
      go true q = f (leb-true (length s) most_bytes q)
      go false q = g (leb-false (length s) most_bytes q)

  from1 : (m q : ℕ) → Fault rd s m q → 1 ≤ m
  from1 m q (long h) = omega arith
  from1 m q (wrong {p} {e} {at} {n} {es} {os} {fs} x w) = omega (arith, from3 rd s p e es os at fs n w)

  -- where there is a fault the check refuses, at it or before it
  fault_bounds : (m q : ℕ) → Fault rd s m q → (r : Stop) × (sheet_check rd s ≡ refused r.number r.place) × NotAfter r.number r.place m q
  fault_bounds m q x = by_length (λ l. bounded rd s bytes l m q x) (λ h. (record { number = 1; place = 0 }, too_long rd s h, first m q (from1 m q x)))
    where
      first : (m q : ℕ) → 1 ≤ m → NotAfter 1 0 m q
      first m zero h = inr (refl, h)
      first m (suc q) h = inl (omega arith)

  -- and what it refuses with is a fault
  check_fault : (r : Stop) → sheet_check rd s ≡ refused r.number r.place → Fault rd s r.number r.place
  check_fault r v = by_length (λ l. a_fault rd s bytes l r v) (λ h.
      let z = too_long rd s h in
      let a : 1 ≡ r.number = cc in
      let b : 0 ≡ r.place = cc in
      rw (← a, ← b) (long h))

  pub check_refuses : (n p : ℕ) → sheet_check rd s ≡ refused n p → First rd s n p
  check_refuses n p v = (
    check_fault (record { number = n; place = p }) v,
    λ m q x.
        let b = fault_bounds m q x in
        let w = b.1 in
        let i : b.0.number ≡ n = cc in
        let j : b.0.place ≡ p = cc in
        rw (i, j) at b.2,
  )

  pub check_accepts : (c : Counts) → sheet_check rd s ≡ done c → (n p : ℕ) → Fault rd s n p → ⊥
  check_accepts c v n p x = let b = fault_bounds n p x in let w = b.1 in clash (cc)
