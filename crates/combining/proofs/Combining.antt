-- The expression of an owner stands in what was built; and its height.
use mathlib.Core.Path.{◌≡◌, refl, sym, ap, ◌∙◌}
use mathlib.Core.Logic.{inl, inr}
use mathlib.Core.List.{List, [], ◌∷◌, ◌++◌, append_assoc, append-nil}
use mathlib.Core.Bool.{true}
use mathlib.Core.Option.{none, some}
use Prim.Native.Nat.{ℕ, zero, suc, ◌+◌, ◌-◌, ◌≤◌}
use native.Mathlib.Nat.{zero-add, suc-add}
use native.Mathlib.Omega.{arith}
use lib.Dec.{eqb}
use lib.ListN.{length, take, drop, set, length-append, length-set}
use lib.Seq.{take-nil, take_at, take-set-lt}
use Rattle.expression.specs.MeaningExpression.{Expr, reference, andor, «and», oneof, Terms, end, is_in_some, factors}
use Rattle.expression.specs.MirrorNodes.{flat, flats, height, heights, Node}
use Rattle.expression.proofs.Spans.{heights_append}
use Rattle.merging.specs.MeaningMerging.{Combined, Pair, references}
use Rattle.merging.specs.MeaningItems.{exprs_of, subs_of, all_factors, fresh, combine, combined_of}
use Rattle.merging.specs.MeaningRenaming.{Each}
use Rattle.merging.specs.MirrorStream.{stream_of, pairs_of, Records, Pairs, Appended, Holds, begins, alone_of}
use Rattle.std.specs.Prelude as told
use Rattle.std.specs.Prelude.{None, Some}
use Rattle.merging.specs.declared.Combination.{Combination}
use Rattle.merging.proofs.Factors.{both, not_both, append_end}
use Rattle.factors.proofs.Putting.{rules_short, fresh_in, flats_all}

-- ---- how much is built
fresh_short : (owner : ℕ) (cs : List (Combined ℕ)) (xs : List (Pair ℕ)) → length (fresh_in owner cs xs) ≤ length (pairs_of xs)
unfolding stream_of subs_of fresh references flat
fresh_short owner cs [] = omega arith
fresh_short owner cs (x ∷ xs) =
    let k = fresh_short owner cs xs in
    elim (both (eqb x.super owner)) [
      | inl a ↦ elim (both (is_in_some eqb x.sub (all_factors (exprs_of eqb owner cs) end))) [ inl b ↦ rw (a, b) (omega arith) | inr b ↦ rw (a, b) (omega arith) ]
      | inr a ↦ rw a (omega arith)
    ]

-- what the calls hand back fits
pub rules_fit : (rules before nodes : List ℕ) (owner used stop : ℕ) (w : Records rules)
    → ((cs : List (Combined ℕ)) → rules ≡ stream_of cs → Appended (flats (all_factors (exprs_of eqb owner cs) end)) before nodes used stop) → stop ≤ used + length rules
rules_fit rules before nodes owner used stop w f = omega (arith, (f w.list w.is).ends, rules_short owner w.list, ap length w.is)

pub fresh_fit : (rules pairs before nodes : List ℕ) (owner used stop : ℕ) (w : Records rules) (v : Pairs pairs)
    → ((cs : List (Combined ℕ)) (xs : List (Pair ℕ)) → rules ≡ stream_of cs → pairs ≡ pairs_of xs → Appended (flats (references (fresh eqb (exprs_of eqb owner cs) (subs_of eqb owner xs)))) before nodes used stop)
    → stop ≤ used + length pairs
fresh_fit rules pairs before nodes owner used stop w v f =
    omega (arith, (f w.list v.list w.is v.is).ends, fresh_short owner w.list v.list, ap length v.is)

-- ---- what stands under the header
drop_take : (a n : ℕ) (l : List ℕ) → drop a (take (a + n) l) ≡ take n (drop a l)
drop_take zero n l = rw zero-add
drop_take (suc a) n [] = rw suc-add (sym (take-nil n))
drop_take (suc a) n (x ∷ l) = rw suc-add (drop_take a n l)

-- the terms of an ANDOR of all factors stand from its header to the stop
pub record Under (l : List ℕ) (stop : ℕ) (t : Terms ℕ) : Type 0 where
  pub front : take stop l ≡ 1 ∷ 0 ∷ stop ∷ flats t
  pub ends : stop ≡ 3 + length (flats t)
  pub inside : stop ≤ length l

module _ {l : List ℕ} {stop : ℕ} {t : Terms ℕ} (u : Under l stop t) where
  -- with the header, or behind it
  with_header : take (stop - 0) (drop 0 l) ≡ flat (andor t)
  unfolding flat
  with_header =
      let z : stop - 0 ≡ stop = omega arith in
      ap (λ (n : ℕ). take n l) z ∙ u.front ∙ ap (λ (n : ℕ). 1 ∷ 0 ∷ n ∷ flats t) (u.ends ∙ omega arith)

  without_header : take (stop - 3) (drop 3 l) ≡ flats t
  without_header =
      let n : stop ≡ 3 + (stop - 3) = omega (arith, u.ends) in
      sym (drop_take 3 (stop - 3) l) ∙ ap (λ (k : ℕ). drop 3 (take k l)) (sym n) ∙ ap (drop 3) u.front

  holds_andor : Holds (some (andor t)) l (Some (record { start = 0; stop = stop }))
  unfolding Holds
  holds_andor = (omega arith, u.inside, with_header)

  holds_other : (e : Expr ℕ) → flats t ≡ flat e → Holds (some e) l (Some (record { start = 3; stop = stop }))
  unfolding Holds
  holds_other e i = (omega (arith, u.ends), u.inside, without_header ∙ i)

-- one item stays as it is
holds_one : (e : Expr ℕ) (l : List ℕ) (stop : ℕ) → Under l stop (factors e) → Holds (some e) l (Some (record { start = begins e; stop = stop }))
unfolding factors begins flat
holds_one (reference n) l stop u = holds_other u (reference n) refl
holds_one (andor t) l stop u = holds_andor u
holds_one («and» t) l stop u = holds_other u («and» t) (append-nil (flat («and» t)))
holds_one (oneof t) l stop u = holds_other u (oneof t) (append-nil (flat (oneof t)))

holds_none : (l : List ℕ) → Holds none l None
unfolding Holds
holds_none l = tt

holds_alone : (es : List (Expr ℕ)) (l : List ℕ) (stop : ℕ) → Under l stop (all_factors es end) → Holds (combine es []) l (alone_of es stop)
unfolding combine alone_of all_factors
holds_alone [] l stop u = holds_none l
holds_alone (e ∷ []) l stop u = holds_one e l stop (rw (append_end (factors e)) at u)
holds_alone (e ∷ d ∷ es) l stop u = holds_andor u

holds_more : (es : List (Expr ℕ)) (y : ℕ) (ys : List ℕ) (l : List ℕ) (stop : ℕ) → Under l stop (all_factors es (references (y ∷ ys))) → Holds (combine es (y ∷ ys)) l (Some (record { start = 0; stop = stop }))
unfolding combine
holds_more [] y ys l stop u = holds_andor u
holds_more (e ∷ []) y ys l stop u = holds_andor u
holds_more (e ∷ d ∷ es) y ys l stop u = holds_andor u

-- ---- all that was built: the header, the factors, the subtypes that are left over
header : (before one : List ℕ) → one ≡ take 0 before ++ ((1 ∷ 0 ∷ 0 ∷ []) ++ drop (0 + 3) before) → take 3 one ≡ 1 ∷ 0 ∷ 0 ∷ []
header before one e = ap (take 3) e ∙ take_at (1 ∷ 0 ∷ 0 ∷ []) (drop (0 + 3) before) 3 refl

patched : (l x : List ℕ) (stop : ℕ) → 3 ≤ stop → take stop l ≡ (1 ∷ 0 ∷ 0 ∷ []) ++ x → take stop (set l 2 stop) ≡ 1 ∷ 0 ∷ stop ∷ x
patched l x stop h e = take-set-lt stop l 2 stop (omega arith) ∙ ap (λ (y : List ℕ). set y 2 stop) e

three_parts : (one two three p x y z : List ℕ) (middle stop : ℕ) → take 3 one ≡ p → Appended x one two 3 middle → Appended y two three middle stop → x ++ y ≡ z → take stop three ≡ p ++ z
three_parts one two three p x y z middle stop h q r e =
    r.front ∙ ap (λ (l : List ℕ). l ++ y) (q.front ∙ ap (λ (l : List ℕ). l ++ x) h) ∙ append_assoc p x y ∙ ap (λ (l : List ℕ). p ++ l) e

under : (one two three : List ℕ) (middle stop : ℕ) (es : List (Expr ℕ)) (ys : List ℕ) → take 3 one ≡ 1 ∷ 0 ∷ 0 ∷ []
    → Appended (flats (all_factors es end)) one two 3 middle → Appended (flats (references ys)) two three middle stop → stop ≤ length three
    → Under (set three 2 stop) stop (all_factors es (references ys))
under one two three middle stop es ys p q r h =
    let f = flats_all es (references ys) in
    let n : stop ≡ 3 + length (flats (all_factors es (references ys))) = omega (arith, q.ends, r.ends, length-append (flats (all_factors es end)) (flats (references ys)), ap length f) in
    record {
      front = patched three (flats (all_factors es (references ys))) stop (omega arith) (three_parts one two three (1 ∷ 0 ∷ 0 ∷ []) (flats (all_factors es end)) (flats (references ys)) (flats (all_factors es (references ys))) middle stop p q r (sym f));
      ends = n;
      inside = omega (arith, length-set three 2 stop);
    }

some_left : (y : ℕ) (ys : List ℕ) → 3 ≤ length (flats (references (y ∷ ys)))
unfolding references flat
some_left y ys = omega arith

none_left : length (flats (references [])) ≡ 0
unfolding references flat
none_left = refl

module _ (rules pairs before one two three : List ℕ) (body middle stop owner : ℕ)
    (p : (body ≡ 0 + 3) × (one ≡ take 0 before ++ ((1 ∷ 0 ∷ 0 ∷ []) ++ drop (0 + 3) before)))
    (q : (cs : List (Combined ℕ)) → rules ≡ stream_of cs → Appended (flats (all_factors (exprs_of eqb owner cs) end)) one two body middle)
    (r : (cs : List (Combined ℕ)) (xs : List (Pair ℕ)) → rules ≡ stream_of cs → pairs ≡ pairs_of xs → Appended (flats (references (fresh eqb (exprs_of eqb owner cs) (subs_of eqb owner xs)))) two three middle stop)
    (w : Records rules) (v : Pairs pairs) (room : 3 + length rules + length pairs ≤ length before)
    (n₁ : length one ≡ length before) (n₂ : length two ≡ length one) (n₃ : length three ≡ length two) (cs : List (Combined ℕ)) (xs : List (Pair ℕ)) (i : rules ≡ stream_of cs) (j : pairs ≡ pairs_of xs) where
  three_first : Appended (flats (all_factors (exprs_of eqb owner cs) end)) one two 3 middle
  three_first = let k : body ≡ 3 = p.0 in rw k at (q cs i)

  inside : stop ≤ length three
  inside = let a = rules_fit rules one two owner body middle w q in let b = fresh_fit rules pairs two three owner middle stop w v r in omega (arith, p.0)

  abbrev rest : List ℕ
  rest = fresh eqb (exprs_of eqb owner cs) (subs_of eqb owner xs)

  built : Under (set three 2 stop) stop (all_factors (exprs_of eqb owner cs) (references rest))
  built = under one two three middle stop (exprs_of eqb owner cs) rest (header before one p.1) three_first (r cs xs i j) inside

  pub combined_more : (stop ≡ middle → ⊥) → Holds (combined_of eqb owner cs xs) (set three 2 stop) (Some (record { start = 0; stop = stop }))
  unfolding combined_of
  combined_more d = go rest built (r cs xs i j).ends
    where
      go : (ys : List ℕ) → Under (set three 2 stop) stop (all_factors (exprs_of eqb owner cs) (references ys)) → stop ≡ middle + length (flats (references ys))
          → Holds (combine (exprs_of eqb owner cs) ys) (set three 2 stop) (Some (record { start = 0; stop = stop }))
      go [] u e = absurd (d (omega (arith, none_left)))
      go (y ∷ ys) u e = holds_more (exprs_of eqb owner cs) y ys (set three 2 stop) stop u

  pub combined_alone : stop ≡ middle → (c : told.Option Combination) → ((ds : List (Combined ℕ)) → rules ≡ stream_of ds → c ≡ alone_of (exprs_of eqb owner ds) stop) → Holds (combined_of eqb owner cs xs) (set three 2 stop) c
  unfolding combined_of references
  combined_alone d c f = rw (f cs i) (go rest built (r cs xs i j).ends)
    where
      go : (ys : List ℕ) → Under (set three 2 stop) stop (all_factors (exprs_of eqb owner cs) (references ys)) → stop ≡ middle + length (flats (references ys))
          → Holds (combine (exprs_of eqb owner cs) ys) (set three 2 stop) (alone_of (exprs_of eqb owner cs) stop)
      go [] u e = holds_alone (exprs_of eqb owner cs) (set three 2 stop) stop u
      go (y ∷ ys) u e = absurd (omega (arith, some_left y ys))

-- ---- how high and how long a combination is
factors_high : (e : Expr ℕ) (n : ℕ) → height e ≤ n → heights (factors e) ≤ n
unfolding factors height
factors_high (reference m) n h = omega arith
factors_high (andor t) n h = omega arith
factors_high («and» t) n h = omega arith
factors_high (oneof t) n h = omega arith

all_high : (es : List (Expr ℕ)) (t : Terms ℕ) (n : ℕ) → Each (λ (e : Expr ℕ). height e ≤ n) es → heights t ≤ n → heights (all_factors es t) ≤ n
unfolding all_factors Each
all_high [] t n g h = h
all_high (e ∷ es) t n g h = rw (heights_append (factors e) (all_factors es t)) (let a = factors_high e n g.0 in let b = all_high es t n g.1 h in omega arith)

references_high : (xs : List ℕ) → heights (references xs) ≤ 1
unfolding references height
references_high [] = omega arith
references_high (x ∷ xs) = omega (arith, references_high xs)

andor_high : (t : Terms ℕ) (n : ℕ) → heights t ≤ n → height (andor t) ≤ n + 1
unfolding height
andor_high t n h = omega arith

exprs_high : (owner n : ℕ) (cs : List (Combined ℕ)) → Each (λ (c : Combined ℕ). height c.expr ≤ n) cs → Each (λ (e : Expr ℕ). height e ≤ n) (exprs_of eqb owner cs)
unfolding exprs_of Each
exprs_high owner n [] g = tt
exprs_high owner n (c ∷ cs) g = elim (both (eqb c.owner owner)) [ inl a ↦ rw a (g.0, exprs_high owner n cs g.1) | inr a ↦ rw a (exprs_high owner n cs g.1) ]

more_high : (es : List (Expr ℕ)) (xs : List ℕ) (n : ℕ) (e : Expr ℕ) → andor (all_factors es (references xs)) ≡ e → Each (λ (d : Expr ℕ). height d ≤ n) es → 1 ≤ n → height e ≤ n + 1
more_high es xs n e i g h = rw (← i) (andor_high (all_factors es (references xs)) n (all_high es (references xs) n g (omega (arith, references_high xs))))

combine_high : (es : List (Expr ℕ)) (xs : List ℕ) (n : ℕ) (e : Expr ℕ) → combine es xs ≡ some e → Each (λ (d : Expr ℕ). height d ≤ n) es → 1 ≤ n → height e ≤ n + 1
unfolding combine Each references
combine_high [] [] n e c g h = not_both true refl (cc)
combine_high (d ∷ []) [] n e c g h = let i : d ≡ e = cc in omega (arith, rw i at g.0)
combine_high (d ∷ f ∷ es) [] n e c g h = more_high (d ∷ f ∷ es) [] n e (cc) g h
combine_high [] (x ∷ xs) n e c g h = more_high [] (x ∷ xs) n e (cc) g h
combine_high (d ∷ []) (x ∷ xs) n e c g h = more_high (d ∷ []) (x ∷ xs) n e (cc) g h
combine_high (d ∷ f ∷ es) (x ∷ xs) n e c g h = more_high (d ∷ f ∷ es) (x ∷ xs) n e (cc) g h

-- every item is at most n high: the combination is at most one higher
combined_high : (owner n : ℕ) (cs : List (Combined ℕ)) (xs : List (Pair ℕ)) (e : Expr ℕ) → combined_of eqb owner cs xs ≡ some e → Each (λ (c : Combined ℕ). height c.expr ≤ n) cs → 1 ≤ n → height e ≤ n + 1
unfolding combined_of
combined_high owner n cs xs e c g h = combine_high (exprs_of eqb owner cs) (fresh eqb (exprs_of eqb owner cs) (subs_of eqb owner xs)) n e c (exprs_high owner n cs g) h

-- so 12 calls value it where every item is at most 5 high
pub combined_node : (owner : ℕ) (cs : List (Combined ℕ)) (xs : List (Pair ℕ)) (e : Expr ℕ) (l : List ℕ) → combined_of eqb owner cs xs ≡ some e → Each (λ (c : Combined ℕ). height c.expr ≤ 5) cs → l ≡ flat e → Node l 12
combined_node owner cs xs e l c g i = record { expr = e; is = i; high = omega (arith, combined_high owner 5 cs xs e c g (omega arith)) }
