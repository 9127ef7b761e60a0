-- The walk over a node and its terms: what the code reads there, what stands in the lent memory, and what is still to come.
use mathlib.Core.Path.{◌≡◌, refl, sym, ap, ◌∙◌}
use mathlib.Core.List.{List, [], ◌∷◌, ◌++◌, append-nil, flat_map}
use mathlib.Core.Logic.{◌⊎◌, inl, inr}
use mathlib.Core.Option.{Option, none, some}
use Prim.Native.Nat.{ℕ, suc, ◌+◌, ◌-◌, ◌*◌, ◌≤◌, ◌<◌, max}
use native.Mathlib.Numerals.{add-one}
use native.Mathlib.Omega.{arith}
use lib.ListN.{length, take, drop, get_or, length-append, length-drop, length-take, take-append-drop, drop_of_length-le}
use lib.Seq.{take_all, take_at, take-take, drop_at, length-take-le}
use mir.Syntax.{w64}
use mir.Val.{Fits}
use borrow.Rule.Slice.PartMut.{put_mid, post_of, take_put, same_len_mid}
use Rattle.refusal.specs.MeaningAnswer.{Answer, done, refused, mapped, ◌>>=◌}
use Rattle.refusal.specs.declared.Refusal.{Refusal}
use Rattle.complex_entity.specs.MeaningParts.{Part}
use Rattle.complex_entity.specs.MeaningRows as rows
use Rattle.std.specs.Prelude.{Result, Ok, Err}
use Rattle.refusal.specs.Told.{number_of}
use Rattle.instantiables.specs.declared.Instantiables.{Instantiables}
use Rattle.rows.specs.MirrorRows.{parts_at, Stands, Put}
use Rattle.instantiables.specs.MirrorRows.{Sets}
use Rattle.instantiables.specs.Told.{told_listed}
use Rattle.rows.proofs.Flats.{parts_flat}
use Rattle.expression.specs.MeaningExpression.{Expr, reference, andor, «and», oneof, Terms, end, ◌then◌, eval, values}
use Rattle.expression.specs.MirrorNodes.{flat, flats, height, heights, Node, Nodes}
use Rattle.terms.specs.MirrorValues.{FrontIf, Valuing, list_at, Ready, at_node, node_of, with_term, refusal_of, unless}
use Rattle.expression.specs.declared.Kind.{Kind}
use Rattle.expression.specs.declared.Kind.TheVariants.{Reference, Andor, And, Oneof}
use Rattle.expression.specs.MirrorKinds.{kind_of}
use Rattle.expression.proofs.Spans.{flat_long, span_at_law, flats_injective}
use Rattle.terms.proofs.Folds.{folded, folded_is, Good, Fine, good_empty, fine_eval, fine_next}
use Rattle.terms.proofs.Taking.{put_front}

-- ---- a node
module _ (l : List ℕ) (e : Expr ℕ) (h : l ≡ flat e) where
  pub node_long : 3 ≤ length l
  node_long = rw h (flat_long e)

  rest_all : take (length l - 3) (drop 3 l) ≡ drop 3 l
  rest_all = take_all (length l - 3) (drop 3 l) (omega (arith, length-drop 3 l))

pub tall : (e : Expr ℕ) → 1 ≤ height e
unfolding height
tall (reference n) = omega arith
tall (andor t) = omega arith
tall («and» t) = omega arith
tall (oneof t) = omega arith

-- a reference
one_row : (n : ℕ) (l : List ℕ) (list : Instantiables) (before after : List ℕ) → l ≡ flat (reference n) → list ≡ record { count = 1 } → Put ((get_or l 1 0 ∷ []) ∷ []) before after
    → Valuing (eval (reference n)) after (done list.count)
unfolding flat eval
one_row n l list before after h c p =
    let i : get_or l 1 0 ≡ n = ap (λ (x : List ℕ). get_or x 1 0) h in
    rw c (record { says = refl; stands = put_front ((n ∷ []) ∷ []) before after (fine_eval (reference n)).slim (rw i at p) })

pub leaf : (l : List ℕ) (e : Expr ℕ) (list : Instantiables) (before after : List ℕ) → l ≡ flat e → kind_of (get_or l 0 0) ≡ Reference → list ≡ record { count = 1 } → Put ((get_or l 1 0 ∷ []) ∷ []) before after
    → Valuing (eval e) after (done list.count)
unfolding flat
leaf l (reference n) list before after h z c p = one_row n l list before after h c p
leaf l (andor t) list before after h z c p = absurd (cc (rw h at z))
leaf l («and» t) list before after h z c p = absurd (cc (rw h at z))
leaf l (oneof t) list before after h z c p = absurd (cc (rw h at z))

-- a node with terms
pub inner : (l : List ℕ) (d : ℕ) (e : Expr ℕ) → l ≡ flat e → 2 * height e ≤ d → (kind_of (get_or l 0 0) ≡ Reference → ⊥) → Nodes (take (length l - 3) (drop 3 l)) (d - 1)
unfolding flat height
inner l d (reference n) h g z = absurd (z (rw h refl))
inner l d (andor t) h g z = record { terms = t; is = rest_all l (andor t) h ∙ ap (drop 3) h; high = omega arith }
inner l d («and» t) h g z = record { terms = t; is = rest_all l («and» t) h ∙ ap (drop 3) h; high = omega arith }
inner l d (oneof t) h g z = record { terms = t; is = rest_all l (oneof t) h ∙ ap (drop 3) h; high = omega arith }

pub opened : (l : List ℕ) (e : Expr ℕ) (after : List ℕ) (r : Answer ℕ) (kind : Kind) → l ≡ flat e → kind ≡ kind_of (get_or l 0 0) → (kind ≡ Reference → ⊥)
    → ((t : Terms ℕ) → take (length l - 3) (drop 3 l) ≡ flats t → Valuing (node_of kind t) after r) → Valuing (eval e) after r
unfolding flat eval node_of at_node
opened l (reference n) after r kind h i z f = absurd (z (i ∙ rw h refl))
opened l (andor t) after r kind h i z f = let k : kind ≡ Andor = i ∙ rw h refl in rw k at (f t (rest_all l (andor t) h ∙ ap (drop 3) h))
opened l («and» t) after r kind h i z f = let k : kind ≡ And = i ∙ rw h refl in rw k at (f t (rest_all l («and» t) h ∙ ap (drop 3) h))
opened l (oneof t) after r kind h i z f = let k : kind ≡ Oneof = i ∙ rw h refl in rw k at (f t (rest_all l (oneof t) h ∙ ap (drop 3) h))

-- ---- the first of the terms that are left
pub record Next (rest : List ℕ) (left : Terms ℕ) : Type 0 where
  pub expr : Expr ℕ
  pub later : Terms ℕ
  pub here : take (get_or rest 2 0) rest ≡ flat expr
  pub there : drop (get_or rest 2 0) rest ≡ flats later
  pub fits : get_or rest 2 0 ≤ length rest
  pub some_numbers : 3 ≤ get_or rest 2 0
  pub high : heights left ≡ max (height expr) (heights later)
  pub worth : values left ≡ (eval expr >>= λ L. values later >>= λ Ls. done (L ∷ Ls))

next_term : (rest : List ℕ) (left : Terms ℕ) → rest ≡ flats left → (length rest ≡ 0 → ⊥) → Next rest left
unfolding flat height eval
next_term rest end d lt = absurd (lt (ap length d))
next_term rest (e then t) d lt =
    let s : get_or rest 2 0 ≡ length (flat e) = ap (λ (l : List ℕ). get_or l 2 0) d ∙ span_at_law e (flats t) in
    record {
      expr = e;
      later = t;
      here = rw (s, d) (take_at (flat e) (flats t) _ refl);
      there = rw (s, d) (drop_at (flat e) (flats t) _ refl);
      fits = omega (arith, s, ap length d, length-append (flat e) (flats t));
      some_numbers = rw s (flat_long e);
      high = refl;
      worth = refl;
    }

-- a term has numbers, so the walk comes nearer its end
moves : (rest : List ℕ) (left : Terms ℕ) → rest ≡ flats left → (length rest ≡ 0) ⊎ (3 ≤ get_or rest 2 0)
unfolding flat
moves rest end d = inl (ap length d)
moves rest (e then t) d = inr (rw d (rw (span_at_law e (flats t)) (flat_long e)))

-- what is left behind a term is shorter
pub fewer : (rest behind : List ℕ) → 3 ≤ get_or rest 2 0 → (length rest ≡ 0 → ⊥) → behind ≡ drop (get_or rest 2 0) rest → length behind < length rest
fewer rest behind h lt q = omega (arith, ap length q, length-drop (get_or rest 2 0) rest)

-- no term stands at the end
none_left : (rest : List ℕ) (left : Terms ℕ) → rest ≡ flats left → length rest ≡ 0 → values left ≡ done []
unfolding flat eval
none_left rest end d le = refl
none_left rest (e then t) d le = absurd (omega (arith, ap length d, length-append (flat e) (flats t), flat_long e))

-- ---- a list that stands at the front can be worked on
standing : (o : Answer (List Part)) → Fine o → (l : List ℕ) (k : ℕ) → Valuing o l (done k) → 1664 ≤ length l → (o ≡ done (parts_at k l)) × Stands l k × Sets (parts_at k l)
standing (refused a b) g l k v h = let z : ◌≡◌ {A = ℕ} 0 1 = cc v.says in absurd (omega arith)
standing (done K) g l k v h = go (cc v.says)
  where
    parts : parts_at (length K) l ≡ K
    parts = ap (parts_at (length K)) (sym (take-append-drop (13 * length K) l) ∙ ap (λ (x : List ℕ). x ++ drop (13 * length K) l) v.stands) ∙ parts_flat K (drop (13 * length K) l) g.slim

    go : k ≡ length K → (done K ≡ done (parts_at k l)) × Stands l k × Sets (parts_at k l)
    go e =
        let p : parts_at k l ≡ K = ap (λ (j : ℕ). parts_at j l) e ∙ parts in (
          ap done (sym p),
          record { small = rw e g.small; room = h; clean = rw (p, e) v.stands; ordered = rw p g.rising },
          rw p g.sets,
        )

module _ (o : Answer (List Part)) (g : Fine o) (l : List ℕ) (h : 1664 ≤ length l) where
  ready_list : (list : Result Instantiables Refusal) → Valuing o l (told_listed list) → Ready list l
  unfolding Ready
  ready_list (Ok L) v = let s = standing o g l L.count v h in (s.1, s.2)
  ready_list (Err why) v = tt

  list_is : (list : Result Instantiables Refusal) → Valuing o l (told_listed list) → list_at list l ≡ o
  list_is (Ok L) v = sym (standing o g l L.count v h).0
  list_is (Err why) v = was o v.says
    where
      was : (o : Answer (List Part)) → refused (number_of why.reason) why.place ≡ mapped length o → refused (number_of why.reason) why.place ≡ o
      was (done K) s = let z : ◌≡◌ {A = ℕ} 0 1 = cc in absurd (omega arith)
      was (refused a b) s = cc

-- so can the list of an expression
pub valued_stands : (e : Expr ℕ) (l : List ℕ) (k : ℕ) → Valuing (eval e) l (done k) → 1664 ≤ length l → (eval e ≡ done (parts_at k l)) × Stands l k × Sets (parts_at k l)
valued_stands e l k v h = standing (eval e) (fine_eval e) l k v h

-- a refusal is the same refusal
refusal_is : (o : Answer (List Part)) (l : List ℕ) (a b : ℕ) → Valuing o l (refused a b) → o ≡ refused a b
refusal_is (done K) l a b v = let z : ◌≡◌ {A = ℕ} 0 1 = cc v.says in absurd (omega arith)
refusal_is (refused c d) l a b v = cc v.says

-- what stands past the room of the list does not matter to it
kept_front : (o : Answer (List Part)) → Fine o → (l l' : List ℕ) (r : Answer ℕ) → take 1664 l' ≡ take 1664 l → Valuing o l r → Valuing o l' r
kept_front (refused a b) g l l' r e v = record { says = v.says; stands = tt }
kept_front (done K) g l l' r e v =
    let k : 13 * length K ≤ 1664 = omega (arith, g.small) in
    record { says = v.says; stands = sym (take-take (13 * length K) 1664 l' k) ∙ ap (take (13 * length K)) e ∙ take-take (13 * length K) 1664 l k ∙ v.stands }

-- ---- the walk over the terms, with n terms taken in
pub record Going (kind : Kind) (terms rows₀ factor₀ scratch₀ : List ℕ) (depth : ℕ) (l factor scratch : List ℕ) (list : Result Instantiables Refusal) (n : ℕ) (rest : List ℕ) : Type 0 where
  pub countable : length terms < 18446744073709551616
  pub count : n + length rest ≤ length terms
  pub rows_long : length l ≡ length rows₀
  pub factor_long : length factor ≡ length factor₀
  pub scratch_long : length scratch ≡ length scratch₀
  pub room : 832 * (depth + 1) ≤ length l
  pub factor_room : 1664 ≤ length factor
  pub scratch_room : 1664 ≤ length scratch
  pub all : Terms ℕ
  pub all_is : terms ≡ flats all
  pub left : Terms ℕ
  pub left_is : rest ≡ flats left
  pub left_moves : (length rest ≡ 0) ⊎ (3 ≤ get_or rest 2 0)
  pub left_high : 2 * heights left + 1 ≤ depth
  pub so_far : Answer (List Part)
  pub fine : Fine so_far
  pub stands : Valuing so_far l (told_listed list)
  pub whole : (values left >>= folded kind n so_far) ≡ node_of kind all

folded_nothing : (kind : Kind) (v : Answer (List (List Part))) → (v >>= folded kind 0 (done [])) ≡ (v >>= at_node kind)
folded_nothing kind (done Ls) = folded_is kind Ls
folded_nothing kind (refused a b) = refl

pub set_out : (kind : Kind) (terms l factor scratch : List ℕ) (depth : ℕ) (own : Instantiables) → length terms < 18446744073709551616 → Nodes terms depth → 832 * (depth + 1) ≤ length l → 1664 ≤ length factor → 1664 ≤ length scratch → own ≡ record { count = 0 }
    → Going kind terms l factor scratch depth l factor scratch (Ok own) 0 terms
unfolding node_of rows.flat flat_map
set_out kind terms l factor scratch depth own small w a b c e =
    record {
      countable = small;
      count = omega arith;
      rows_long = refl;
      factor_long = refl;
      scratch_long = refl;
      room = a;
      factor_room = b;
      scratch_room = c;
      all = w.terms;
      all_is = w.is;
      left = w.terms;
      left_is = w.is;
      left_moves = moves terms w.terms w.is;
      left_high = w.high;
      so_far = done [];
      fine = good_empty;
      stands = rw e (record { says = refl; stands = empty_front });
      whole = folded_nothing kind (values w.terms);
    }
  where
    empty_front : FrontIf (done []) l
    empty_front = refl

module _ {kind : Kind} {terms rows₀ factor₀ scratch₀ : List ℕ} {depth : ℕ} {l factor scratch : List ℕ} {list : Result Instantiables Refusal} {n : ℕ} {rest : List ℕ}
    (g : Going kind terms rows₀ factor₀ scratch₀ depth l factor scratch list n rest) where
  pub ahead : (length rest ≡ 0 → ⊥) → Next rest g.left
  ahead lt = next_term rest g.left g.left_is lt

  -- the terms' answer is one, whoever asks
  for_all : (r : Answer ℕ) (after : List ℕ) → Valuing (node_of kind g.all) after r → (t : Terms ℕ) → terms ≡ flats t → Valuing (node_of kind t) after r
  for_all r after v t h = rw (flats_injective t g.all (sym h ∙ g.all_is)) v

  pub ended : (r : Result Instantiables Refusal) → length rest ≡ 0 → told_listed r ≡ unless (refusal_of kind n) (told_listed list) → (t : Terms ℕ) → terms ≡ flats t → Valuing (node_of kind t) l (told_listed r)
  unfolding folded
  ended r le e =
      let o : unless (refusal_of kind n) g.so_far ≡ node_of kind g.all = sym (ap (λ (v : Answer (List (List Part))). v >>= folded kind n g.so_far) (none_left rest g.left g.left_is le)) ∙ g.whole in
      for_all (told_listed r) l (rw (← o, e) (unless_valuing (refusal_of kind n) g.so_far (told_listed list) g.stands))
    where
      unless_valuing : (x : Option ℕ) (o : Answer (List Part)) (s : Answer ℕ) → Valuing o l s → Valuing (unless x o) l (unless x s)
      unless_valuing none o s v = v
      unless_valuing (some k) o s v = record { says = refl; stands = tt }

  module _ (lt : length rest ≡ 0 → ⊥) where
    -- what the code counts and reads on the way
    pub third_inside : 2 < length rest
    third_inside = omega (arith, (ahead lt).fits, (ahead lt).some_numbers)

    pub span_inside : get_or rest 2 0 ≤ length rest
    span_inside = (ahead lt).fits

    pub one_more : Fits w64 (n + 1)
    one_more = omega (arith, g.count, g.countable, third_inside)

    deep : 2 ≤ depth - 1
    deep = omega (arith, (ahead lt).high, tall (ahead lt).expr, g.left_high)

    pub long_enough : 3328 ≤ length l
    long_enough = omega (arith, g.room, (ahead lt).high, tall (ahead lt).expr, g.left_high)

    pub child : (term : List ℕ) → term ≡ take (get_or rest 2 0) rest → Node term (depth - 1)
    child term p = record { expr = (ahead lt).expr; is = p ∙ (ahead lt).here; high = omega (arith, (ahead lt).high, g.left_high) }

    pub child_room : 832 * (depth - 1) ≤ length (take (length l - 1664) (drop 1664 l))
    child_room = omega (arith, g.room, deep, length-take (length l - 1664) (drop 1664 l), length-drop 1664 l)

    -- the child has been valued, above the node's own list
    module _ (r : Result Instantiables Refusal) (ys : List ℕ) (same : length ys ≡ length (take (length l - 1664) (drop 1664 l)))
        (term : List ℕ) (p : term ≡ take (get_or rest 2 0) rest) (ens : (e : Expr ℕ) → term ≡ flat e → Valuing (eval e) ys (told_listed r)) where
      pub rows_again : length (put_mid 1664 (length l - 1664) l ys) ≡ length rows₀
      rows_again = same_len_mid 1664 (length l - 1664) l ys same ∙ g.rows_long

      valued_child : Valuing (eval (ahead lt).expr) ys (told_listed r)
      valued_child = ens (ahead lt).expr (p ∙ (ahead lt).here)

      -- its refusal is handed up
      pub handed : (why : Refusal) → r ≡ Err why → (r' : Result Instantiables Refusal) → r' ≡ Err why → (after : List ℕ) → (t : Terms ℕ) → terms ≡ flats t → Valuing (node_of kind t) after (told_listed r')
      handed why e r' e' after =
          let c : eval (ahead lt).expr ≡ refused (number_of why.reason) why.place = refusal_is (eval (ahead lt).expr) ys (number_of why.reason) why.place (rw e at valued_child) in
          let w : values g.left ≡ refused (number_of why.reason) why.place = (ahead lt).worth ∙ simp c in
          let o : node_of kind g.all ≡ refused (number_of why.reason) why.place = sym g.whole ∙ simp w in
          for_all (told_listed r') after (rw (o, e') (record { says = refl; stands = tt }))

      module _ (v : Instantiables) (e : r ≡ Ok v) where
        l' : List ℕ
        l' = put_mid 1664 (length l - 1664) l ys

        above_is : drop 1664 l' ≡ ys
        unfolding l'
        above_is =
            let a : length (take 1664 l) ≡ 1664 = length-take-le 1664 l (omega (arith, long_enough)) in
            let y : length (drop 1664 l) ≤ length l - 1664 = omega (arith, length-drop 1664 l) in
            let z : post_of 1664 (length l - 1664) l ≡ [] = drop_of_length-le (drop 1664 l) y in
            drop_at (take 1664 l) (ys ++ post_of 1664 (length l - 1664) l) 1664 a ∙ ap (λ (x : List ℕ). ys ++ x) z ∙ append-nil ys

        front_is : take 1664 l' ≡ take 1664 l
        unfolding l'
        front_is = take_put 1664 (length l - 1664) l ys (omega (arith, long_enough))

        ys_room : 1664 ≤ length ys
        ys_room = omega (arith, same, long_enough, length-take (length l - 1664) (drop 1664 l), length-drop 1664 l)

        child_stands : (eval (ahead lt).expr ≡ done (parts_at v.count ys)) × Stands ys v.count × Sets (parts_at v.count ys)
        child_stands = valued_stands (ahead lt).expr ys v.count (rw e at valued_child) ys_room

        own_stands' : Valuing g.so_far l' (told_listed list)
        own_stands' = kept_front g.so_far g.fine l l' (told_listed list) front_is g.stands

        l'_room : 1664 ≤ length l'
        unfolding l'
        l'_room = omega (arith, same_len_mid 1664 (length l - 1664) l ys same, long_enough)

        pub ready_own : Ready list (put_mid 1664 (length l - 1664) l ys)
        unfolding l'
        ready_own = ready_list g.so_far g.fine l' l'_room list own_stands'

        pub ready_child : Stands (drop 1664 (put_mid 1664 (length l - 1664) l ys)) v.count × Sets (parts_at v.count (drop 1664 (put_mid 1664 (length l - 1664) l ys)))
        unfolding l'
        ready_child = rw above_is (child_stands.1, child_stands.2)

        -- and is taken in
        pub onward : (behind : List ℕ) → behind ≡ drop (get_or rest 2 0) rest → (list' : Result Instantiables Refusal) (l'' factor'' scratch'' : List ℕ) → length l'' ≡ length (put_mid 1664 (length l - 1664) l ys) → length factor'' ≡ length factor → length scratch'' ≡ length scratch
            → Valuing (with_term kind n (list_at list (put_mid 1664 (length l - 1664) l ys)) (parts_at v.count (drop 1664 (put_mid 1664 (length l - 1664) l ys)))) l'' (told_listed list')
            → Going kind terms rows₀ factor₀ scratch₀ depth l'' factor'' scratch'' list' (n + 1) behind
        unfolding l' with_term folded
        onward behind q list' l'' factor'' scratch'' a b c w =
            let x = ahead lt in
            let L = parts_at v.count ys in
            let s : list_at list l' ≡ g.so_far = list_is g.so_far g.fine l' l'_room list own_stands' in
            let good : Good L = good_child in
            record {
              countable = g.countable;
              count = omega (arith, g.count, fewer rest behind x.some_numbers lt q);
              rows_long = a ∙ rows_again;
              factor_long = b ∙ g.factor_long;
              scratch_long = c ∙ g.scratch_long;
              room = omega (arith, g.room, a, same_len_mid 1664 (length l - 1664) l ys same);
              factor_room = omega (arith, g.factor_room, b);
              scratch_room = omega (arith, g.scratch_room, c);
              all = g.all;
              all_is = g.all_is;
              left = x.later;
              left_is = q ∙ x.there;
              left_moves = moves behind x.later (q ∙ x.there);
              left_high = omega (arith, x.high, g.left_high);
              so_far = with_term kind n g.so_far L;
              fine = fine_next kind n g.so_far L g.fine good;
              stands = rw (s, above_is) at w;
              whole = rw (add-one n) (sym turn) ∙ g.whole;
            }
          where
            good_child : Good (parts_at v.count ys)
            good_child = good_of (eval (ahead lt).expr) (fine_eval (ahead lt).expr) child_stands.0
              where
                good_of : (o : Answer (List Part)) → Fine o → o ≡ done (parts_at v.count ys) → Good (parts_at v.count ys)
                good_of (done K) f d = let k : parts_at v.count ys ≡ K = cc in rw k f
                good_of (refused a b) f d = let z : ◌≡◌ {A = ℕ} 0 1 = cc in absurd (omega arith)

            more : (L : List Part) (u : Answer (List (List Part))) → ((u >>= λ Ls. done (L ∷ Ls)) >>= folded kind n g.so_far) ≡ (u >>= folded kind (suc n) (with_term kind n g.so_far L))
            more L (done Ls) = refl
            more L (refused a b) = refl

            turn : (values g.left >>= folded kind n g.so_far) ≡ (values (ahead lt).later >>= folded kind (suc n) (with_term kind n g.so_far (parts_at v.count ys)))
            turn =
                let y : values g.left ≡ (values (ahead lt).later >>= λ Ls. done (parts_at v.count ys ∷ Ls)) = (ahead lt).worth ∙ simp child_stands.0 in
                ap (λ (u : Answer (List (List Part))). u >>= folded kind n g.so_far) y ∙ more (parts_at v.count ys) (values (ahead lt).later)

pub ruleset walking = (set_out, ended, third_inside, span_inside, one_more, long_enough, rows_again, handed)
