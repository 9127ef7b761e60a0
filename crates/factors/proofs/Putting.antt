-- What is built in the lent memory: the factors of an owner's items, then its subtypes that are left over, under the header of an ANDOR.
use mathlib.Core.Path.{◌≡◌, refl, sym, ap, ◌∙◌}
use mathlib.Core.Logic.{inl, inr}
use mathlib.Core.List.{List, [], ◌∷◌, ◌++◌, map, append_assoc, append-nil}
use mathlib.Core.Bool.{Bool, true, false}
use Prim.Native.Nat.{ℕ, suc, ◌+◌, ◌-◌, ◌≤◌}
use native.Mathlib.Omega.{arith}
use lib.Dec.{eqb}
use lib.ListN.{length, take, drop, get_or, length-append, length-drop}
use lib.Seq.{take_at, take_all, length-take-le}
use borrow.Author.Tests.{eq-eqb, ne_eqb}
use borrow.Rule.Slice.PartMut.{put_mid, post_of}
use Rattle.expression.specs.MeaningExpression.{Expr, reference, andor, «and», oneof, Terms, end, append, is_in_some, factors}
use Rattle.expression.specs.declared.Kind.{Kind}
use Rattle.expression.specs.declared.Kind.TheVariants.{Andor}
use Rattle.expression.specs.MirrorKinds.{kind_of}
use Rattle.expression.specs.MirrorNodes.{flat, flats}
use Rattle.expression.proofs.Spans.{flat_long, flats_append}
use Rattle.merging.specs.MeaningMerging.{Combined, Pair, references}
use Rattle.merging.specs.MeaningItems.{exprs_of, subs_of, all_factors, fresh}
use Rattle.merging.specs.MirrorStream.{stream_of, paired, pairs_of, Records, Pairs, Item, Appended}
use Rattle.merging.proofs.Factors.{both, append_end, all_factors_append}
use Rattle.std.specs.Prelude.{Option, None, Some}
use Rattle.merging.specs.MirrorWalk.{left, GivesRecord}
use Rattle.merging.specs.declared.Walk.{Walk}
use Rattle.merging.specs.declared.Record.{Record}
use Rattle.merging.proofs.Streams.{stream_injective, pairs_injective}
use Rattle.merging.proofs.Walking.{walk_ended, First, walk_first}

-- ---- appending
behind : (before after x rest : List ℕ) (used : ℕ) → used ≤ length before → after ≡ take used before ++ (x ++ rest) → take (used + length x) after ≡ take used before ++ x
behind before after x rest used h e =
    ap (take (used + length x)) (e ∙ sym (append_assoc (take used before) x rest))
    ∙ take_at (take used before ++ x) rest (used + length x) (length-append (take used before) x ∙ ap (λ (n : ℕ). n + length x) (length-take-le used before h))

pub copied : (nodes numbers ys z : List ℕ) (used k : ℕ) → used + length numbers ≤ length nodes → ys ≡ take (length numbers) numbers ++ drop (length numbers) z
    → Appended numbers nodes (put_mid used k nodes ys) used (used + length numbers)
copied nodes numbers ys z used k h e =
    let i : ys ++ post_of used k nodes ≡ numbers ++ (drop (length numbers) z ++ post_of used k nodes) =
    ap (λ (x : List ℕ). x ++ post_of used k nodes) (e ∙ ap (λ (x : List ℕ). x ++ drop (length numbers) z) (take_all (length numbers) numbers (omega arith)))
    ∙ append_assoc numbers (drop (length numbers) z) (post_of used k nodes) in
    record { ends = refl; front = behind nodes (put_mid used k nodes ys) numbers (drop (length numbers) z ++ post_of used k nodes) used (omega arith) (ap (λ (x : List ℕ). take used nodes ++ x) i) }

then_appended : (x y a b c : List ℕ) (used middle stop : ℕ) → Appended x a b used middle → Appended y b c middle stop → Appended (x ++ y) a c used stop
then_appended x y a b c used middle stop p q = record {
  ends = omega (arith, p.ends, q.ends, length-append x y);
  front = q.front ∙ ap (λ (l : List ℕ). l ++ y) p.front ∙ append_assoc (take used a) x y;
}

nothing_appended : (a : List ℕ) (used : ℕ) → Appended [] a a used used
nothing_appended a used = record { ends = omega arith; front = sym (append-nil (take used a)) }

-- ---- the factors of one item
pub item_long : (l : List ℕ) → Item l → 3 ≤ length l
item_long l i = rw i.is (flat_long i.expr)

terms_behind : (l : List ℕ) (e : Expr ℕ) → l ≡ flat e → kind_of (get_or l 0 0) ≡ Andor → take (length l - 3) (drop 3 l) ≡ flats (factors e)
unfolding flat factors
terms_behind l (reference n) h k = absurd (cc (rw h at k))
terms_behind l («and» t) h k = absurd (cc (rw h at k))
terms_behind l (oneof t) h k = absurd (cc (rw h at k))
terms_behind l (andor t) h k = take_all (length l - 3) (drop 3 l) (omega (arith, length-drop 3 l)) ∙ ap (drop 3) h

item_itself : (l : List ℕ) (e : Expr ℕ) → l ≡ flat e → (kind_of (get_or l 0 0) ≡ Andor → ⊥) → l ≡ flats (factors e)
unfolding flat factors
item_itself l (reference n) h k = h
item_itself l («and» t) h k = h ∙ sym (append-nil (flat («and» t)))
item_itself l (oneof t) h k = h ∙ sym (append-nil (flat (oneof t)))
item_itself l (andor t) h k = absurd (k (rw h refl))

module _ (l a b : List ℕ) (used stop : ℕ) (kind : Kind) (i : kind ≡ kind_of (get_or l 0 0)) where
  pub terms_put : kind ≡ Andor → Appended (take (length l - 3) (drop 3 l)) a b used stop → (e : Expr ℕ) → l ≡ flat e → Appended (flats (factors e)) a b used stop
  terms_put k p e h = rw (terms_behind l e h (sym i ∙ k)) at p

  pub item_put : (kind ≡ Andor → ⊥) → Appended l a b used stop → (e : Expr ℕ) → l ≡ flat e → Appended (flats (factors e)) a b used stop
  item_put k p e h = let j : l ≡ flats (factors e) = item_itself l e h (λ q. k (i ∙ q)) in swap j p
    where
      swap : {x y : List ℕ} → x ≡ y → Appended x a b used stop → Appended y a b used stop
      swap j p = rw (← j) p

pub ruleset factoring = (item_long, terms_put, item_put)

-- ---- the rules
abbrev pub rules_among : ℕ → List (Combined ℕ) → List ℕ
rules_among owner cs = flats (all_factors (exprs_of eqb owner cs) end)

pub flats_all : (es : List (Expr ℕ)) (t : Terms ℕ) → flats (all_factors es t) ≡ flats (all_factors es end) ++ flats t
flats_all es t = ap flats (all_factors_append es t) ∙ flats_append (all_factors es end) t

exprs_append : (owner : ℕ) (cs ds : List (Combined ℕ)) → exprs_of eqb owner (cs ++ ds) ≡ exprs_of eqb owner cs ++ exprs_of eqb owner ds
unfolding exprs_of
exprs_append owner [] ds = refl
exprs_append owner (c ∷ cs) ds = elim (both (eqb c.owner owner)) [
  | inl a ↦ rw a (ap (λ (l : List (Expr ℕ)). c.expr ∷ l) (exprs_append owner cs ds))
  | inr a ↦ rw a (exprs_append owner cs ds)
]

factors_append : (es fs : List (Expr ℕ)) → all_factors (es ++ fs) end ≡ all_factors es (all_factors fs end)
unfolding all_factors
factors_append [] fs = refl
factors_append (e ∷ es) fs = rw (factors_append es fs)

rules_append : (owner : ℕ) (cs ds : List (Combined ℕ)) → rules_among owner (cs ++ ds) ≡ rules_among owner cs ++ rules_among owner ds
rules_append owner cs ds =
    ap (λ (es : List (Expr ℕ)). flats (all_factors es end)) (exprs_append owner cs ds)
    ∙ ap flats (factors_append (exprs_of eqb owner cs) (exprs_of eqb owner ds))
    ∙ flats_all (exprs_of eqb owner cs) (all_factors (exprs_of eqb owner ds) end)

rules_one : (owner : ℕ) (c : Combined ℕ) → c.owner ≡ owner → rules_among owner (c ∷ []) ≡ flats (factors c.expr)
unfolding exprs_of all_factors
rules_one owner c e = rw (eq-eqb c.owner owner e) (ap flats (append_end (factors c.expr)))

rules_none : (owner : ℕ) (c : Combined ℕ) → (c.owner ≡ owner → ⊥) → rules_among owner (c ∷ []) ≡ []
unfolding exprs_of all_factors flat
rules_none owner c e = rw (ne_eqb c.owner owner e)

factors_short : (e : Expr ℕ) → length (flats (factors e)) ≤ length (flat e)
unfolding flat factors
factors_short (reference n) = omega arith
factors_short (andor t) = omega arith
factors_short («and» t) = omega (arith, ap length (append-nil (flats t)))
factors_short (oneof t) = omega (arith, ap length (append-nil (flats t)))

pub rules_short : (owner : ℕ) (cs : List (Combined ℕ)) → length (rules_among owner cs) ≤ length (stream_of cs)
unfolding stream_of exprs_of all_factors flat
rules_short owner [] = omega arith
rules_short owner (c ∷ cs) =
    let k = rules_short owner cs in
    let n = length-append (flat c.expr) (stream_of cs) in
    elim (both (eqb c.owner owner)) [
      | inl a ↦ rw (a, flats_append (factors c.expr) (all_factors (exprs_of eqb owner cs) end)) (omega (arith, length-append (flats (factors c.expr)) (rules_among owner cs), factors_short c.expr))
      | inr a ↦ rw a (omega arith)
    ]

-- the factors of the records so far stand behind what was used, and the others come
pub record Putting (rules : List ℕ) (owner : ℕ) (before nodes : List ℕ) (used stop : ℕ) (rest : List ℕ) : Type 0 where
  pub passed : List (Combined ℕ)
  pub coming : List (Combined ℕ)
  pub is : rules ≡ stream_of (passed ++ coming)
  pub stands : rest ≡ stream_of coming
  pub low : stop + length rest ≤ used + length rules
  pub room : used + length rules ≤ length before
  pub long : length nodes ≡ length before
  pub put : Appended (rules_among owner passed) before nodes used stop

pub put_start : (rules : List ℕ) (owner : ℕ) (nodes : List ℕ) (used : ℕ) → Records rules → used + length rules ≤ length nodes → (rest : List ℕ) → rest ≡ rules → Putting rules owner nodes nodes used used rest
unfolding exprs_of all_factors flat
put_start rules owner nodes used w h rest e = record {
  passed = [];
  coming = w.list;
  is = w.is;
  stands = e ∙ w.is;
  low = omega (arith, ap length e);
  room = h;
  long = refl;
  put = nothing_appended nodes used;
}

module _ (rules : List ℕ) (owner : ℕ) (before nodes : List ℕ) (used stop : ℕ) (w v : Walk) (r : Option Record) (g : Putting rules owner before nodes used stop (left w)) (s : GivesRecord w r v) where
  pub put_done : r ≡ None → (cs : List (Combined ℕ)) → rules ≡ stream_of cs → Appended (flats (all_factors (exprs_of eqb owner cs) end)) before nodes used stop
  put_done h cs e =
      let i : g.passed ≡ cs = sym (append-nil g.passed) ∙ ap (λ (ds : List (Combined ℕ)). g.passed ++ ds) (sym (walk_ended w v r g.coming h s g.stands)) ∙ stream_injective (g.passed ++ g.coming) cs (sym g.is ∙ e) in
      moved i g.put
    where
      moved : {ds es : List (Combined ℕ)} → ds ≡ es → Appended (rules_among owner ds) before nodes used stop → Appended (rules_among owner es) before nodes used stop
      moved i p = rw (← i) p

  module _ (x : Record) (h : r ≡ Some x) where
    one : First g.coming x (left v)
    one = walk_first w v r x g.coming h s g.stands

    split : rules ≡ stream_of ((g.passed ++ (one.first ∷ [])) ++ one.later)
    split = g.is ∙ ap (λ (cs : List (Combined ℕ)). stream_of (g.passed ++ cs)) one.split ∙ ap stream_of (sym (append_assoc g.passed (one.first ∷ []) one.later))

    fewer : length (left w) ≡ suc (length x.nodes.now + length (left v))
    unfolding stream_of
    fewer = ap length g.stands ∙ ap (λ (cs : List (Combined ℕ)). length (stream_of cs)) one.split ∙ ap suc (length-append (flat one.first.expr) (stream_of one.later) ∙ omega (arith, ap length one.nodes, ap length one.there))

    pub put_item : Item x.nodes.now
    put_item = record { expr = one.first.expr; is = sym one.nodes }

    pub put_enough : stop + length x.nodes.now ≤ length nodes
    put_enough = omega (arith, fewer, g.low, g.room, g.long)

    pub put_other : (x.owner ≡ owner → ⊥) → Putting rules owner before nodes used stop (left v)
    put_other k =
        let i : rules_among owner g.passed ≡ rules_among owner (g.passed ++ (one.first ∷ [])) =
        sym (rules_append owner g.passed (one.first ∷ []) ∙ ap (λ (l : List ℕ). rules_among owner g.passed ++ l) (rules_none owner one.first (λ j. k (sym one.owner ∙ j))) ∙ append-nil (rules_among owner g.passed)) in
        record { passed = g.passed ++ (one.first ∷ []); coming = one.later; is = split; stands = one.there; low = omega (arith, fewer, g.low); room = g.room; long = g.long; put = rw (← i) g.put }

    pub put_one : x.owner ≡ owner → (after : List ℕ) (stop' : ℕ) → length after ≡ length nodes
        → ((d : Expr ℕ) → x.nodes.now ≡ flat d → Appended (flats (factors d)) nodes after stop stop')
        → Putting rules owner before after used stop' (left v)
    put_one k after stop' same f =
        let p = f one.first.expr (sym one.nodes) in
        let i : rules_among owner (g.passed ++ (one.first ∷ [])) ≡ rules_among owner g.passed ++ flats (factors one.first.expr) =
        rules_append owner g.passed (one.first ∷ []) ∙ ap (λ (l : List ℕ). rules_among owner g.passed ++ l) (rules_one owner one.first (one.owner ∙ k)) in
        record {
          passed = g.passed ++ (one.first ∷ []);
          coming = one.later;
          is = split;
          stands = one.there;
          low = omega (arith, fewer, g.low, p.ends, factors_short one.first.expr, ap length one.nodes);
          room = g.room;
          long = same ∙ g.long;
          put = rw i (then_appended (rules_among owner g.passed) (flats (factors one.first.expr)) before nodes after used stop stop' g.put p);
        }

pub ruleset putting = (put_start, put_done, put_item, put_enough, put_other, put_one)

-- ---- the subtypes that are left over
abbrev pub fresh_in : ℕ → List (Combined ℕ) → List (Pair ℕ) → List ℕ
fresh_in owner cs xs = flats (references (fresh eqb (exprs_of eqb owner cs) (subs_of eqb owner xs)))

subs_append : (owner : ℕ) (xs ys : List (Pair ℕ)) → subs_of eqb owner (xs ++ ys) ≡ subs_of eqb owner xs ++ subs_of eqb owner ys
unfolding subs_of
subs_append owner [] ys = refl
subs_append owner (x ∷ xs) ys = elim (both (eqb x.super owner)) [
  | inl a ↦ rw a (ap (λ (l : List ℕ). x.sub ∷ l) (subs_append owner xs ys))
  | inr a ↦ rw a (subs_append owner xs ys)
]

fresh_append : (es : List (Expr ℕ)) (xs ys : List ℕ) → fresh eqb es (xs ++ ys) ≡ fresh eqb es xs ++ fresh eqb es ys
unfolding fresh
fresh_append es [] ys = refl
fresh_append es (x ∷ xs) ys = elim (both (is_in_some eqb x (all_factors es end))) [
  | inl a ↦ rw a (fresh_append es xs ys)
  | inr a ↦ rw a (ap (λ (l : List ℕ). x ∷ l) (fresh_append es xs ys))
]

references_append : (xs ys : List ℕ) → references (xs ++ ys) ≡ append (references xs) (references ys)
unfolding references
references_append [] ys = refl
references_append (x ∷ xs) ys = rw (references_append xs ys)

fresh_in_append : (owner : ℕ) (cs : List (Combined ℕ)) (xs ys : List (Pair ℕ)) → fresh_in owner cs (xs ++ ys) ≡ fresh_in owner cs xs ++ fresh_in owner cs ys
fresh_in_append owner cs xs ys =
    let es = exprs_of eqb owner cs in
    let a = fresh eqb es (subs_of eqb owner xs) in
    let b = fresh eqb es (subs_of eqb owner ys) in
    ap (λ (l : List ℕ). flats (references (fresh eqb es l))) (subs_append owner xs ys)
    ∙ ap (λ (l : List ℕ). flats (references l)) (fresh_append es (subs_of eqb owner xs) (subs_of eqb owner ys))
    ∙ ap flats (references_append a b)
    ∙ flats_append (references a) (references b)

module _ (owner : ℕ) (cs : List (Combined ℕ)) (x : Pair ℕ) where
  fresh_one : x.super ≡ owner → is_in_some eqb x.sub (all_factors (exprs_of eqb owner cs) end) ≡ false → fresh_in owner cs (x ∷ []) ≡ 0 ∷ x.sub ∷ 3 ∷ []
  unfolding subs_of fresh references flat
  fresh_one e f = rw (eq-eqb x.super owner e, f)

  fresh_old : x.super ≡ owner → is_in_some eqb x.sub (all_factors (exprs_of eqb owner cs) end) ≡ true → fresh_in owner cs (x ∷ []) ≡ []
  unfolding subs_of fresh references flat
  fresh_old e f = rw (eq-eqb x.super owner e, f)

  fresh_other : (x.super ≡ owner → ⊥) → fresh_in owner cs (x ∷ []) ≡ []
  unfolding subs_of fresh references flat
  fresh_other e = rw (ne_eqb x.super owner e)

-- a turn of a walk through pairs
record FirstPair (xs : List (Pair ℕ)) (r : Record) (rest : List ℕ) : Type 0 where
  first : Pair ℕ
  later : List (Pair ℕ)
  split : xs ≡ first ∷ later
  owner : first.super ≡ r.owner
  nodes : r.nodes.now ≡ 0 ∷ first.sub ∷ 3 ∷ []
  there : rest ≡ pairs_of later

pair_first : (xs : List (Pair ℕ)) (r : Record) (rest : List ℕ) → First (map paired xs) r rest → FirstPair xs r rest
unfolding flat
pair_first [] r rest f = absurd (omega (arith, ap length f.split))
pair_first (x ∷ xs) r rest f =
    let c : paired x ≡ f.first = cc f.split in
    record {
      first = x;
      later = xs;
      split = refl;
      owner = ap (λ (c : Combined ℕ). c.owner) c ∙ f.owner;
      nodes = sym (ap (λ (c : Combined ℕ). flat c.expr) c ∙ f.nodes);
      there = f.there ∙ ap stream_of (sym (cc f.split));
    }

pairs_ended : (xs : List (Pair ℕ)) → map paired xs ≡ [] → xs ≡ []
pairs_ended [] e = refl
pairs_ended (x ∷ xs) e = absurd (omega (arith, ap length e))

-- the subtypes so far that occur nowhere stand behind what was used, and the other pairs come
pub record Adding (rules pairs : List ℕ) (owner : ℕ) (before nodes : List ℕ) (used stop : ℕ) (rest : List ℕ) : Type 0 where
  pub items : Records rules
  pub passed : List (Pair ℕ)
  pub coming : List (Pair ℕ)
  pub is : pairs ≡ pairs_of (passed ++ coming)
  pub stands : rest ≡ pairs_of coming
  pub low : stop + length rest ≤ used + length pairs
  pub room : used + length pairs ≤ length before
  pub long : length nodes ≡ length before
  pub put : Appended (fresh_in owner items.list passed) before nodes used stop

pub add_start : (rules pairs : List ℕ) (owner : ℕ) (nodes : List ℕ) (used : ℕ) → Records rules → Pairs pairs → used + length pairs ≤ length nodes → (rest : List ℕ) → rest ≡ pairs → Adding rules pairs owner nodes nodes used used rest
unfolding subs_of fresh references flat
add_start rules pairs owner nodes used r w h rest e = record {
  items = r;
  passed = [];
  coming = w.list;
  is = w.is;
  stands = e ∙ w.is;
  low = omega (arith, ap length e);
  room = h;
  long = refl;
  put = nothing_appended nodes used;
}

module _ (rules pairs : List ℕ) (owner : ℕ) (before nodes : List ℕ) (used stop : ℕ) (w v : Walk) (r : Option Record) (g : Adding rules pairs owner before nodes used stop (left w)) (s : GivesRecord w r v) where
  pub add_done : r ≡ None → (cs : List (Combined ℕ)) (xs : List (Pair ℕ)) → rules ≡ stream_of cs → pairs ≡ pairs_of xs
      → Appended (flats (references (fresh eqb (exprs_of eqb owner cs) (subs_of eqb owner xs)))) before nodes used stop
  add_done h cs xs e f =
      let i : g.items.list ≡ cs = stream_injective g.items.list cs (sym g.items.is ∙ e) in
      let n : g.coming ≡ [] = pairs_ended g.coming (walk_ended w v r (map paired g.coming) h s g.stands) in
      let j : g.passed ≡ xs = sym (append-nil g.passed) ∙ ap (λ (ys : List (Pair ℕ)). g.passed ++ ys) (sym n) ∙ pairs_injective (g.passed ++ g.coming) xs (sym g.is ∙ f) in
      moved i j g.put
    where
      moved : {ds es : List (Combined ℕ)} {ys zs : List (Pair ℕ)} → ds ≡ es → ys ≡ zs → Appended (fresh_in owner ds ys) before nodes used stop → Appended (fresh_in owner es zs) before nodes used stop
      moved i j p = rw (← i, ← j) p

  module _ (x : Record) (h : r ≡ Some x) where
    pair_here : FirstPair g.coming x (left v)
    pair_here = pair_first g.coming x (left v) (walk_first w v r x (map paired g.coming) h s g.stands)

    pair_split : pairs ≡ pairs_of ((g.passed ++ (pair_here.first ∷ [])) ++ pair_here.later)
    pair_split = g.is ∙ ap (λ (xs : List (Pair ℕ)). pairs_of (g.passed ++ xs)) pair_here.split ∙ ap pairs_of (sym (append_assoc g.passed (pair_here.first ∷ []) pair_here.later))

    pair_fewer : length (left w) ≡ 4 + length (left v)
    unfolding stream_of flat
    pair_fewer = ap length g.stands ∙ ap (λ (xs : List (Pair ℕ)). length (pairs_of xs)) pair_here.split ∙ omega (arith, ap length pair_here.there)

    pub add_sub : length x.nodes.now ≡ 3
    add_sub = ap length pair_here.nodes

    pub add_room : stop + 3 ≤ length nodes
    add_room = omega (arith, pair_fewer, g.low, g.room, g.long)

    kept : fresh_in owner g.items.list (pair_here.first ∷ []) ≡ [] → Adding rules pairs owner before nodes used stop (left v)
    kept z =
        let i : fresh_in owner g.items.list g.passed ≡ fresh_in owner g.items.list (g.passed ++ (pair_here.first ∷ [])) =
        sym (fresh_in_append owner g.items.list g.passed (pair_here.first ∷ []) ∙ ap (λ (l : List ℕ). fresh_in owner g.items.list g.passed ++ l) z ∙ append-nil (fresh_in owner g.items.list g.passed)) in
        record { items = g.items; passed = g.passed ++ (pair_here.first ∷ []); coming = pair_here.later; is = pair_split; stands = pair_here.there; low = omega (arith, pair_fewer, g.low); room = g.room; long = g.long; put = rw (← i) g.put }

    pub add_other : (x.owner ≡ owner → ⊥) → Adding rules pairs owner before nodes used stop (left v)
    add_other k = kept (fresh_other owner g.items.list pair_here.first (λ i. k (sym pair_here.owner ∙ i)))

    module _ (k : x.owner ≡ owner) (b : Bool) (t : (cs : List (Combined ℕ)) → rules ≡ stream_of cs → b ≡ is_in_some eqb (get_or x.nodes.now 1 0) (all_factors (exprs_of eqb owner cs) end)) where
      sub : get_or x.nodes.now 1 0 ≡ pair_here.first.sub
      sub = ap (λ (l : List ℕ). get_or l 1 0) pair_here.nodes

      tested : is_in_some eqb pair_here.first.sub (all_factors (exprs_of eqb owner g.items.list) end) ≡ b
      tested = sym (t g.items.list g.items.is ∙ ap (λ (i : ℕ). is_in_some eqb i (all_factors (exprs_of eqb owner g.items.list) end)) sub)

      pub add_old : b ≡ true → Adding rules pairs owner before nodes used stop (left v)
      add_old f = kept (fresh_old owner g.items.list pair_here.first (pair_here.owner ∙ k) (tested ∙ f))

      pub add_new : b ≡ false → (after : List ℕ) (stop' : ℕ) → length after ≡ length nodes
          → (stop' ≡ stop + 3) × (after ≡ take stop nodes ++ ((0 ∷ get_or x.nodes.now 1 0 ∷ 3 ∷ []) ++ drop (stop + 3) nodes))
          → Adding rules pairs owner before after used stop' (left v)
      add_new f after stop' same p =
          let y : List ℕ = 0 ∷ get_or x.nodes.now 1 0 ∷ 3 ∷ [] in
          let q : Appended y nodes after stop stop' = record { ends = p.0; front = ap (λ (i : ℕ). take i after) p.0 ∙ behind nodes after y (drop (stop + 3) nodes) stop (omega (arith, add_room)) p.1 } in
          let i : fresh_in owner g.items.list (g.passed ++ (pair_here.first ∷ [])) ≡ fresh_in owner g.items.list g.passed ++ y =
          fresh_in_append owner g.items.list g.passed (pair_here.first ∷ [])
          ∙ ap (λ (l : List ℕ). fresh_in owner g.items.list g.passed ++ l) (fresh_one owner g.items.list pair_here.first (pair_here.owner ∙ k) (tested ∙ f) ∙ ap (λ (i : ℕ). 0 ∷ i ∷ 3 ∷ []) (sym sub)) in
          record {
            items = g.items;
            passed = g.passed ++ (pair_here.first ∷ []);
            coming = pair_here.later;
            is = pair_split;
            stands = pair_here.there;
            low = omega (arith, pair_fewer, g.low, p.0);
            room = g.room;
            long = same ∙ g.long;
            put = rw i (then_appended (fresh_in owner g.items.list g.passed) y before nodes after used stop stop' g.put q);
          }

pub ruleset adding = (add_start, add_done, add_sub, add_room, add_other, add_old, add_new)
