-- What a walk gives: where records stand, it gives each with its nodes.
use mathlib.Core.Path.{◌≡◌, refl, sym, ap, ◌∙◌}
use mathlib.Core.List.{List, [], ◌∷◌, ◌++◌, map}
use Prim.Native.Nat.{ℕ, zero, suc, ◌≤◌, ◌<◌, max}
use native.Mathlib.Omega.{arith}
use lib.ListN.{length, take, drop, get_or, length-append}
use lib.Seq.{take_at, drop_at}
use Rattle.std.proofs.Common.{take-append-drop}
use borrow.Author.Tests.{le-leb, lt-leb}
use Rattle.std.specs.Prelude.{Option, None, Some}
use Rattle.std.proofs.lemmas.Iterator.{YieldsList}
use Rattle.std.proofs.lemmas.Iterator.Consumers.{YieldsList-from_shown}
use Rattle.expression.specs.MirrorNodes.{flat}
use Rattle.expression.proofs.Spans.{flat_long, span_at_law}
use Rattle.merging.specs.MeaningMerging.{Combined}
use Rattle.merging.specs.MirrorStream.{stream_of}
use Rattle.merging.specs.MirrorWalk.{records_behind, records_of, shown, shown_item, left, GivesRecord}
use Rattle.merging.specs.declared.Walk.{Walk}
use Rattle.merging.specs.declared.Record.{Record}

behind_is : (k : ℕ) (l : List ℕ) → records_behind k l ≡ records_of (drop k l)
unfolding records_behind
behind_is zero l = refl
behind_is (suc k) [] = refl
behind_is (suc k) (n ∷ l) = behind_is k l

-- ---- one turn
first_record : (owner : ℕ) (l : List ℕ) → max 3 (get_or l 2 0) ≤ length l → records_of (owner ∷ l) ≡ (owner, take (get_or l 2 0) l) ∷ records_of (drop (get_or l 2 0) l)
unfolding records_behind
first_record owner l h = rw (le-leb (max 3 (get_or l 2 0)) (length l) h, behind_is (get_or l 2 0) l)

no_record : (owner : ℕ) (l : List ℕ) → length l < max 3 (get_or l 2 0) → records_of (owner ∷ l) ≡ []
unfolding records_behind
no_record owner l h = rw (lt-leb (max 3 (get_or l 2 0)) (length l) h)

no_numbers : (l : List ℕ) → length l ≡ 0 → records_of l ≡ []
unfolding records_behind
no_numbers [] h = refl
no_numbers (n ∷ l) h = absurd (omega arith)

-- what `next` says where no record stands, by what is missing
module _ (w : Walk) (r : Option Record) (e : r ≡ None) where
  nothing : records_of (left w) ≡ [] → GivesRecord w r w
  nothing h = rw e (h, h)

  pub no_owner : length (left w) ≡ 0 → GivesRecord w r w
  no_owner h = nothing (no_numbers (left w) h)

  module _ (owner : ℕ) (l : List ℕ) (i : left w ≡ owner ∷ l) where
    pub no_span : length l ≤ 2 → GivesRecord w r w
    no_span h = nothing (ap records_of i ∙ no_record owner l (omega arith))

    pub no_nodes : length l < get_or l 2 0 → GivesRecord w r w
    no_nodes h = nothing (ap records_of i ∙ no_record owner l (omega arith))

-- and where one stands
module _ (w : Walk) (owner span : ℕ) (l nodes rest : List ℕ) (i : left w ≡ owner ∷ l) (h : 3 ≤ length l) (e : get_or l 2 0 ≡ span) (k : span ≤ length l) (p : nodes ≡ take span l) (q : rest ≡ drop span l) where
  pub walks_on : (left w ≡ owner ∷ (nodes ++ rest)) × (records_of (left w) ≡ (owner, nodes) ∷ records_of rest)
  walks_on = (
    i ∙ rw (p, q, take-append-drop span l),
    ap records_of i ∙ first_record owner l (omega arith) ∙ rw (e, p, q),
  )

-- ---- where records stand
pub records_are : (cs : List (Combined ℕ)) → records_of (stream_of cs) ≡ map shown_item cs
unfolding stream_of records_behind
records_are [] = refl
records_are (c ∷ cs) =
    let s : get_or (flat c.expr ++ stream_of cs) 2 0 ≡ length (flat c.expr) = span_at_law c.expr (stream_of cs) in
    first_record c.owner (flat c.expr ++ stream_of cs) (omega (arith, flat_long c.expr, s, length-append (flat c.expr) (stream_of cs)))
    ∙ rw (s, take_at (flat c.expr) (stream_of cs) (length (flat c.expr)) refl, drop_at (flat c.expr) (stream_of cs) (length (flat c.expr)) refl, records_are cs)

-- a walk through a stream gives its records
pub walk_yields : (w : Walk) (l : List ℕ) → left w ≡ l → YieldsList GivesRecord shown w (records_of l)
walk_yields w l e = rw (← e) (YieldsList-from_shown GivesRecord shown (λ v. records_of (left v)) (λ v u h. ap length h.0) (λ v r u h. h.1) w)

-- ---- a turn of a walk through these records
shown_nil : (cs : List (Combined ℕ)) → map shown_item cs ≡ [] → cs ≡ []
shown_nil [] e = refl
shown_nil (c ∷ cs) e = let z : ◌≡◌ {A = ℕ} 0 1 = cc in absurd (omega arith)

-- nothing is given: none stands there
pub walk_ended : (w v : Walk) (r : Option Record) (cs : List (Combined ℕ)) → r ≡ None → GivesRecord w r v → left w ≡ stream_of cs → cs ≡ []
walk_ended w v r cs e g s = shown_nil cs (sym (records_are cs) ∙ ap records_of (sym s) ∙ (rw e at g).0)

pub record First (cs : List (Combined ℕ)) (r : Record) (rest : List ℕ) : Type 0 where
  pub first : Combined ℕ
  pub later : List (Combined ℕ)
  pub split : cs ≡ first ∷ later
  pub owner : first.owner ≡ r.owner
  pub nodes : flat first.expr ≡ r.nodes.now
  pub there : rest ≡ stream_of later

same_rest : (x l y m : List ℕ) → x ++ l ≡ y ++ m → x ≡ y → l ≡ m
same_rest x l y m e i = sym (drop_at x l (length x) refl) ∙ ap (drop (length x)) e ∙ drop_at y m (length x) (ap length (sym i))

-- a record is given: it is the first of them
pub walk_first : (w v : Walk) (r : Option Record) (x : Record) (cs : List (Combined ℕ)) → r ≡ Some x → GivesRecord w r v → left w ≡ stream_of cs → First cs x (left v)
unfolding stream_of
walk_first w v r x cs e g s = go cs s (rw e at g)
  where
    go : (cs : List (Combined ℕ)) → left w ≡ stream_of cs → GivesRecord w (Some x) v → First cs x (left v)
    go [] s g = let h : ◌≡◌ {A = List (ℕ × List ℕ)} [] (shown x ∷ records_of (left v)) = sym (records_are []) ∙ ap records_of (sym s) ∙ g.1 in absurd (omega (arith, ap length h))
    go (c ∷ cs) s g =
        let h : ◌≡◌ {A = List (ℕ × List ℕ)} (shown_item c ∷ map shown_item cs) (shown x ∷ records_of (left v)) = sym (records_are (c ∷ cs)) ∙ ap records_of (sym s) ∙ g.1 in
        let i : shown_item c ≡ shown x = cc in
        let p : flat c.expr ≡ x.nodes.now = ap (λ (r : ℕ × List ℕ). r.1) i in
        let q : flat c.expr ++ stream_of cs ≡ x.nodes.now ++ left v = cc in
        record {
          first = c;
          later = cs;
          split = refl;
          owner = ap (λ (r : ℕ × List ℕ). r.0) i;
          nodes = p;
          there = sym (same_rest (flat c.expr) (stream_of cs) x.nodes.now (left v) q p);
        }
