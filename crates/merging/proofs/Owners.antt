-- The owners in order of first entry, as they are asked for.
use mathlib.Core.Path.{◌≡◌, refl, sym, ap, ◌∙◌}
use mathlib.Core.Logic.{inl, inr}
use mathlib.Core.List.{List, [], ◌∷◌, ◌++◌, append_assoc}
use mathlib.Core.Bool.{Bool, true, false}
use Prim.Native.Nat.{ℕ, suc, ◌+◌, ◌-◌, ◌≤◌}
use native.Mathlib.Omega.{arith}
use lib.Dec.{eqb}
use lib.ListN.{length, take, drop, get_elem?, length-append, length-drop}
use lib.Seq.{take_all}
use borrow.Author.Tests.{eq-eqb, eqb-true}
use Rattle.std.specs.Prelude.{Option, None, Some}
use Rattle.expression.specs.MirrorNodes.{flat}
use Rattle.merging.specs.MeaningMerging.{Combined, find}
use Rattle.merging.specs.MeaningFirsts.{among, firsts}
use Rattle.merging.specs.Claims.{Equivalence}
use Rattle.merging.specs.MirrorStream.{stream_of, Records, is_found, owner_of, RecordsFrom, owners_from, EntryAt, EntryIs}
use Rattle.merging.specs.MirrorWalk.{left, GivesRecord}
use Rattle.merging.specs.declared.Walk.{Walk}
use Rattle.merging.specs.declared.Record.{Record}
use Rattle.merging.specs.declared.Entry.{Entry}
use Rattle.merging.proofs.Factors.{both}
use Rattle.merging.proofs.Ordering.{owners, firsts_again}
use Rattle.merging.proofs.Streams.{place_start, place_front, place_rest, place_within, place_all, place_passed, place_coming, place_next}
use Rattle.merging.proofs.Walking.{walk_ended, First, walk_first}

found_among : (p : ℕ) (cs : List (Combined ℕ)) → is_found (find eqb p cs) ≡ among eqb p (owners cs)
unfolding find is_found among
found_among p [] = refl
found_among p (c ∷ cs) = elim (both (eqb c.owner p)) [ inl a ↦ rw a | inr a ↦ rw a (found_among p cs) ]

eqb_equivalence : Equivalence eqb
eqb_equivalence = record {
  reflexive = λ p. eq-eqb p p refl;
  symmetric = λ p q h. eq-eqb q p (sym (eqb-true p q h));
  transitive = λ p q r h k. eq-eqb p r (eqb-true p q h ∙ eqb-true q r k);
}

owners_append : (cs ds : List (Combined ℕ)) → owners (cs ++ ds) ≡ owners cs ++ owners ds
owners_append [] ds = refl
owners_append (c ∷ cs) ds = rw (owners_append cs ds)

firsts_new : (s : List ℕ) (p : ℕ) (ps : List ℕ) → among eqb p s ≡ false → firsts eqb s (p ∷ ps) ≡ p ∷ firsts eqb (s ++ (p ∷ [])) ps
unfolding firsts
firsts_new s p ps h = rw h

-- ---- the next owner: those before a place are seen, and the owners that come are the same as from the first place on
pub record Entering (l : List ℕ) (from at : ℕ) (rest : List ℕ) : Type 0 where
  pub here : RecordsFrom l at
  pub stands : rest ≡ stream_of here.coming
  pub onward : from ≤ at
  pub same : (cs ds : List (Combined ℕ)) → l ≡ stream_of (cs ++ ds) → from ≡ length (stream_of cs) → owners_from cs ds ≡ owners_from here.passed here.coming

pub enter_start : (l : List ℕ) (from : ℕ) (rest : List ℕ) → RecordsFrom l from → rest ≡ take (length l - from) (drop from l) → Entering l from from rest
enter_start l from rest p e = record {
  here = p;
  stands = e ∙ take_all (length l - from) (drop from l) (omega (arith, length-drop from l)) ∙ place_rest p;
  onward = omega arith;
  same = λ cs ds i k. rw (place_passed p cs ds i k, place_coming p cs ds i k) refl;
}

pub enter_within : (l : List ℕ) (from : ℕ) → RecordsFrom l from → from ≤ length l
enter_within l from p = omega (arith, place_within p)

module _ (l : List ℕ) (from at : ℕ) (w v : Walk) (r : Option Record) (g : Entering l from at (left w)) (s : GivesRecord w r v) where
  pub enter_none : r ≡ None → (cs ds : List (Combined ℕ)) → l ≡ stream_of (cs ++ ds) → from ≡ length (stream_of cs) → EntryIs cs ds None
  unfolding EntryIs firsts
  enter_none h cs ds e k = g.same cs ds e k ∙ ap (λ (es : List (Combined ℕ)). owners_from g.here.passed es) (walk_ended w v r g.here.coming h s g.stands)

  module _ (x : Record) (h : r ≡ Some x) where
    one : First g.here.coming x (left v)
    one = walk_first w v r x g.here.coming h s g.stands

    pub enter_fits : at + 1 + length x.nodes.now ≤ length l
    unfolding stream_of
    enter_fits = let n = one in omega (arith, place_within g.here, ap (λ (cs : List (Combined ℕ)). length (stream_of cs)) n.split, length-append (flat n.first.expr) (stream_of n.later), ap length n.nodes)

    pub enter_front : Records (take at l)
    enter_front = record { list = g.here.passed; is = place_front g.here }

    module _ (next : ℕ) (e : next ≡ at + 1 + length x.nodes.now) (b : Bool) (t : (cs : List (Combined ℕ)) → take at l ≡ stream_of cs → b ≡ is_found (find eqb x.owner cs)) where
      further : RecordsFrom l next
      further = let n = one in place_next g.here n.first n.later n.split next (omega (arith, e, ap length n.nodes))

      seen : among eqb one.first.owner (owners g.here.passed) ≡ b
      seen = sym (t g.here.passed (place_front g.here) ∙ found_among x.owner g.here.passed ∙ ap (λ (p : ℕ). among eqb p (owners g.here.passed)) (sym one.owner))

      -- the owners from the record on, by its own
      from_here : (cs ds : List (Combined ℕ)) → l ≡ stream_of (cs ++ ds) → from ≡ length (stream_of cs) → owners_from cs ds ≡ owners_from g.here.passed (one.first ∷ one.later)
      from_here cs ds i k = g.same cs ds i k ∙ ap (λ (es : List (Combined ℕ)). owners_from g.here.passed es) one.split

      behind : firsts eqb (owners g.here.passed ++ (one.first.owner ∷ [])) (owners one.later) ≡ owners_from (g.here.passed ++ (one.first ∷ [])) one.later
      behind = ap (λ (ps : List ℕ). firsts eqb ps (owners one.later)) (sym (owners_append g.here.passed (one.first ∷ [])))

      pub enter_again : b ≡ true → Entering l from next (left v)
      unfolding place_next further one
      enter_again f = record {
        here = further;
        stands = one.there;
        onward = omega (arith, g.onward);
        same = λ cs ds i k. from_here cs ds i k ∙ firsts_again eqb_equivalence (owners g.here.passed) one.first.owner (owners one.later) (seen ∙ f) ∙ behind;
      }

      pub enter_here : b ≡ false → (cs ds : List (Combined ℕ)) → l ≡ stream_of (cs ++ ds) → from ≡ length (stream_of cs) → EntryIs cs ds (Some (record { owner = x.owner; next = next }))
      unfolding EntryIs place_next further
      enter_here f cs ds i k = record {
        passed = g.here.passed ++ (one.first ∷ []);
        coming = one.later;
        same = sym (place_all g.here (cs ++ ds) i) ∙ ap (λ (es : List (Combined ℕ)). g.here.passed ++ es) one.split ∙ sym (append_assoc g.here.passed (one.first ∷ []) one.later);
        place = further.place;
        further = omega (arith, g.onward);
        within = omega (arith, enter_fits, ap length i);
        owners =
            from_here cs ds i k
            ∙ firsts_new (owners g.here.passed) one.first.owner (owners one.later) (seen ∙ f)
            ∙ rw one.owner (ap (λ (ps : List ℕ). x.owner ∷ ps) (ap (λ (p : ℕ). firsts eqb (owners g.here.passed ++ (p ∷ [])) (owners one.later)) (sym one.owner) ∙ behind));
      }

pub ruleset entering = (enter_start, enter_within, enter_none, enter_fits, enter_front, enter_again, enter_here)

-- ---- the number-th owner: the first k are passed, and those that come are the others
pub record Counting (l : List ℕ) (k at : ℕ) : Type 0 where
  pub from : RecordsFrom l at
  pub rest : (i : ℕ) → get_elem? (owners_from from.passed from.coming) i ≡ get_elem? (firsts eqb [] (owners (from.passed ++ from.coming))) (k + i)

pub count_start : (l : List ℕ) → Records l → Counting l 0 0
unfolding place_start
count_start l w = record { from = place_start l w.list w.is; rest = λ i. ap (get_elem? (firsts eqb [] (owners w.list))) (omega arith) }

module _ (l : List ℕ) (k at : ℕ) (g : Counting l k at) (r : Option Entry) (s : (cs ds : List (Combined ℕ)) → l ≡ stream_of (cs ++ ds) → at ≡ length (stream_of cs) → EntryIs cs ds r) where
  entered : EntryIs g.from.passed g.from.coming r
  entered = s g.from.passed g.from.coming g.from.is g.from.place

  counted : (ps : List ℕ) → owners_from g.from.passed g.from.coming ≡ ps → (i n : ℕ) → k + i ≡ n → (cs : List (Combined ℕ)) → l ≡ stream_of cs → get_elem? ps i ≡ get_elem? (firsts eqb [] (owners cs)) n
  counted ps e i n h cs q =
      ap (λ (qs : List ℕ). get_elem? qs i) (sym e)
      ∙ g.rest i
      ∙ ap (get_elem? (firsts eqb [] (owners (g.from.passed ++ g.from.coming)))) h
      ∙ ap (λ (ds : List (Combined ℕ)). get_elem? (firsts eqb [] (owners ds)) n) (place_all g.from cs q)

  pub count_none : r ≡ None → (number : ℕ) → k ≤ number → (o : Option ℕ) → o ≡ None → (cs : List (Combined ℕ)) → l ≡ stream_of cs → o ≡ owner_of (get_elem? (firsts eqb [] (owners cs)) number)
  unfolding EntryIs
  count_none i number h o e cs q = e ∙ ap owner_of (counted [] (rw i at entered) (number - k) number (omega arith) cs q)

  module _ (x : Entry) (i : r ≡ Some x) where
    entry_at : EntryAt g.from.passed g.from.coming x.owner x.next
    unfolding EntryIs
    entry_at = rw i at entered

    pub count_here : (number : ℕ) → number ≤ k → k ≤ number → (cs : List (Combined ℕ)) → l ≡ stream_of cs → Some x.owner ≡ owner_of (get_elem? (firsts eqb [] (owners cs)) number)
    count_here number h m cs q = let n = entry_at in ap owner_of (counted (x.owner ∷ owners_from n.passed n.coming) n.owners 0 number (omega arith) cs q)

    pub count_new : Counting l (k + 1) x.next
    count_new =
        let n = entry_at in
        record {
          from = record { passed = n.passed; coming = n.coming; is = g.from.is ∙ ap stream_of n.same; place = n.place };
          rest = λ i. counted (x.owner ∷ owners_from n.passed n.coming) n.owners (suc i) (k + 1 + i) (omega arith) (n.passed ++ n.coming) (g.from.is ∙ ap stream_of n.same);
        }
