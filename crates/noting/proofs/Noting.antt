-- The names that are noted: two numbers for each, behind those that are noted already.
use mathlib.Core.Path.{◌≡◌, refl, ap, ◌∙◌}
use mathlib.Core.Logic.{inl, inr}
use mathlib.Core.List.{List}
use Prim.Native.Nat.{ℕ, ◌+◌, ◌*◌, ◌/◌, ◌≤◌, ◌<◌}
use native.Mathlib.Nat.{eq-or-lt_of_le}
use native.Mathlib.Omega.{arith}
use lib.ListN.{length, set, get_or, length-set}
use lib.Seq.{get_or-set_same, get_or-set_other}
use Rattle.lookup.specs.declared.Span.{Span}
use Rattle.declarations.specs.MeaningNamespace.{schemas_in}
use Rattle.noting.specs.MeaningNames.{names_of}
use Rattle.noting.specs.MirrorNoted.{Spells, span_at, NotedAt, Noted}

-- ---- two numbers

abbrev with_span : List ℕ → ℕ → Span → List ℕ
with_span l at v = set (set l at v.start) (at + 1) v.stop

span_size : (l : List ℕ) (at : ℕ) (v : Span) → length (with_span l at v) ≡ length l
span_size l at v = length-set (set l at v.start) (at + 1) v.stop ∙ length-set l at v.start

span_here : (l : List ℕ) (at : ℕ) (v : Span) → at + 2 ≤ length l → span_at (with_span l at v) at ≡ v
span_here l at v h =
    let a : get_or (with_span l at v) at 0 ≡ v.start = get_or-set_other (set l at v.start) (at + 1) at v.stop 0 (λ e. omega arith) ∙ get_or-set_same l at v.start 0 (omega arith) in
    let b : get_or (with_span l at v) (at + 1) 0 ≡ v.stop = get_or-set_same (set l at v.start) (at + 1) v.stop 0 (omega (arith, length-set l at v.start)) in
    rw (a, b) refl

span_before : (l : List ℕ) (at : ℕ) (v : Span) (k : ℕ) → k + 2 ≤ at → span_at (with_span l at v) k ≡ span_at l k
span_before l at v k h = rw (kept k (omega arith), kept (k + 1) (omega arith)) refl
  where
    kept : (j : ℕ) → j < at → get_or (with_span l at v) j 0 ≡ get_or l j 0
    kept j i = get_or-set_other (set l at v.start) (at + 1) j v.stop 0 (λ e. omega arith) ∙ get_or-set_other l at j v.start 0 (λ e. omega arith)

-- ---- the loop: the names of the first i declarations are noted

pub record Noting (s : List ℕ) (room i : ℕ) (before after : List ℕ) : Type 0 where
  pub whole : room ≡ length before / 4
  pub small : i ≤ room
  pub size : length after ≡ length before
  pub done : (j : ℕ) → j < i → NotedAt s after j

pub noting_start : (s l : List ℕ) → Noting s (length l / 4) 0 l l
noting_start s l = record { whole = refl; small = omega arith; size = refl; done = λ j h. absurd (omega arith) }

module _ (s : List ℕ) (room i : ℕ) (before after : List ℕ) (f : Noting s room i before after) where
  pub noting_end : room ≤ i → Noted s after
  noting_end h j k = f.done j (omega (arith, f.whole, f.size))

  module _ (h : i < room) where
    pub noting_room : 4 * i + 2 ≤ length after
    noting_room = omega (arith, f.whole, f.size)

    module _ (v : Span) (y : List ℕ) (e : y ≡ set (set after (4 * i) v.start) (4 * i + 1) v.stop) where
      pub noting_second : 4 * i + 2 + 2 ≤ length y
      noting_second = omega (arith, f.whole, f.size, ap length e, span_size after (4 * i) v)

      module _ (w : Span) (z : List ℕ) (g : z ≡ set (set y (4 * i + 2) w.start) (4 * i + 2 + 1) w.stop) where
        earlier : (k : ℕ) → k + 2 ≤ 4 * i → span_at z k ≡ span_at after k
        earlier k m = rw (g, e) (span_before (with_span after (4 * i) v) (4 * i + 2) w k (omega arith) ∙ span_before after (4 * i) v k m)

        pub noting_next : Spells s (names_of (schemas_in s) i).schema v → Spells s (names_of (schemas_in s) i).item w → Noting s room (i + 1) before z
        noting_next a b =
            record {
              whole = f.whole;
              small = omega arith;
              size = ap length g ∙ span_size y (4 * i + 2) w ∙ ap length e ∙ span_size after (4 * i) v ∙ f.size;
              done = λ j k. elim (eq-or-lt_of_le {n = j} {m = i} (omega arith)) [ inl q ↦ rw q here | inr l ↦ there j l ];
            }
          where
            here : NotedAt s z i
            here =
                record {
                  schema = rw (g, span_before y (4 * i + 2) w (4 * i) (omega arith), e, span_here after (4 * i) v (noting_room)) a;
                  item = rw (g, span_here y (4 * i + 2) w (noting_second)) b;
                }

            there : (j : ℕ) → j < i → NotedAt s z j
            there j l =
                let n = f.done j l in
                record { schema = rw (earlier (4 * j) (omega arith)) n.schema; item = rw (earlier (4 * j + 2) (omega arith)) n.item }

-- both ends of a name fit
module _ (s bytes : List ℕ) (v : Span) (f : Spells s bytes v) (h : length s ≤ 65535) where
  pub start_fits : v.start ≤ 65535
  start_fits = omega (arith, f.order, f.within)

  pub stop_fits : v.stop ≤ 65535
  stop_fits = omega (arith, f.within)

pub ruleset noting = (noting_start, noting_end, noting_room, noting_second, start_fits, stop_fits)

-- ---- what is noted is read

module _ (s names : List ℕ) (index : ℕ) (f : Noted s names) (h : index < length names / 4) (v : Span) where
  pub noted_schema : v ≡ span_at names (4 * index) → Spells s (names_of (schemas_in s) index).schema v
  noted_schema e = rw e (f index (omega arith)).schema

  pub noted_item : v ≡ span_at names (4 * index + 2) → Spells s (names_of (schemas_in s) index).item v
  noted_item e = rw e (f index (omega arith)).item

pub ruleset reading_notes = (noted_schema, noted_item)
