-- What stands in the workspace: settling it, what gathering leaves there, and the expression and the list of an owner.
use mathlib.Core.Path.{◌≡◌, refl, sym, ap, ◌∙◌, subst}
use mathlib.Core.List.{List, [], ◌++◌, map, append_assoc, append-nil}
use mathlib.Core.Option.{Option, none, some}
use Prim.Native.Nat.{ℕ, ◌+◌, ◌-◌, ◌≤◌, ◌<◌}
use native.Mathlib.Omega.{arith}
use borrow.Author.Tests.{le-leb, lt-leb, leb-true}
use borrow.Rule.Slice.PartMut.{put_mid, same_len_mid}
use lib.Dec.{eqb, leb}
use lib.ListN.{length, take, drop, replicate, length-append, length-take, length-drop, take-append-drop, drop_of_length-le}
use lib.Seq.{take_at, drop_at, take-add, take-append-le, drop-append-le}
use Rattle.refusal.specs.MeaningAnswer.{Answer, done, refused, mapped}
use Rattle.std.specs.Prelude.{Some, None, Result, Ok, Err, ok_or}
use Rattle.std.specs.Prelude as prelude
use Rattle.refusal.specs.Told.{number_of, told}
use Rattle.refusal.specs.declared.Reason.{Reason}
use Rattle.refusal.specs.declared.Reason.TheVariants.{NoSupertype}
use Rattle.refusal.specs.declared.Refusal.{Refusal}
use Rattle.grammar.specs.MeaningReading.{Reading}
use Rattle.sheet.specs.Claims.{AllBytes}
use Rattle.grammar.proofs.Choosing.{clash}
use Rattle.complex_entity.specs.MeaningParts.{Part}
use Rattle.expression.specs.MeaningExpression.{Expr, eval}
use Rattle.expression.specs.MirrorNodes.{flat, Node}
use Rattle.terms.specs.MirrorValues.{Valuing}
use Rattle.instantiables.specs.Told.{told_listed}
use Rattle.instantiables.specs.declared.Instantiables.{Instantiables}
use Rattle.evaluation.proofs.Walking.{valued_stands}
use Rattle.declarations.specs.MeaningNamespace.{schemas_in, answered}
use Rattle.namespace.specs.MeaningOrder.{Answers}
use Rattle.namespace.proofs.Clearing.{refused_first, cleared_short, cleared_accepted, cleared_long, cleared_own}
use Rattle.merging.specs.MeaningItems.{combined_of}
use Rattle.merging.specs.MirrorStream.{stream_of, paired, pairs_of, Records, Pairs, Holds}
use Rattle.merging.specs.declared.Combination.{Combination}
use Rattle.merging.proofs.Streams.{stream_both}
use Rattle.combining.proofs.Combining.{combined_node}
use Rattle.gathering.specs.MirrorGathering.{Bounded, streams}
use Rattle.gathering.specs.MirrorWalk.{told_gathered, Streamed}
use Rattle.gathering.specs.declared.Streams.{Streams}
use Rattle.gathering.proofs.Bounding.{bounded}
use Rattle.gathering.proofs.Streaming.{streams_low}
use Rattle.supertypes.specs.MeaningWorkspace.{enough, left}
use Rattle.supertypes.specs.MirrorStanding.{Both, Standing, Stood, Gathers, list_by, list_at, StandsIf, ListedAs}

-- ---- settling

pub settle_over : (s w : List ℕ) → 65535 < length s → w ≡ left s w
unfolding left
settle_over s w h = rw (lt-leb (length s) 65535 h) refl

pub settle_short : (s w : List ℕ) → length s ≤ 65535 → length w < 32768 → w ≡ left s w
unfolding left enough
settle_short s w h k = rw (le-leb (length s) 65535 h, lt-leb 32768 (length w) k) refl

left_clear : (s w : List ℕ) → length s ≤ 65535 → 32768 ≤ length w → left s w ≡ replicate (length w) 0
unfolding left enough
left_clear s w h k = rw (le-leb (length s) 65535 h, le-leb 32768 (length w) k) refl

pub settle_clear : (s w w' : List ℕ) → length s ≤ 65535 → 32768 ≤ length w → w' ≡ replicate (length w) 0 → w' ≡ left s w
settle_clear s w w' h k e = e ∙ sym (left_clear s w h k)

pub ruleset settling = (settle_over, settle_short, settle_clear)

-- what has the same length is settled alike
pub left_same : (s w w' : List ℕ) → length s ≤ 65535 → 32768 ≤ length w → length w' ≡ length w → left s w' ≡ left s w
left_same s w w' h k e = left_clear s w' h (omega arith) ∙ ap (λ (n : ℕ). replicate n 0) e ∙ sym (left_clear s w h k)

-- ---- what gathering leaves

mapped_done : {A B : Type 0} (f : A → B) (o : Answer A) (b : B) → mapped f o ≡ done b → (a : A) × (o ≡ done a) × (f a ≡ b)
mapped_done f (done a) b e = (a, refl, cc)
mapped_done f (refused n p) b e = clash (cc)

as_asked : {T : Type 0} (o : Answer T) → o ≡ mapped (λ t. t) o
as_asked (done t) = refl
as_asked (refused n p) = refl

-- records in front, then pairs, then whatever
module _ (b : Both) (x : Streams) (w rest : List ℕ) (i : x.rules ≡ length (stream_of b.0)) (j : x.used ≡ length (stream_of b.0) + length (pairs_of b.1)) (e : w ≡ stream_of b.0 ++ (pairs_of b.1 ++ rest)) where
  rules_stand : take x.rules w ≡ stream_of b.0
  rules_stand = rw e (take_at (stream_of b.0) (pairs_of b.1 ++ rest) x.rules (sym i))

  pairs_stand : take (x.used - x.rules) (drop x.rules w) ≡ pairs_of b.1
  pairs_stand = rw (e, drop_at (stream_of b.0) (pairs_of b.1 ++ rest) x.rules (sym i)) (take_at (pairs_of b.1) rest (x.used - x.rules) (omega arith))

module _ {T : Type 0} (rd : Reading) (s work : List ℕ) (asked clear : Result T Refusal) (c : Answers rd s (leb 32768 (length work)) (told asked) done (told clear)) where
  -- what was asked, with what was gathered
  abbrev own : T → Answer (T × Both)
  own t = mapped (λ b. (t, b)) (streams rd (schemas_in s))

  pub gathers_refused : (why : Refusal) → clear ≡ Err why → (r : Result (T × Streams) Refusal) → r ≡ Err why → Gathers rd s work (told asked) r work
  unfolding enough
  gathers_refused why e r q =
      rw q record {
        both = refused (number_of why.reason) why.place;
        is = refused_first rd s (leb 32768 (length work)) (told asked) (told clear) c (told asked) (λ t. t) (as_asked (told asked)) own (number_of why.reason) why.place (ap told e);
        says = refl;
        stands = λ z k. clash (cc);
        kept = refl;
      }

  module _ (t : T) (e : clear ≡ Ok t) where
    pub gathers_short : length s ≤ 65535
    gathers_short = cleared_short rd s (leb 32768 (length work)) (told asked) (told clear) c t (ap told e)

    roomy : 32768 ≤ length work
    roomy = leb-true 32768 (length work) (cleared_long rd s (leb 32768 (length work)) (told asked) (told clear) c t (ap told e))

    pub gathers_room : 2048 ≤ length work
    gathers_room = omega (arith, roomy)

    pub gathers_count : 2048 ≡ length (take 2048 work)
    gathers_count = simp length-take (omega (arith, roomy))

    pub gathers_bounded : AllBytes s → Bounded (schemas_in s)
    gathers_bounded a = bounded rd s a (cleared_accepted rd s (leb 32768 (length work)) (told asked) (told clear) c t (ap told e))

    gathers_own : Answers rd s (leb 32768 (length work)) (told asked) own (own t)
    gathers_own = cleared_own rd s (leb 32768 (length work)) (told asked) (told clear) c t (ap told e) (told asked) (λ t. t) (as_asked (told asked)) own (own t) refl

    module _ (a : AllBytes s) (g : Result Streams Refusal) (w : List ℕ) (n : length w ≡ 2048) (f : Streamed (streams rd (schemas_in s)) (told_gathered g) w) where
      gather_stands : (x : Streams) → g ≡ Ok x → (b : Both) × (streams rd (schemas_in s) ≡ done b) × Standing b x (w ++ drop 2048 work) × (length s ≤ 65535)
      gather_stands x q =
          let m = mapped_done (λ (b : Both). (length (stream_of b.0), length (stream_of b.0) + length (pairs_of b.1))) (streams rd (schemas_in s)) (x.rules, x.used) (sym f.says ∙ ap told_gathered q) in
          let b = m.0 in
          let i : x.rules ≡ length (stream_of b.0) = sym (ap (λ (z : ℕ × ℕ). z.0) m.2) in
          let j : x.used ≡ length (stream_of b.0) + length (pairs_of b.1) = sym (ap (λ (z : ℕ × ℕ). z.1) m.2) in
          let h = f.holds b m.1 in
          let k : x.used ≤ 2048 = omega (arith, simp (length-take, length-append) at (ap length h)) in
          let v : w ++ drop 2048 work ≡ stream_of b.0 ++ (pairs_of b.1 ++ (drop x.used w ++ drop 2048 work)) =
          ap (λ (y : List ℕ). y ++ drop 2048 work) (sym (take-append-drop x.used w) ∙ ap (λ (y : List ℕ). y ++ drop x.used w) (ap (λ (y : ℕ). take y w) j ∙ h)) ∙ simp append_assoc in (
            b,
            m.1,
            record {
              rules_in = rules_stand b x (w ++ drop 2048 work) (drop x.used w ++ drop 2048 work) i j v;
              pairs_in = pairs_stand b x (w ++ drop 2048 work) (drop x.used w ++ drop 2048 work) i j v;
              rising = omega arith;
              within = k;
              roomy = simp (length-append, length-drop) (omega (arith, roomy));
              low = streams_low rd (schemas_in s) (gathers_bounded a) b m.1;
            },
            gathers_short,
          )

      -- both are told with what was asked
      with_asked : (m : Answer Both) → told_gathered g ≡ mapped (λ (b : Both). (length (stream_of b.0), length (stream_of b.0) + length (pairs_of b.1))) m
          → mapped {B = T × ℕ × ℕ} (λ (y : ℕ × ℕ). (t, y.0, y.1)) (told_gathered g) ≡ mapped {B = T × ℕ × ℕ} (λ (z : T × Both). (z.0, length (stream_of z.1.0), length (stream_of z.1.0) + length (pairs_of z.1.1))) (mapped {B = T × Both} (λ b. (t, b)) m)
      with_asked (done b) h = rw h refl
      with_asked (refused n p) h = rw h refl

      settled : left s (w ++ drop 2048 work) ≡ left s work
      settled = left_same s work (w ++ drop 2048 work) gathers_short roomy (simp (length-append, length-drop) (omega (arith, roomy)))

      pub gathers_lost : (why : Refusal) → g ≡ Err why → (r : Result (T × Streams) Refusal) → r ≡ Err why → Gathers rd s work (told asked) r (w ++ drop 2048 work)
      unfolding enough
      gathers_lost why q r k =
          rw k record { both = own t; is = gathers_own; says = rw q at (with_asked (streams rd (schemas_in s)) f.says); stands = λ z y. clash (cc); kept = settled }

      pub gathers_done : (x : Streams) → g ≡ Ok x → Gathers rd s work (told asked) (Ok (t, x)) (w ++ drop 2048 work)
      unfolding enough
      gathers_done x q =
          record {
            both = own t;
            is = gathers_own;
            says = rw q at (with_asked (streams rd (schemas_in s)) f.says);
            stands = λ z y.
                let i : x ≡ z.1 = cc in
                let j : t ≡ z.0 = cc in
                let h = gather_stands x q in
                subst (λ (x : Streams). (b : Both) × (own t ≡ done (z.0, b)) × Standing b x (w ++ drop 2048 work) × (length s ≤ 65535)) i (h.0, ap (mapped (λ b. (t, b))) h.1 ∙ ap (λ (t : T). done (t, h.0)) j, h.2, h.3);
            kept = settled;
          }

-- ---- the records that stand there

module _ {b : Both} {x : Streams} {w : List ℕ} (S : Standing b x w) where
  pub standing_all : take x.used w ≡ stream_of (b.0 ++ map paired b.1)
  standing_all =
      let n : x.used ≡ x.rules + (x.used - x.rules) = omega arith in
      ap (λ (k : ℕ). take k w) n ∙ take-add x.rules (x.used - x.rules) w
      ∙ ap (λ (l : List ℕ). l ++ take (x.used - x.rules) (drop x.rules w)) S.rules_in ∙ ap (λ (l : List ℕ). stream_of b.0 ++ l) S.pairs_in ∙ sym (stream_both b.0 b.1)

module _ (x : Streams) (w : List ℕ) (S : Stood x w) where
  pub stood_rules : x.rules ≡ length (take x.rules w)
  stood_rules = simp length-take (omega (arith, S.stands.rising, S.stands.within, S.stands.roomy))

  pub stood_used : x.used ≡ length (take x.used w)
  stood_used = simp length-take (omega (arith, S.stands.within, S.stands.roomy))

  pub stood_order : x.rules ≤ x.used
  stood_order = S.stands.rising

  pub stood_inside : x.used ≤ length w
  stood_inside = omega (arith, S.stands.within, S.stands.roomy)

  pub stood_records : Records (take x.rules w)
  stood_records = record { list = S.both.0; is = S.stands.rules_in }

  pub stood_pairs : Pairs (take (x.used - x.rules) (drop x.rules w))
  stood_pairs = record { list = S.both.1; is = S.stands.pairs_in }

  pub stood_all : Records (take x.used w)
  stood_all = record { list = S.both.0 ++ map paired S.both.1; is = standing_all S.stands }

  pub stood_fits : 3 + length (take x.rules w) + length (take (x.used - x.rules) (drop x.rules w)) ≤ 2051
  stood_fits = simp (length-take, length-drop) (omega (arith, S.stands.rising, S.stands.within, S.stands.roomy))

pub ruleset stood = (stood_rules, stood_used, stood_order, stood_inside, stood_records, stood_pairs, stood_all)

-- rows written behind the records leave them
pub standing_stays : (x : Streams) (w rows : List ℕ) → length rows ≡ length (take (length w - 2048) (drop 2048 w)) → (b : Both) → Standing b x w → Standing b x (put_mid 2048 (length w - 2048) w rows)
standing_stays x w rows n b S =
    let front = take 2048 w in
    let m : length front ≡ 2048 = simp length-take (omega (arith, S.roomy)) in
    let i : x.rules ≤ length front = omega (arith, S.rising, S.within) in
    let j : x.used - x.rules ≤ length (drop x.rules front) = simp length-drop (omega (arith, S.within)) in
    let same : (rest : List ℕ) → (take x.rules (front ++ rest) ≡ take x.rules front) × (take (x.used - x.rules) (drop x.rules (front ++ rest)) ≡ take (x.used - x.rules) (drop x.rules front)) =
    λ rest. (take-append-le x.rules front rest i, rw (drop-append-le x.rules front rest i) (take-append-le (x.used - x.rules) (drop x.rules front) rest j)) in
    let was = same (drop 2048 w) in
    let now = same (rows ++ drop (length w - 2048) (drop 2048 w)) in
    let whole : w ≡ front ++ drop 2048 w = sym (take-append-drop 2048 w) in
    record {
      rules_in = now.0 ∙ sym was.0 ∙ ap (take x.rules) (sym whole) ∙ S.rules_in;
      pairs_in = now.1 ∙ sym was.1 ∙ ap (λ (l : List ℕ). take (x.used - x.rules) (drop x.rules l)) (sym whole) ∙ S.pairs_in;
      rising = S.rising;
      within = S.within;
      roomy = rw (same_len_mid 2048 (length w - 2048) w rows n) S.roomy;
      low = S.low;
    }

-- ---- the expression of an owner, and its list

-- what is taken out of an answer that is there, or not
pub taken : {T E : Type 0} (o : prelude.Option T) (e : E) (x : T) → ok_or o e ≡ Ok x → o ≡ Some x
taken None e x q = clash (cc)
taken (Some y) e x q = cc

pub not_taken : {T E : Type 0} (o : prelude.Option T) (e : E) (w : E) → ok_or o e ≡ Err w → o ≡ None
not_taken None e w q = refl
not_taken (Some y) e w q = clash (cc)

none_held : (o : Option (Expr ℕ)) (l : List ℕ) → Holds o l None → o ≡ none
unfolding Holds
none_held none l h = refl
none_held (some d) l h = absurd h

held : (o : Option (Expr ℕ)) (l : List ℕ) (k : Combination) → Holds o l (Some k) → (e : Expr ℕ) × (o ≡ some e) × (k.start ≤ k.stop) × (k.stop ≤ length l) × (take (k.stop - k.start) (drop k.start l) ≡ flat e)
unfolding Holds
held none l k h = absurd h
held (some d) l k h = (d, refl, h.0, h.1, h.2)

pub valued_is : (v : Result Instantiables Refusal) (rows : List ℕ) (e : Expr ℕ) → Valuing (eval e) rows (told_listed v) → 1664 ≤ length rows → (list_at v rows ≡ eval e) × StandsIf v rows
valued_is (Ok k) rows e f h = let s = valued_stands e rows k.count f h in (sym s.0, s.1)
valued_is (Err why) rows e f h = (by (eval e) f.says, tt)
  where
    by : (o : Answer (List Part)) → refused (number_of why.reason) why.place ≡ mapped length o → refused (number_of why.reason) why.place ≡ o
    by (done L) q = clash (cc)
    by (refused n p) q = cc

module _ (x : Streams) (w nodes : List ℕ) (owner : ℕ) (r : prelude.Option Combination) (H : (b : Both) → Standing b x w → Holds (combined_of eqb owner b.0 b.1) nodes r) where
  pub list_none : (t : Result Combination Reason) → t ≡ ok_or r NoSupertype → (e : Reason) → t ≡ Err e → (v : Result Instantiables Refusal) → v ≡ Err (record { reason = NoSupertype; place = 0 }) → (b : Both) → Standing b x w → ListedAs (list_by owner b) v w
  unfolding list_by answered
  list_none t i d j v e b S = rw e record { is = rw (none_held (combined_of eqb owner b.0 b.1) nodes (rw (not_taken r NoSupertype d (sym i ∙ j)) at (H b S))) refl; stands = tt }

  module _ (S : Stood x w) (t : Result Combination Reason) (i : t ≡ ok_or r NoSupertype) (k : Combination) (j : t ≡ Ok k) where
    f : r ≡ Some k
    f = taken r NoSupertype k (sym i ∙ j)

    held_in : (b : Both) → Standing b x w → (e : Expr ℕ) × (combined_of eqb owner b.0 b.1 ≡ some e) × (k.start ≤ k.stop) × (k.stop ≤ length nodes) × (take (k.stop - k.start) (drop k.start nodes) ≡ flat e)
    held_in b T = held (combined_of eqb owner b.0 b.1) nodes k (rw f at (H b T))

    pub list_order : k.start ≤ k.stop
    list_order = (held_in S.both S.stands).2

    pub list_inside : k.stop ≤ length nodes
    list_inside = (held_in S.both S.stands).3

    pub list_node : Node (take (k.stop - k.start) (drop k.start nodes)) 12
    list_node =
        let h = held_in S.both S.stands in
        combined_node owner S.both.0 S.both.1 h.0 (take (k.stop - k.start) (drop k.start nodes)) h.1 S.stands.low h.4

    pub list_rows : 9984 ≤ length (take (length w - 2048) (drop 2048 w))
    list_rows = simp (length-take, length-drop) (omega (arith, S.stands.roomy))

    pub list_valued : (v : Result Instantiables Refusal) (rows : List ℕ) → ((e : Expr ℕ) → take (k.stop - k.start) (drop k.start nodes) ≡ flat e → Valuing (eval e) rows (told_listed v))
        → length rows ≡ length (take (length w - 2048) (drop 2048 w)) → (b : Both) → Standing b x w → ListedAs (list_by owner b) v (put_mid 2048 (length w - 2048) w rows)
    unfolding list_by answered
    list_valued v rows go n b T =
        let h = held_in b T in
        let i = valued_is v rows h.0 (go h.0 h.4) (omega (arith, list_rows)) in
        let m : length (take 2048 w) ≡ 2048 = simp length-take (omega (arith, S.stands.roomy)) in
        let z : drop (length w - 2048) (drop 2048 w) ≡ [] = drop_of_length-le (drop 2048 w) {i = length w - 2048} (omega (arith, length-drop 2048 w)) in
        let d : drop 2048 (put_mid 2048 (length w - 2048) w rows) ≡ rows = drop_at (take 2048 w) (rows ++ drop (length w - 2048) (drop 2048 w)) 2048 m ∙ ap (λ (l : List ℕ). rows ++ l) z ∙ append-nil rows in
        record { is = rw (d, h.1) i.0; stands = rw d i.1 }
