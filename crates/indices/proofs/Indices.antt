-- The loops over indices that are to be a part: the first bad one, and the indices without repeats beside each other.
use Prim.Native.Nat.{ℕ, suc, ◌+◌, ◌≤◌, ◌<◌}
use mathlib.Core.Path.{◌≡◌, refl, sym, ap, ◌∙◌, subst}
use mathlib.Core.List.{List, [], ◌∷◌}
use mathlib.Core.Option.{Option as Maybe, none, some}
use native.Mathlib.Omega.{arith}
use lib.ListN.{length, get_or, drop, set, replicate}
use borrow.Author.Tests.{le-leb, lt-leb}
use Rattle.std.specs.Option.{option_eq}
use Rattle.std.specs.Prelude.{Option, Some, None, Result, Ok, Err, Bool, true, false, eqb}
use Rattle.refusal.specs.declared.Reason.TheVariants.{TooManySets, Malformed}
use Rattle.refusal.specs.declared.Refusal.{Refusal}
use Rattle.refusal.specs.MeaningAnswer.{Answer, refused, or_else, done}
use Rattle.refusal.specs.Told.{told_refusal}
use Rattle.complex_entity.specs.declared.PartialComplexEntity.{PartialComplexEntity}
use Rattle.complex_entity.specs.MeaningParts.{Part, narrow, after, dedup, moved, bad_after, unless_bad, new_of}
use Rattle.complex_entity.specs.MirrorParts.{narrowed, Makes}
use Rattle.indices.specs.MirrorIndices.{spotted_of}
use Rattle.complex_entity.proofs.Names.{rest_cons, rest_none}
use Rattle.complex_entity.proofs.Filling.{Filling, fill_start, fill_next}
use Rattle.complex_entity.proofs.Answers.{filled_made, filled_over, makes_none}

-- a place that is counted from i on
abbrev onward : ℕ → Maybe ℕ → Maybe ℕ
onward i none = none
onward i (some j) = some (i + j)

onward_moved : (i : ℕ) (o : Maybe ℕ) → onward i (moved o) ≡ onward (i + 1) o
onward_moved i none = refl
onward_moved i (some j) = let e : i + suc j ≡ i + 1 + j = omega arith in ap (λ (k : ℕ). some k) e

-- the indices before i are good, x is the last of them, and the first bad one of those from i on is the answer
pub record Spotting (l : List ℕ) (x i : ℕ) (r : Maybe ℕ) : Type 0 where
  pub rest : onward i (bad_after x (drop i l)) ≡ r

pub spot_start : (l : List ℕ) → Spotting l 0 0 (bad_after 0 l)
spot_start l = record { rest = go (bad_after 0 l) }
  where
    go : (o : Maybe ℕ) → onward 0 o ≡ o
    go none = refl
    go (some j) = let e : 0 + j ≡ j = omega arith in ap (λ (k : ℕ). some k) e

module _ (l : List ℕ) (x i : ℕ) (r : Maybe ℕ) (f : Spotting l x i r) where
  bad_here : some (i + 0) ≡ r → Some i ≡ spotted_of r
  bad_here e = let z : i + 0 ≡ i = omega arith in ap (λ (k : ℕ). Some k) (sym z) ∙ ap spotted_of e

  pub spot_falling : i < length l → get_or l i 0 < x → Some i ≡ spotted_of r
  spot_falling h k = bad_here (sym (rw (rest_cons l i h, lt-leb x (get_or l i 0) k) refl) ∙ f.rest)

  pub spot_great : i < length l → x ≤ get_or l i 0 → 255 < get_or l i 0 → Some i ≡ spotted_of r
  spot_great h k g = bad_here (sym (rw (rest_cons l i h, le-leb x (get_or l i 0) k, lt-leb (get_or l i 0) 255 g) refl) ∙ f.rest)

  pub spot_next : i < length l → x ≤ get_or l i 0 → get_or l i 0 ≤ 255 → Spotting l (get_or l i 0) (i + 1) r
  spot_next h k g =
      record {
        rest =
            sym (onward_moved i (bad_after (get_or l i 0) (drop (i + 1) l)))
            ∙ sym (rw (rest_cons l i h, le-leb x (get_or l i 0) k, le-leb (get_or l i 0) 255 g) refl)
            ∙ f.rest;
      }

  pub spot_done : length l ≤ i → None ≡ spotted_of r
  spot_done h =
      let e : none ≡ r = sym (rw (rest_none l i h) refl) ∙ f.rest in
      ap spotted_of e

pub ruleset spotting = (spot_start, spot_falling, spot_great, spot_next, spot_done)

-- what is left of a list without repeats, after the last index that was taken
abbrev pub after_last : Option ℕ → List ℕ → List ℕ
after_last None l = dedup l
after_last (Some x) l = after x l

-- k indices stand in out, the last of them is known, and those from i on are still to come
pub record Thinning (l : List ℕ) (out : List ℕ) (last : Option ℕ) (k i : ℕ) (r : List ℕ) : Type 0 where
  pub fill : Filling 12 0 k out (after_last last (drop i l)) r

pub thin_start : (l : List ℕ) → Thinning l (replicate 12 0) None 0 0 (dedup l)
thin_start l = record { fill = fill_start 12 0 (dedup l) }

-- a repeat is passed over, and another index is next
repeated : (last : Option ℕ) (x : ℕ) (l : List ℕ) → option_eq eqb last (Some x) ≡ true → after_last last (x ∷ l) ≡ after_last last l
repeated None x l e = cc
repeated (Some y) x l e = rw e

other : (last : Option ℕ) (x : ℕ) (l : List ℕ) → option_eq eqb last (Some x) ≡ false → after_last last (x ∷ l) ≡ x ∷ after x l
other None x l e = refl
other (Some y) x l e = rw e

module _ (l out : List ℕ) (last : Option ℕ) (k i : ℕ) (r : List ℕ) (f : Thinning l out last k i r) where
  module _ (h : i < length l) (b : Bool) (e : b ≡ option_eq eqb last (Some (get_or l i 0))) where
    pub thin_repeat : b ≡ true → Thinning l out last k (i + 1) r
    thin_repeat d =
        let w : after_last last (drop i l) ≡ after_last last (drop (i + 1) l) = ap (after_last last) (rest_cons l i h) ∙ repeated last (get_or l i 0) (drop (i + 1) l) (sym e ∙ d) in
        record { fill = subst (λ (x : List ℕ). Filling 12 0 k out x r) w f.fill }

    another : b ≡ false → after_last last (drop i l) ≡ get_or l i 0 ∷ after (get_or l i 0) (drop (i + 1) l)
    another d = ap (after_last last) (rest_cons l i h) ∙ other last (get_or l i 0) (drop (i + 1) l) (sym e ∙ d)

    pub thin_next : b ≡ false → k < 12 → Thinning l (set out k (get_or l i 0)) (Some (get_or l i 0)) (k + 1) (i + 1) r
    thin_next d g = record { fill = fill_next 12 0 k out _ _ r (get_or l i 0) f.fill g (another d) }

    pub thin_over : b ≡ false → 12 ≤ k → (why : Refusal) → why ≡ record { reason = TooManySets; place = 0 } → Makes (narrowed r) (Err why)
    thin_over d g why m = filled_over k out _ r f.fill g (rw (another d) (omega arith)) why m

  pub thin_done : length l ≤ i → Makes (narrowed r) (Ok (record { n = k; names = out }))
  thin_done h = filled_made k out _ r f.fill (go last)
    where
      go : (o : Option ℕ) → after_last o (drop i l) ≡ []
      go None = rw (rest_none l i h) refl
      go (Some x) = rw (rest_none l i h) refl

pub ruleset thinning = (thin_start, thin_repeat, thin_next, thin_over, thin_done)

-- the answer for some indices: a bad one is refused, and otherwise the part without repeats is made
module _ (l : List ℕ) (s : Option ℕ) (e : s ≡ spotted_of (bad_after 0 l)) where
  pub new_refused : (i : ℕ) (why : Refusal) → s ≡ Some i → why ≡ record { reason = Malformed; place = i } → Makes (new_of l) (Err why)
  unfolding new_of
  new_refused i why d w = makes_none (new_of l) why (ap told_refusal w ∙ go (bad_after 0 l) (sym e ∙ d))
    where
      go : (b : Maybe ℕ) → spotted_of b ≡ Some i → refused 15 i ≡ unless_bad b (or_else 11 (narrow (dedup l)) (done (dedup l)))
      go none d = cc
      go (some j) d = cc

  pub new_made : (o : Result PartialComplexEntity Refusal) → s ≡ None → Makes (narrowed (dedup l)) o → Makes (new_of l) o
  unfolding new_of
  new_made o d m = subst (λ (a : Answer Part). Makes a o) (go (bad_after 0 l) (sym e ∙ d)) m
    where
      go : (b : Maybe ℕ) → spotted_of b ≡ None → narrowed (dedup l) ≡ unless_bad b (or_else 11 (narrow (dedup l)) (done (dedup l)))
      go none d = refl
      go (some j) d = cc

pub ruleset making = (new_refused, new_made)
