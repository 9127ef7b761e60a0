-- The result goes to the buffer, where it has room.
use Prim.Native.Nat.{ℕ, ◌*◌, ◌^◌, ◌≤◌, ◌<◌}
use mathlib.Core.Path.{◌≡◌, refl, ◌∙◌}
use mathlib.Core.List.{List, [], ◌∷◌, ◌++◌, append-nil, flat_map}
use mathlib.Core.Bool.{Bool, true, false}
use native.Mathlib.Omega.{arith}
use lib.ListN.{length, take, drop}
use lib.Seq.{paste, take_all}
use lib.Dec.{leb}
use borrow.Author.Tests.{le-leb, lt-leb}
use borrow.Author.Rules.{Fits-under}
use mir.Syntax.{w64}
use mir.Val.{Fits}
use Rattle.refusal.specs.MeaningAnswer.{Answer, done, refused, or_else, mapped, ◌>>=◌}
use Rattle.refusal.specs.Told.{number_of, told_refusal}
use Rattle.refusal.specs.declared.Reason.TheVariants.{BufferTooShort}
use Rattle.refusal.specs.declared.Refusal.{Refusal}
use Rattle.complex_entity.specs.MeaningParts.{Part}
use Rattle.complex_entity.specs.MeaningRows.{row_of, flat}
use Rattle.complex_entity.specs.MirrorParts.{names_of}
use Rattle.complex_entity.specs.declared.PartialComplexEntity.{PartialComplexEntity}
use Rattle.complex_entity.proofs.Names.{names_few}
use Rattle.complex_entity.proofs.Rows.{row_long}
use Rattle.instantiables.specs.declared.Instantiables.{Instantiables}
use Rattle.std.specs.Prelude.{Result, Ok, Err}
use Rattle.instantiables.specs.Told.{told_listed}
use Rattle.operands.specs.MeaningResults.{fitting, written}
use Rattle.operands.specs.MirrorResults.{Within, FrontIf, Valued, fitted, handed, Handed}
use Rattle.operands.specs.Promises.{Answers}

-- ---- a refusal leaves the buffer
pub refused_answers : (o : Answer (List Part)) (out : List ℕ) (w : Refusal) → o ≡ refused (number_of w.reason) w.place → Answers o out (Err w) out
unfolding written
refused_answers o out w e = rw e (record { says = refl; buffer = refl })

-- ---- a list, from the work array
module _ (listed : Result Instantiables Refusal) (work out : List ℕ) where
  pub hand_refused : (why : Refusal) → listed ≡ Err why → Handed (told_listed listed) work out (told_listed listed) out
  unfolding fitted handed
  hand_refused why e = rw e (record { says = refl; buffer = refl })

  module _ (l : Instantiables) (e : listed ≡ Ok l) where
    pub hand_within : Within (told_listed listed) work → 13 * l.count ≤ length work
    hand_within h = rw e at h

    pub hand_fits : Within (told_listed listed) work → length work * 2 < 2 ^ 63 → Fits w64 (13 * l.count)
    hand_fits h k = Fits-under w64 (13 * l.count) (2 ^ 63) (omega (arith, hand_within h)) tt

    pub hand_short : (w : Refusal) → w ≡ record { reason = BufferTooShort; place = 0 } → length out < 13 * l.count → Handed (told_listed listed) work out (told_refusal w) out
    unfolding fitted handed
    hand_short w d h = rw (e, d) (record { says = rw (lt-leb (13 * l.count) (length out) h) refl; buffer = refl })

    pub hand_copied : (out' : List ℕ) → 13 * l.count ≤ length out → out' ≡ take (13 * l.count) work ++ drop (13 * l.count) out
        → Handed (told_listed listed) work out (done l.count) out'
    unfolding fitted handed
    hand_copied out' h w = rw e (record { says = rw (le-leb (13 * l.count) (length out) h) refl; buffer = w })

pub ruleset handing = (hand_refused, hand_within, hand_fits, hand_short, hand_copied)

-- what was valued is answered
answered : (o : Answer (List Part)) (work out out' : List ℕ) (t s : Answer ℕ) → t ≡ mapped length o → FrontIf o work → s ≡ fitted (length out) t → out' ≡ handed s work out
    → (s ≡ mapped length (o >>= fitting (length out))) × (out' ≡ written (o >>= fitting (length out)) out)
unfolding fitted handed fitting written
answered (refused n place) work out out' t s a b c d = let e : s ≡ refused n place = c ∙ rw a refl in (e, d ∙ rw e refl)
answered (done L) work out out' t s a b c d = go (leb (13 * length L) (length out)) (c ∙ rw a refl)
  where
    go : (x : Bool) → s ≡ or_else 12 x (done (length L)) → (s ≡ mapped length (or_else 12 x (done L))) × (out' ≡ written (or_else 12 x (done L)) out)
    go true e = (e, d ∙ rw (e, b) refl)
    go false e = (e, d ∙ rw e refl)

pub hand_answers : (o : Answer (List Part)) (work out : List ℕ) (listed r : Result Instantiables Refusal) (out' : List ℕ) → Valued o work (told_listed listed)
    → Handed (told_listed listed) work out (told_listed r) out' → Answers (o >>= fitting (length out)) out r out'
hand_answers o work out listed r out' v h =
    let a = answered o work out out' (told_listed listed) (told_listed r) v.says v.front h.says h.buffer in
    record { says = a.0; buffer = a.1 }

-- ---- a part by itself
module _ (part : PartialComplexEntity) (out : List ℕ) where
  pub part_short : (w : Refusal) → w ≡ record { reason = BufferTooShort; place = 0 } → length out < 13 → Answers (fitting (length out) (names_of part ∷ [])) out (Err w) out
  unfolding fitting written
  part_short w d h = rw (lt-leb 13 (length out) h, d) (record { says = refl; buffer = refl })

  pub part_handed : (out' : List ℕ) → length part.names ≡ 12 → 13 ≤ length out → out' ≡ paste out 0 (row_of (names_of part)) 13
      → Answers (fitting (length out) (names_of part ∷ [])) out (Ok (record { count = 1 })) out'
  unfolding fitting written flat flat_map
  part_handed out' l h w =
      let t : take 13 (row_of (names_of part)) ≡ row_of (names_of part) = take_all 13 (row_of (names_of part)) (omega (arith, row_long (names_of part) (names_few part l))) in
      rw (le-leb 13 (length out) h) (record { says = refl; buffer = w ∙ rw (t, append-nil (row_of (names_of part))) refl })

pub ruleset handing_part = (part_short, part_handed)
