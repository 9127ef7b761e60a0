-- What is made of a list that stands behind the records: it is handed out, or a set of it is; and the row that is asked for.
use mathlib.Core.Path.{◌≡◌, refl, ap}
use mathlib.Core.List.{List, [], ◌∷◌}
use Prim.Native.Nat.{ℕ, ◌-◌, ◌*◌, ◌≤◌}
use native.Mathlib.Omega.{arith}
use lib.ListN.{length, take, drop, length-drop}
use lib.Seq.{take_all}
use Rattle.std.specs.Prelude.{Result, Ok, Err}
use Rattle.refusal.specs.MeaningAnswer.{done, mapped, ◌>>=◌}
use Rattle.refusal.specs.Told.{told_by}
use Rattle.refusal.specs.declared.Refusal.{Refusal}
use Rattle.refusal.specs.declared.Reason.TheVariants.{Malformed}
use Rattle.complex_entity.specs.MirrorParts.{names_of, part_of, part_at}
use Rattle.complex_entity.specs.declared.PartialComplexEntity.{PartialComplexEntity}
use Rattle.complex_entity.proofs.Names.{names_of_part}
use Rattle.rows.specs.MirrorRows.{Stands}
use Rattle.rows.proofs.Flats.{parts_length}
use Rattle.instantiables.specs.Told.{told_listed}
use Rattle.instantiables.specs.declared.Instantiables.{Instantiables}
use Rattle.operands.specs.MeaningOperands.{read_part, part}
use Rattle.operands.specs.MeaningResults.{fitting}
use Rattle.operands.specs.MirrorOperands.{judged}
use Rattle.operands.specs.MirrorResults.{Within, Valued, Handed}
use Rattle.operands.specs.Promises.{Answers}
use Rattle.operands.proofs.Handing.{hand_answers}
use Rattle.operands.proofs.Taking.{part_room, part_read, part_refused}
use Rattle.gathering.specs.declared.Streams.{Streams}
use Rattle.supertypes.specs.MirrorStanding.{Stood, list_at, StandsIf}

-- ---- the rows behind the records

pub behind_records : (x : Streams) (work w : List ℕ) → Stood x work → length w ≡ length work → 2048 ≤ length w
behind_records x work w S e = let z = S.stands.roomy in omega arith

pub whole_rest : (w : List ℕ) → take (length w - 2048) (drop 2048 w) ≡ drop 2048 w
whole_rest w = take_all (length w - 2048) (drop 2048 w) (omega (arith, length-drop 2048 w))

list_valued : (v : Result Instantiables Refusal) (rows : List ℕ) → StandsIf v rows → Valued (list_at v rows) rows (told_listed v)
list_valued (Ok l) rows S = let n = parts_length l.count rows in record { says = rw n refl; front = rw n S.clean; within = omega (arith, S.small, S.room) }
list_valued (Err why) rows S = record { says = refl; front = tt; within = tt }

module _ (v : Result Instantiables Refusal) (w : List ℕ) (S : StandsIf v (drop 2048 w)) where
  pub list_within : Within (told_listed v) (take (length w - 2048) (drop 2048 w))
  list_within = rw (whole_rest w) (list_valued v (drop 2048 w) S).within

  pub list_fits : (out out' : List ℕ) (t : Result Instantiables Refusal) → Handed (told_listed v) (take (length w - 2048) (drop 2048 w)) out (told_listed t) out'
      → Answers (list_at v (drop 2048 w) >>= fitting (length out)) out t out'
  list_fits out out' t h = hand_answers (list_at v (drop 2048 w)) (drop 2048 w) out v t out' (list_valued v (drop 2048 w) S) (rw (whole_rest w) at h)

module _ (v : Result Instantiables Refusal) (w : List ℕ) (S : StandsIf v (drop 2048 w)) (l : Instantiables) (e : v ≡ Ok l) where
  stands : Stands (drop 2048 w) l.count
  stands = rw e at S

  pub rows_fit : 13 * l.count ≤ length (take (length w - 2048) (drop 2048 w))
  rows_fit = rw (whole_rest w) (omega (arith, stands.small, stands.room))

  pub rows_stand : Stands (take (length w - 2048) (drop 2048 w)) l.count
  rows_stand = rw (whole_rest w) stands

-- ---- the row that is asked for

module _ (row : List ℕ) (read : Result (Unit {0}) ℕ) (j : read ≡ judged (1 ∷ []) row) where
  pub row_wrong : (k : ℕ) → read ≡ Err k → (why : Refusal) → why ≡ record { reason = Malformed; place = k } → told_by {A = PartialComplexEntity} names_of (Err why) ≡ mapped part (read_part row)
  row_wrong k e why d = rw (part_refused row read j k e, d) refl

  pub row_room : read ≡ Ok tt → 13 ≤ length row
  row_room e = part_room row read j e

  pub row_read : read ≡ Ok tt → (p : PartialComplexEntity) → p ≡ part_of (part_at (drop 0 row)) → told_by {A = PartialComplexEntity} names_of (Ok p) ≡ mapped part (read_part row)
  row_read e p d = rw (part_read row read j e, d) (ap done (names_of_part (part_at row)))

pub ruleset reading_row = (row_wrong, row_room, row_read)
