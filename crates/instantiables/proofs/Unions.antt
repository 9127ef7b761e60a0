-- The ways through `unite`.
use Prim.Native.Nat.{ℕ, ◌≤◌, ◌<◌}
use mathlib.Core.Path.{◌≡◌, sym}
use mathlib.Core.Logic.{inl, inr}
use mathlib.Core.List.{List}
use native.Mathlib.Omega.{arith}
use lib.ListN.{length}
use Rattle.std.specs.Prelude.{Result, Err}
use Rattle.refusal.specs.MeaningAnswer.{done}
use Rattle.refusal.specs.declared.Reason.TheVariants.{TooManySets}
use Rattle.refusal.specs.declared.Refusal.{Refusal}
use Rattle.instantiables.specs.declared.Instantiables.{Instantiables}
use Rattle.complex_entity.specs.MeaningParts.{Part}
use Rattle.complex_entity.specs.MeaningLists.{add, held}
use Rattle.complex_entity.proofs.Members.{add_old}
use Rattle.complex_entity.proofs.Limits.{Narrow, held_done, held_many}
use Rattle.rows.specs.MirrorRows.{parts_at, Put}
use Rattle.rows.proofs.Flats.{parts_narrow}
use Rattle.instantiables.specs.MirrorRows.{Listing}
use Rattle.instantiables.specs.Told.{told_listed}
use Rattle.instantiables.proofs.Listings.{listing_refused, listing_done}

module _ (rows others : List ℕ) (count other total : ℕ) (e : total ≡ length (add (parts_at count rows) (parts_at other others))) where
  pub union_over : 128 < total → (r : Result Instantiables Refusal) → r ≡ Err (record { reason = TooManySets; place = 0 })
      → Listing (held (add (parts_at count rows) (parts_at other others))) rows rows (told_listed r)
  union_over h r u = rw u (listing_refused _ rows rows 11 0 (held_many (add (parts_at count rows) (parts_at other others)) (omega arith)))

  pub union_done : total ≤ 128 → (rows' : List ℕ) → Put (add (parts_at count rows) (parts_at other others)) rows rows'
      → Listing (held (add (parts_at count rows) (parts_at other others))) rows rows' (done total)
  union_done h rows' w =
      let L : List Part = add (parts_at count rows) (parts_at other others) in
      listing_done _ L rows rows' total (held_done L (omega arith) narrow) (sym e) w
    where
      narrow : Narrow (add (parts_at count rows) (parts_at other others))
      narrow q m = elim (add_old (parts_at count rows) (parts_at other others) m) [ inl i ↦ parts_narrow count rows q i | inr j ↦ parts_narrow other others q j ]

pub ruleset unions = (union_over, union_done)
