-- What the code answers for a part: what a filled array of names makes.
use Prim.Native.Nat.{ℕ, ◌≤◌, ◌<◌}
use mathlib.Core.Path.{◌≡◌, sym, ap, ◌∙◌}
use mathlib.Core.List.{List, []}
use native.Mathlib.Omega.{arith}
use lib.ListN.{length}
use borrow.Author.Tests.{le-leb, lt-leb}
use Rattle.std.specs.Prelude.{Ok, Err}
use Rattle.refusal.specs.declared.Reason.TheVariants.{TooManySets}
use Rattle.refusal.specs.declared.Refusal.{Refusal}
use Rattle.refusal.specs.MeaningAnswer.{Answer, done, refused}
use Rattle.refusal.specs.Told.{told_refusal}
use Rattle.complex_entity.specs.declared.PartialComplexEntity.{PartialComplexEntity}
use Rattle.complex_entity.specs.MeaningParts.{Part}
use Rattle.complex_entity.specs.MirrorParts.{names_of, part_of, narrowed, Makes}
use Rattle.complex_entity.proofs.Names.{part_is, names_of_part}
use Rattle.complex_entity.proofs.Filling.{Filling, fill_done, fill_over}

pub narrowed_done : (l : List ℕ) → length l ≤ 12 → narrowed l ≡ done l
narrowed_done l h = rw (le-leb (length l) 12 h)

pub narrowed_over : (l : List ℕ) → 12 < length l → narrowed l ≡ refused 11 0
narrowed_over l h = rw (lt-leb (length l) 12 h)

-- a part with zeros after its names is made
pub makes_part : (a : Answer Part) (l : Part) (p : PartialComplexEntity) → p ≡ part_of l → a ≡ done l → Makes a (Ok p)
makes_part a l p e d =
    let n : names_of p ≡ l = ap names_of e ∙ names_of_part l in
    record { told = ap done n ∙ sym d; padded = e ∙ ap part_of (sym n) }

-- a refusal is answered
pub makes_none : (a : Answer Part) (why : Refusal) → told_refusal why ≡ a → Makes a (Err why)
makes_none a why e = record { told = e; padded = tt }

-- k names stand in out, what is to come is rest, and all of them are r
module _ (k : ℕ) (out rest r : List ℕ) (f : Filling 12 0 k out rest r) where
  pub filled_made : rest ≡ [] → Makes (narrowed r) (Ok (record { n = k; names = out }))
  filled_made e =
      let d = fill_done 12 0 k out rest r f e in
      makes_part (narrowed r) r _ (part_is k out r d.0 d.1) (narrowed_done r (omega (arith, d.0, f.room)))

  pub filled_over : 12 ≤ k → 0 < length rest → (why : Refusal) → why ≡ record { reason = TooManySets; place = 0 } → Makes (narrowed r) (Err why)
  filled_over h e why w = makes_none (narrowed r) why (ap told_refusal w ∙ sym (narrowed_over r (fill_over 12 0 k out rest r f h e)))
