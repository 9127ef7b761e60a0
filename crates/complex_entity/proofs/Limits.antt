-- The limits: a list that is held has at most 128 parts of at most 12 names; what passes them on the way passes them at the end.
use mathlib.Core.Path.{◌≡◌, refl, sym}
use mathlib.Core.List.{List, [], ◌∷◌, ◌++◌}
use mathlib.Core.Bool.{Bool, true, false}
use Prim.Native.Nat.{ℕ, ◌≤◌, ◌<◌}
use native.Mathlib.Omega.{arith}
use lib.ListN.{length}
use lib.Dec.{T, leb, leb→le, le→leb}
use mir.Facts.{and_yes, yes_and}
use Rattle.refusal.specs.MeaningAnswer.{Answer, done, refused, or_else}
use Rattle.complex_entity.specs.MeaningRising.{◌∈◌, here, there, Rising}
use Rattle.complex_entity.specs.MeaningParts.{Part, order, narrow}
use Rattle.complex_entity.specs.MeaningLists.{add, held, fits, all_narrow}
use Rattle.complex_entity.proofs.Sets.{subset_length}
use Rattle.complex_entity.proofs.Orders.{part_order}
use Rattle.complex_entity.proofs.Members.{add_left, add_rising, add_steps}

-- each part of a list has at most 12 names
abbrev pub Narrow : List Part → Type 0
Narrow L = (q : Part) → q ∈ L → length q ≤ 12

pub narrow_out : (L : List Part) → T (all_narrow L) → Narrow L
narrow_out [] t q x'' = elim x'' [ ]
narrow_out (p ∷ L) t q (here e) = rw e (leb→le (length p) 12 (and_yes (narrow p) (all_narrow L) t).0)
narrow_out (p ∷ L) t q (there m) = narrow_out L (and_yes (narrow p) (all_narrow L) t).1 q m

pub narrow_in : (L : List Part) → Narrow L → T (all_narrow L)
narrow_in [] h = tt
narrow_in (p ∷ L) h = yes_and (narrow p) (all_narrow L) (le→leb _ _ (h p (here refl))) (narrow_in L (λ q m. h q (there m)))

pub fits_out : (L : List Part) → T (fits L) → (length L ≤ 128) × Narrow L
fits_out L t = let h = and_yes (leb (length L) 128) (all_narrow L) t in (leb→le (length L) 128 h.0, narrow_out L h.1)

pub fits_in : (L : List Part) → length L ≤ 128 → Narrow L → T (fits L)
fits_in L h n = yes_and (leb (length L) 128) (all_narrow L) (le→leb _ _ h) (narrow_in L n)

-- ---- what is answered
module _ {A : Type 0} (n : ℕ) (r : Answer A) where
  pub or_else_yes : (b : Bool) → T b → or_else n b r ≡ r
  or_else_yes true t = refl
  or_else_yes false t = absurd t

  pub or_else_no : (b : Bool) → (T b → ⊥) → or_else n b r ≡ refused n 0
  or_else_no true t = absurd (t tt)
  or_else_no false t = refl

pub held_done : (L : List Part) → length L ≤ 128 → Narrow L → held L ≡ done L
unfolding held
held_done L h n = or_else_yes 11 (done L) (fits L) (fits_in L h n)

pub held_many : (L : List Part) → 128 < length L → held L ≡ refused 11 0
unfolding held
held_many L h = or_else_no 11 (done L) (fits L) (λ t. omega (arith, (fits_out L t).0))

pub held_wide : (L : List Part) {q : Part} → q ∈ L → 12 < length q → held L ≡ refused 11 0
unfolding held
held_wide L {q} m h = or_else_no 11 (done L) (fits L) (λ t. omega (arith, (fits_out L t).1 q m))

-- a list is held, or refused with 11
pub data Held (L : List Part) : Answer (List Part) → Type 0 where
  is_held : length L ≤ 128 → Narrow L → Held L (done L)
  is_over : (T (fits L) → ⊥) → Held L (refused 11 0)

pub held_view : (L : List Part) → Held L (held L)
unfolding held
held_view L = go (fits L) (fits_out L) (λ h. h)
  where
    go : (b : Bool) → (T b → (length L ≤ 128) × Narrow L) → (T (fits L) → T b) → Held L (or_else 11 b (done L))
    go true f g = is_held (f tt).0 (f tt).1
    go false f g = is_over g

-- ---- a list that passes a limit on the way passes it at the end
fits_less : (K L : List Part) → Rising order K → Rising order L → ((q : Part) → q ∈ K → q ∈ L) → T (fits L) → T (fits K)
fits_less K L R S f t = let h = fits_out L t in fits_in K (omega (arith, h.0, subset_length part_order R S f)) (λ q m. h.1 q (f q m))

pub held_less : (K L : List Part) → Rising order K → Rising order L → ((q : Part) → q ∈ K → q ∈ L) → held K ≡ refused 11 0 → held L ≡ refused 11 0
unfolding held
held_less K L R S f h = or_else_no 11 (done L) (fits L) (λ t. go (fits K) (fits_less K L R S f t) h)
  where
    go : (b : Bool) → T b → or_else 11 b (done K) ≡ refused 11 0 → ⊥
    go true t e = let z : ◌≡◌ {A = ℕ} 0 1 = cc in omega arith
    go false t e = t

pub held_grows : (L J K : List Part) → held (add L J) ≡ refused 11 0 → held (add L (J ++ K)) ≡ refused 11 0
held_grows L J K h =
    rw (sym (add_steps L J K)) (held_less (add L J) (add (add L J) K) (add_rising L J) (add_rising (add L J) K) (λ q m. add_left (add L J) K m) h)
