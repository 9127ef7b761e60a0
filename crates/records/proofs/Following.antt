-- One walk follows another: it is refused where the other is, and has what the other has, seen through h.
use Prim.Native.Nat.{ℕ}
use mathlib.Core.Path.{◌≡◌, refl, ap, subst}
use Rattle.refusal.specs.MeaningAnswer.{Answer, done, refused, mapped, ◌>>=◌}
use Rattle.grammar.proofs.Choosing.{clash}

-- b is a's answer by h, and what a answers is in P
pub data Follows {G H : Type 0} (h : G → H) (P : G → Type 0) : Answer G → Answer H → Type 0 where
  has : {g : G} {b : Answer H} → P g → b ≡ done (h g) → Follows h P (done g) b
  has_not : {n place : ℕ} {b : Answer H} → b ≡ refused n place → Follows h P (refused n place) b

pub follow_mapped : {G H : Type 0} {h : G → H} {P : G → Type 0} {a : Answer G} {b : Answer H} → Follows h P a b → b ≡ mapped h a
follow_mapped (has p q) = q
follow_mapped (has_not q) = q

pub follow_kept : {G H : Type 0} {h : G → H} {P : G → Type 0} {a : Answer G} {b : Answer H} → Follows h P a b → (g : G) → a ≡ done g → P g
follow_kept {P} (has {g} p q) k e = let z : g ≡ k = cc in subst P z p
follow_kept (has_not q) k e = clash (cc)

pub follow_bind : {G H K L : Type 0} {h : G → H} {P : G → Type 0} {k : K → L} {Q : K → Type 0} {a : Answer G} {b : Answer H} {f : G → Answer K} (f' : H → Answer L)
    → Follows h P a b → ((g : G) → P g → Follows k Q (f g) (f' (h g))) → Follows k Q (a >>= f) (b >>= f')
follow_bind f' (has {g} p q) go = rw q (go g p)
follow_bind f' (has_not q) go = rw q (has_not refl)

pub follow_by : {G H K L : Type 0} {h : G → H} {P : G → Type 0} {k : K → L} {Q : K → Type 0} {a : Answer G} {b : Answer H} (f : G → K) (f' : H → L)
    → Follows h P a b → ((g : G) → P g → Q (f g) × (f' (h g) ≡ k (f g))) → Follows k Q (mapped f a) (mapped f' b)
follow_by f f' (has {g} p q) go = rw q (has (go g p).0 (ap done (go g p).1))
follow_by f f' (has_not q) go = rw q (has_not refl)
