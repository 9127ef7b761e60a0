-- One walk through a list follows another.
use mathlib.Core.Path.{refl}
use mathlib.Core.List.{List, [], ◌∷◌}
use Rattle.refusal.specs.MeaningAnswer.{Answer}
use Rattle.complex_entity.specs.MeaningRising.{◌∈◌, here, there}
use Rattle.records.proofs.Following.{Follows, has, follow_bind}
use Rattle.gathering.specs.MeaningGathering.{through}

pub follow_through : {A G H : Type 0} {h : G → H} {P : G → Type 0} (f : A → G → Answer G) (f' : A → H → Answer H) (xs : List A)
    → ((x : A) → x ∈ xs → (g : G) → P g → Follows h P (f x g) (f' x (h g))) → (g : G) → P g → Follows h P (through f xs g) (through f' xs (h g))
unfolding through
follow_through f f' [] go g p = has p refl
follow_through f f' (x ∷ xs) go g p = follow_bind (λ k. through f' xs k) (go x (here refl) g p) (λ k q. follow_through f f' xs (λ y m. go y (there m)) k q)
