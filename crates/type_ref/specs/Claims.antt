-- What is proved, to be read without the proofs: the claim is a type, and proofs/Proved.antt has a member of it.
use Rattle.std.specs.Prelude.{ℕ, ◌≡◌, List}
use Rattle.grammar.specs.MeaningReading.{Reading}
use Rattle.type_ref.specs.Promises.{PromiseType}
use Rattle.type_ref.specs.declared.TypeRef.{TypeRef}

-- one input allows one outcome
abbrev pub TypeOnce : Type 0
TypeOnce = (rd : Reading) (s q work : List ℕ) (r r' : TypeRef) (w w' : List ℕ) → PromiseType rd s q work r w → PromiseType rd s q work r' w' → (r ≡ r') × (w ≡ w')
