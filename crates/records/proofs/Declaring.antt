-- A declaration has a path that is declared.
use Prim.Native.Nat.{ℕ, zero, suc}
use mathlib.Core.Path.{◌≡◌}
use mathlib.Core.List.{List, [], ◌∷◌}
use mathlib.Core.Option.{some}
use lib.ListN.{get_elem?}
use Rattle.complex_entity.specs.MeaningRising.{◌∈◌, here, there}
use Rattle.grammar.specs.MeaningReading.{Reading}
use Rattle.grammar.proofs.Choosing.{clash}
use Rattle.scope.specs.MeaningScope.{Path}
use Rattle.schemas.specs.MeaningSchemas.{Schema}
use Rattle.declarations.specs.MeaningNamespace.{Declaration, declarations, declaration_for}
use Rattle.declarations.proofs.Scopes.{path_refl}
use Rattle.declarations.proofs.Proved.{get_finds}

pub in_at : {A : Type 0} (l : List A) (i : ℕ) (a : A) → get_elem? l i ≡ some a → a ∈ l
in_at [] zero a q = clash (cc)
in_at [] (suc i) a q = clash (cc)
in_at (b ∷ l) zero a q = let z : a ≡ b = cc in here z
in_at (b ∷ l) (suc i) a q = there (in_at l i a q)

module _ (rd : Reading) (xs : List Schema) where
  -- where there is a declaration, its path is declared
  pub path_declared : (d : Declaration) (p : Path) → d ∈ declarations xs → d.path ≡ p → (c : Declaration) × (declaration_for rd xs p ≡ some c)
  path_declared d p m e = get_finds rd xs p d m (rw e (path_refl rd p))
