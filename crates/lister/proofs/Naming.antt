-- Equal paths have equal names, so a declared path has those of its number.
use mathlib.Core.Path.{◌≡◌, refl}
use mathlib.Core.List.{List, [], ◌∷◌}
use mathlib.Core.Bool.{true}
use Prim.Native.Nat.{ℕ}
use lib.Dec.{eqb}
use Rattle.grammar.specs.MeaningReading.{Reading, rust}
use Rattle.grammar.proofs.Choosing.{clash, both}
use Rattle.schemas.specs.MeaningSchemas.{Schema}
use Rattle.scope.specs.MeaningNames.{same_name}
use Rattle.scope.specs.MeaningScope.{Step, Scope, Path, place_of, steps_equal, same_scope, same_path}
use Rattle.scope.proofs.Equality.{bytes_equal}
use Rattle.declarations.specs.MeaningNamespace.{outermost, schema_name, item_name}
use Rattle.declarations.proofs.Numbering.{at_number}
use Rattle.declarations.proofs.Proved.{get_lowest}
use Rattle.records.specs.MeaningResolving.{number_for}
use Rattle.gathering.specs.Claims.{IsDeclared}
use Rattle.gathering.proofs.Declaring.{number_is}
use Rattle.noting.specs.MeaningNames.{names_at, names_of}

module _ (rd : Reading) where
  same_bytes : (r : Reading) (a b : List ℕ) → same_name r a b ≡ true → a ≡ b
  unfolding same_name
  same_bytes rust a b e = bytes_equal a b e

  step_name : (x y : Step) → steps_equal rd x y ≡ true → x.name.bytes ≡ y.name.bytes
  unfolding steps_equal
  step_name x y e = same_bytes rd x.name.bytes y.name.bytes (both (eqb (place_of x.kind) (place_of y.kind)) (same_name rd x.name.bytes y.name.bytes) e).1

  outer_name : (a b : Scope) → same_scope rd a b ≡ true → (outermost a).bytes ≡ (outermost b).bytes
  unfolding same_scope outermost
  outer_name [] [] e = refl
  outer_name [] (y ∷ ys) e = clash (cc)
  outer_name (x ∷ xs) [] e = clash (cc)
  outer_name (x ∷ xs) (y ∷ ys) e = step_name x y (both (steps_equal rd x y) (same_scope rd xs ys) e).0

  path_names : (p q : Path) → same_path rd p q ≡ true → ((schema_name p).bytes ≡ (schema_name q).bytes) × ((item_name p).bytes ≡ (item_name q).bytes)
  unfolding same_path schema_name item_name
  path_names p q e =
      let z = both (same_scope rd p.scope q.scope) (steps_equal rd p.item q.item) e in
      (outer_name p.scope q.scope z.0, step_name p.item q.item z.1)

  pub declared_names : (xs : List Schema) (p : Path) → IsDeclared rd xs p → names_of xs (number_for rd xs p) ≡ record { schema = (schema_name p).bytes; item = (item_name p).bytes }
  unfolding names_of names_at
  declared_names xs p D =
      let d = D.0 in
      let g = get_lowest rd xs p d D.1 in
      let n = path_names d.path p g.1 in
      rw (number_is rd xs p d D.1, (at_number xs d g.0).1, n.0, n.1) refl
