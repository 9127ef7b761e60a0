-- A name among others, and names all among others, as the library's tests find them.
use Prim.Native.Nat.{ℕ}
use mathlib.Core.Path.{◌≡◌, refl, ap, ◌∙◌}
use mathlib.Core.Bool.{Bool, ◌||◌}
use mathlib.Core.List.{[], ◌∷◌}
use Rattle.std.specs.Bool.{◌==◌}
use Rattle.std.specs.List.{list_any, list_all}
use Rattle.complex_entity.specs.MeaningParts.{Part, has_name, contains}

any_name : (p : Part) (n : ℕ) → list_any (λ m. m == n) p ≡ has_name p n
any_name [] n = refl
any_name (m ∷ p) n = ap (λ (b : Bool). (m == n) || b) (any_name p n)

pub has_found : (p : Part) (n : ℕ) (r : Bool) → r ≡ list_any (λ m. m == n) p → r ≡ has_name p n
has_found p n r e = e ∙ any_name p n

all_names : (p q : Part) → list_all (λ n. list_any (λ m. m == n) p) q ≡ contains p q
all_names p [] = refl
all_names p (n ∷ q) = rw (any_name p n, all_names p q) refl

pub contains_found : (p q : Part) (r : Bool) → r ≡ list_all (λ n. list_any (λ m. m == n) p) q → r ≡ contains p q
contains_found p q r e = e ∙ all_names p q
