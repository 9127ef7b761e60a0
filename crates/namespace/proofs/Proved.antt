-- The claims of specs/Claims.antt.
use mathlib.Core.Path.{◌≡◌, sym, ap, ◌∙◌}
use mathlib.Core.List.{List}
use mathlib.Core.Bool.{true}
use Prim.Native.Nat.{ℕ}
use Rattle.std.specs.Prelude.{Result, Ok, Err}
use Rattle.refusal.specs.MeaningAnswer.{Answer, done, mapped}
use Rattle.refusal.specs.Told.{told}
use Rattle.refusal.specs.declared.Refusal.{Refusal}
use Rattle.grammar.specs.MeaningReading.{Reading}
use Rattle.grammar.proofs.Choosing.{clash}
use Rattle.scope.specs.MeaningScope.{Path}
use Rattle.query.specs.MeaningQuery.{resolve_query, path_query}
use Rattle.declarations.specs.MeaningNamespace.{schemas_in, get_of, resolve_of, path_at}
use Rattle.refusal.proofs.Same.{same_refusal}
use Rattle.namespace.specs.Promises.{PromiseResolve, PromiseGet, Asked, part_of, PromisePart, PromisePath}
use Rattle.namespace.specs.Claims.{ResolveOnce, GetOnce, PartOnce, PathOnce}
use Rattle.namespace.proofs.Clearing.{answers_once}

pub told_once : {A : Type 0} (a b : Result A Refusal) → told a ≡ told b → a ≡ b
told_once (Ok x) (Ok y) e = cc
told_once (Ok x) (Err q) e = clash (cc)
told_once (Err r) (Ok y) e = clash (cc)
told_once (Err r) (Err q) e = ap Err (same_refusal r q (cc) (cc))

pub resolve_once : ResolveOnce
unfolding PromiseResolve
resolve_once rd s q r r' x y = told_once r r' (answers_once rd s true (resolve_query q) (resolve_of rd (schemas_in s)) (told r) (told r') x y)

pub get_once : GetOnce
unfolding PromiseGet
get_once rd s q r r' x y = told_once r r' (answers_once rd s true (path_query q) (get_of rd (schemas_in s)) (told r) (told r') x y)

asked_once : (rd : Reading) (s : List ℕ) (i : ℕ) (o o' : Answer Path) → Asked rd s i o → Asked rd s i o' → o ≡ o'
unfolding Asked
asked_once rd s i o o' x y = answers_once rd s true (done i) (path_at (schemas_in s)) o o' x y

pub part_once : PartOnce
unfolding PromisePart
part_once name rd s i b b' x y = x.2 ∙ ap (part_of name) (asked_once rd s i x.0 y.0 x.1 y.1) ∙ sym y.2

pub path_once : PathOnce
unfolding PromisePath
path_once rd s i r r' x y = told_once r r' (x.2 ∙ ap (λ (o : Answer Path). mapped (λ (p : Path). tt {0}) o) (asked_once rd s i x.0 y.0 x.1 y.1) ∙ sym y.2)
