-- The claims of specs/Claims.antt, each from the claim of its question's crate.
use Prim.Native.Nat.{ℕ, zero, suc}
use mathlib.Core.Path.{◌≡◌, refl, sym, ap, ◌∙◌}
use mathlib.Core.List.{List}
use mathlib.Core.Bool.{true}
use Rattle.refusal.specs.MeaningAnswer.{Answer, done, mapped}
use Rattle.grammar.specs.MeaningReading.Reading.{rust}
use Rattle.instantiables.specs.Told.{told_listed}
use Rattle.declarations.specs.MeaningNamespace.{schemas_in, path_at}
use Rattle.namespace.specs.Promises.{Asked}
use Rattle.algebra.proofs.Proved.{new_once, single_once, compare_once, two_once, several_once}
use Rattle.grammar.proofs.Choosing.{clash}
use Rattle.sheet.proofs.Proved.{verdict_once}
use Rattle.query.proofs.Proved.{order_once}
use Rattle.namespace.proofs.Clearing.{answers_once}
use Rattle.namespace.proofs.Proved.{resolve_once, get_once, path_once}
use Rattle.constraints.proofs.Proved.{supertype_once, list_once, row_once, number_once, kth_once}
use Rattle.type_ref.proofs.Proved.{type_once}
use Rattle.codes.specs.MeaningCode.{read}
use Rattle.codes.specs.Told.{numbered, judged, decided, compared_parts, compared_scopes, typed}
use Rattle.exports.specs.Promises.{stop_of, ExportedName}
use Rattle.exports.specs.Claims.{Once, OnceAlone, ExportedOnce, NameOnce}

-- C reads different things from different numbers
read_once : (n m v w : ℕ) → read n v ≡ read m w → (n ≡ m) × (v ≡ w)
read_once zero zero v w e = (refl, cc)
read_once zero (suc m) v w e = clash (cc)
read_once (suc n) zero v w e = clash (cc)
read_once (suc n) (suc m) v w e = (cc, cc)

-- an answer that its promise determines is read one way
alone : {A : Type 0} (told : A → Answer ℕ) (P : A → Type 0) → ((a b : A) → P a → P b → a ≡ b) → OnceAlone told P
alone {A} told P once n m v w e f = read_once n m v w (sym e.2 ∙ ap told (once e.0 f.0 e.1 f.1) ∙ f.2)

once_so : {A S : Type 0} (told : A → Answer ℕ) (P : A → S → Type 0) → ((a b : A) (x y : S) → P a x → P b y → (a ≡ b) × (x ≡ y)) → Once told P
once_so {A} {S} told P once n m v w x y e f =
    let u = once e.0 f.0 x y e.1 f.1 in
    let k = read_once n m v w (sym e.2 ∙ ap told u.0 ∙ f.2) in
    (k.0, k.1, u.1)

pub exported_once : ExportedOnce
exported_once = record {
  new = λ l out. once_so told_listed _ (λ a b x y. new_once l out a b x y);
  single = λ n out. once_so told_listed _ (λ a b x y. single_once n out a b x y);
  compare = λ l r. alone compared_parts _ (compare_once l r);
  two = λ op i j l r out. once_so told_listed _ (λ a b x y. two_once op i j l r out a b x y);
  several = λ op c l out. once_so told_listed _ (λ a b x y. several_once op c l out a b x y);
  verdict = λ s. alone judged _ (verdict_once rust s);
  order = λ l r. alone compared_scopes _ (order_once rust l r);
  resolve = λ s q. alone numbered _ (resolve_once rust s q);
  get = λ s q. alone numbered _ (get_once rust s q);
  as_path = λ s i. alone judged _ (path_once rust s i);
  is_supertype = λ s q w. once_so decided _ (λ a b x y. supertype_once rust s q w a b x y);
  list = λ s q w out. once_so told_listed _ (λ a b x y e f. let u = list_once rust s q w out a b x.0 y.0 x.1 y.1 e f in (u.0, pair x y u.1 u.2));
  number_of = λ s q r w. once_so numbered _ (λ a b x y. number_once rust s q r w a b x y);
  row_at = λ s q k w out. once_so told_listed _ (λ a b x y e f. let u = row_once rust s q k w out a b x.0 y.0 x.1 y.1 e f in (u.0, pair x y u.1 u.2));
  supertype_at = λ s k w. once_so numbered _ (λ a b x y. kth_once rust s k w a b x y);
  from_path = λ s q w. once_so (typed q) _ (λ a b x y. type_once rust s q w a b x y);
}
  where
    pair : (x y : List ℕ × List ℕ) → x.0 ≡ y.0 → x.1 ≡ y.1 → x ≡ y
    pair (a, b) (c, d) e f = rw (e, f) refl

pub name_once : NameOnce
unfolding ExportedName Asked
name_once name s i n m v w a b e f =
    let u : e.0 ≡ f.0 = answers_once rust s true (done i) (path_at (schemas_in s)) e.0 f.0 e.1 f.1 in
    let k = read_once n m v w (sym e.2 ∙ ap (mapped (λ p. (name p).at)) u ∙ f.2) in
    (k.0, k.1, e.3 ∙ ap (stop_of name) u ∙ sym f.3)
