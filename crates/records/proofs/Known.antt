-- That the last schema of a name is known, which a schema keeps without saying how, serves as the fact itself: there is one way to know it but for places, which it doesn't turn on.
use mathlib.Core.Path.{◌≡◌, refl, ap, ◌∙◌}
use mathlib.Core.HLevel.{Discrete, hedberg}
use mathlib.Core.Logic.{∥∥₁_elim}
use mathlib.Core.List.{List, [], ◌∷◌, List-discrete}
use mathlib.Core.List as list
use mathlib.Core.Option as option
use mathlib.Core.Option.{Option, none, some}
use mathlib.Core.Sum.{⊎_set}
use mathlib.Core.Bool.{Bool-set}
use Prim.Native.Nat.{ℕ, suc}
use native.Mathlib.Nat.{ℕ_set}
use native.Mathlib.Decide.{ℕ_discrete}
use Rattle.std.specs.Coded.{le_prop}
use Rattle.std.specs.Prelude.{Some, None}
use Rattle.std.specs.Prelude as prelude
use Rattle.expression.specs.MeaningExpression.{Expr, Terms}
use Rattle.expression.specs.MeaningExpression.Expr.{reference, andor, «and», oneof}
use Rattle.expression.specs.MeaningExpression.Terms.{end, ◌then◌}
use Rattle.grammar.specs.MeaningReading.{Reading}
use Rattle.sheet.specs.MeaningName.{Name}
use Rattle.schemas.specs.MeaningTree.{Tree, tree_at}
use Rattle.schemas.specs.MeaningSchemas.{schema_of}
use Rattle.declarations.specs.MeaningNamespace.{Named, Declaration, scope_in, path_in, declared_by, numbered, Entry}
use Rattle.declarations.specs.MirrorNamespace.{NumbersIn, entry_of, LastSchemaOf}
use Rattle.declarations.specs.declared.Numbers.{Numbers}
use Rattle.declarations.specs.declared.LastSchema.{LastSchema}

-- ---- two entries are equal in one way

name_dec : Discrete Name
name_dec x y = by (ℕ_discrete x.at y.at) (List-discrete ℕ_discrete x.bytes y.bytes)
  where
    by : Dec (x.at ≡ y.at) → Dec (x.bytes ≡ y.bytes) → Dec (x ≡ y)
    by (yes p) (yes q) = yes (λ i. record { at = p i; bytes = q i })
    by (no n) b = no (λ e. n (ap (λ (x : Name). x.at) e))
    by (yes p) (no n) = no (λ e. n (ap (λ (x : Name). x.bytes) e))

kind_dec : (f : Terms Name → Expr Name) (t u : Terms Name) → (f t ≡ f u → t ≡ u) → Dec (t ≡ u) → Dec (f t ≡ f u)
kind_dec f t u g (yes e) = yes (ap f e)
kind_dec f t u g (no n) = no (λ e. n (g e))

mutual
  expr_dec : Discrete (Expr Name)
  expr_dec (reference x) (reference y) = by (name_dec x y)
    where
      by : Dec (x ≡ y) → Dec (reference x ≡ reference y)
      by (yes e) = yes (ap reference e)
      by (no n) = no (λ e. n cc)
  expr_dec (andor t) (andor u) = kind_dec andor t u (λ e. cc) (terms_dec t u)
  expr_dec («and» t) («and» u) = kind_dec «and» t u (λ e. cc) (terms_dec t u)
  expr_dec (oneof t) (oneof u) = kind_dec oneof t u (λ e. cc) (terms_dec t u)
  expr_dec (reference x) (andor u) = no (λ e. cc)
  expr_dec (reference x) («and» u) = no (λ e. cc)
  expr_dec (reference x) (oneof u) = no (λ e. cc)
  expr_dec (andor t) (reference y) = no (λ e. cc)
  expr_dec (andor t) («and» u) = no (λ e. cc)
  expr_dec (andor t) (oneof u) = no (λ e. cc)
  expr_dec («and» t) (reference y) = no (λ e. cc)
  expr_dec («and» t) (andor u) = no (λ e. cc)
  expr_dec («and» t) (oneof u) = no (λ e. cc)
  expr_dec (oneof t) (reference y) = no (λ e. cc)
  expr_dec (oneof t) (andor u) = no (λ e. cc)
  expr_dec (oneof t) («and» u) = no (λ e. cc)

  terms_dec : Discrete (Terms Name)
  terms_dec end end = yes refl
  terms_dec end (d then u) = no (λ e. cc)
  terms_dec (d then t) end = no (λ e. cc)
  terms_dec (c then t) (d then u) = by (expr_dec c d) (terms_dec t u)
    where
      by : Dec (c ≡ d) → Dec (t ≡ u) → Dec ((c then t) ≡ (d then u))
      by (yes p) (yes q) = yes (λ i. p i then q i)
      by (no n) b = no (λ e. n cc)
      by (yes p) (no n) = no (λ e. n cc)

expr_set : IsSet (Expr Name)
expr_set = hedberg expr_dec

entry_set : IsSet Entry
entry_set = hlevel (ℕ_set, expr_set, list.is_set, option.is_set, ⊎_set)

-- ---- the places of schemas don't matter

numbered_any : (p q n : ℕ) (g : Tree) (ds : List Named) → numbered (schema_of p g) n ds ≡ numbered (schema_of q g) n ds
unfolding numbered schema_of path_in scope_in
numbered_any p q n g [] = refl
numbered_any p q n g (d ∷ ds) = ap (λ (es : List Declaration). record { number = n; path = path_in (schema_of p g) d; named = d } ∷ es) (numbered_any p q (suc n) g ds)

entry_any : (p q n : ℕ) (g : Tree) → entry_of n (schema_of p g) ≡ entry_of n (schema_of q g)
unfolding entry_of schema_of scope_in declared_by
entry_any p q n g = λ i. record { scope = scope_in (schema_of p g); items = numbered_any p q n g (declared_by (schema_of p g)) i }

numbers_prop : (s : List ℕ) (h : Numbers) → IsProp (NumbersIn s h)
numbers_prop s h = hlevel (ℕ_set, le_prop)

pub known : (rd : Reading) (s sc : List ℕ) (h : prelude.Option LastSchema) → ∥ LastSchemaOf rd s sc h ∥₁ → LastSchemaOf rd s sc h
known rd s sc None t = record { holds = ∥∥₁_elim t (option.is_set entry_set _ _) (λ L. L.holds); only = tt }
known rd s sc (Some l) t =
    record {
      holds = (0, ∥∥₁_elim t (option.is_set entry_set _ _) (λ L. L.holds.1 ∙ ap some (entry_any L.holds.0 0 l.numbers.first (tree_at s l.numbers.start l.numbers.stop))), ∥∥₁_elim t (numbers_prop s l.numbers) (λ L. L.holds.2));
      only = ∥∥₁_elim t (Bool-set _ _) (λ L. L.only);
    }
