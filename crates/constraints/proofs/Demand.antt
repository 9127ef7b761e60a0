-- Demand 3, from what is proved of expressions: a supertype's list is that of its numbered expression.
use mathlib.Core.Path.{◌≡◌, refl, sym, ap, ◌∙◌, subst}
use mathlib.Core.List.{List, [], ◌∷◌}
use mathlib.Core.Bool.{Bool, true, false, cond}
use mathlib.Core.Option.{Option, none, some}
use Prim.Native.Nat.{ℕ}
use Rattle.refusal.specs.MeaningAnswer.{Answer, done, refused, ◌>>=◌}
use Rattle.grammar.specs.MeaningReading.{Reading}
use Rattle.grammar.proofs.Choosing.{clash}
use Rattle.schemas.specs.MeaningSchemas.{Schema}
use Rattle.scope.specs.MeaningScope.{Path, same_path}
use Rattle.complex_entity.specs.MeaningRising.{◌∈◌, here, there}
use Rattle.complex_entity.specs.MeaningParts.{Part}
use Rattle.expression.specs.MeaningExpression.{Expr, eval}
use Rattle.expression.specs.MeaningNumbers.{number_of, set_at}
use Rattle.expression.proofs.Proved as expressions
use Rattle.expression.proofs.Places.{set_below}
use Rattle.declarations.specs.MeaningNamespace.{schemas_in, answered}
use Rattle.merging.specs.MeaningMerging.{Combined, find}
use Rattle.merging.specs.MeaningNumbering.{map_expr}
use Rattle.records.specs.MeaningResolving.{number_for}
use Rattle.gathering.specs.MeaningCombined.{supertypes, combined, numbered_expr, list_of}
use Rattle.gathering.specs.Claims.{IsDeclared, Every}
use Rattle.gathering.proofs.Proved.{all_declared}
use Rattle.constraints.specs.MeaningQuestions.{ask_number, ask_row}
use Rattle.constraints.specs.Claims.{Numbers}

-- what is found is an entry's expression
found_in : {N : Type 0} (same : N → N → Bool) (p : N) (g : List (Combined N)) (e : Expr N) → find same p g ≡ some e → (c : Combined N) × (c ∈ g) × (c.expr ≡ e)
unfolding find
found_in same p [] e q = clash (cc)
found_in {N} same p (c ∷ g) e q = by (same c.owner p) q (λ k. found_in same p g e k)
  where
    by : (b : Bool) → cond b (some c.expr) (find same p g) ≡ some e → (find same p g ≡ some e → (d : Combined N) × (d ∈ g) × (d.expr ≡ e)) → (d : Combined N) × (d ∈ (c ∷ g)) × (d.expr ≡ e)
    by true k go = let z : c.expr ≡ e = cc in (c, here refl, z)
    by false k go = let i = go k in (i.0, there i.1, i.2)

module _ (rd : Reading) (xs : List Schema) (p : Path) (e : Expr Path) (c : combined rd xs p ≡ done e) where
  every_declared : Every (IsDeclared rd xs) e
  unfolding combined answered
  every_declared = by (supertypes rd xs) refl c
    where
      found : (g : List (Combined Path)) (o : Option (Expr Path)) → supertypes rd xs ≡ done g → find (same_path rd) p g ≡ o → answered 16 0 o ≡ done e → Every (IsDeclared rd xs) e
      found g none k q d = clash (cc)
      found g (some i) k q d = let z : i ≡ e = cc in let f = found_in (same_path rd) p g e (q ∙ ap some z) in subst (Every (IsDeclared rd xs)) f.2 (all_declared rd xs g k f.0 f.1).1

      by : (o : Answer (List (Combined Path))) → supertypes rd xs ≡ o → (o >>= λ g. answered 16 0 (find (same_path rd) p g)) ≡ done e → Every (IsDeclared rd xs) e
      by (refused n m) k q = clash (cc)
      by (done g) k q = found g (find (same_path rd) p g) k refl q

  module _ (L : List Part) (l : list_of rd xs p ≡ done L) where
    abbrev d : Expr ℕ
    d = map_expr (number_for rd xs) e

    valued : eval d ≡ done L
    unfolding list_of numbered_expr
    valued = rw c at l

    number_is : (q : Part) → ask_number rd xs p q ≡ number_of L q
    unfolding ask_number
    number_is q = rw l refl

    row_is : (i : ℕ) → ask_row rd xs p i ≡ set_at L i
    unfolding ask_row
    row_is i = rw l refl

pub numbers : (rd : Reading) (s : List ℕ) (p : Path) (e : Expr Path) (L : List Part) → combined rd (schemas_in s) p ≡ done e → list_of rd (schemas_in s) p ≡ done L → Numbers rd s p e L
numbers rd s p e L c l =
    let xs = schemas_in s in
    let h = valued rd xs p e c L l in
    let B = expressions.lists_builds (d rd xs p e c L l) L h in
    let D = expressions.demand_3 (d rd xs p e c L l) L h in
    let N = number_is rd xs p e c L l in
    let R = row_is rd xs p e c L l in
    record {
      sets = B.1;
      rising = B.0;
      numbers = λ q i. (
        λ n. let k = (D.back q i).0 (sym (N q) ∙ n) in (set_below L q i k, R i ∙ k),
        λ b. N q ∙ (D.back q i).1 (sym (R i) ∙ b.1),
      );
      below = λ i h. let f = D.full i h in (f.0, R i ∙ f.1);
      past = λ i h. R i ∙ D.past i h;
      others = λ q f. N q ∙ (expressions.unnumbered (d rd xs p e c L l) L h q).0 (λ b. f ((B.1 q).1 b));
      declared = every_declared rd xs p e c;
    }
