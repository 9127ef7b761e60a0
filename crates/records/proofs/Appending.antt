-- Numbers put behind those that were used: one after the other, and nodes with their terms.
use mathlib.Core.Path.{◌≡◌, refl, sym, ap, ◌∙◌, subst}
use mathlib.Core.List.{List, [], ◌++◌, append_assoc, append-nil}
use Prim.Native.Nat.{ℕ, ◌+◌, ◌*◌}
use native.Mathlib.Omega.{arith}
use lib.ListN.{length, take, length-append}
use Rattle.refusal.specs.MeaningAnswer.{Answer, done, refused, mapped, ◌>>=◌}
use Rattle.grammar.specs.MeaningReading.{Reading}
use Rattle.sheet.specs.MeaningName.{Name}
use Rattle.grammar.proofs.Choosing.{clash}
use Rattle.schemas.specs.MeaningSchemas.{Schema}
use Rattle.scope.specs.MeaningScope.{Scope}
use Rattle.expression.specs.MeaningExpression.{Expr, Terms}
use Rattle.expression.specs.MeaningExpression.Expr.{reference, andor, «and», oneof}
use Rattle.expression.specs.MeaningExpression.Terms.{end, ◌then◌}
use Rattle.expression.specs.MirrorNodes.{flat, flats, height, heights}
use Rattle.declarations.specs.MirrorNamespace.{schema_scope}
use Rattle.records.specs.MeaningResolving.{resolved_expr, resolved_terms}
use Rattle.records.specs.MirrorRecords.{size, sizes, level, levels, number_meant, Appends, expr_numbers, terms_numbers}
use Rattle.records.proofs.Following.{Follows, has, has_not, follow_by, follow_bind}

-- ---- what an answer says

pub record Did (o : Answer (List ℕ)) (used m : ℕ) (before after : List ℕ) : Type 0 where
  pub list : List ℕ
  pub is : o ≡ done list
  pub ends : m ≡ used + length list
  pub stands : take m after ≡ take used before ++ list

pub did : {o : Answer (List ℕ)} {r : Answer ℕ} {used : ℕ} {before after : List ℕ} → Appends o r used before after → (m : ℕ) → r ≡ done m → Did o used m before after
did {o = done l} {r} {used} a m q = let e : m ≡ used + length l = cc a.says in record { list = l; is = refl; ends = e; stands = rw e (a.holds l refl) }
did {o = refused n p} a m q = clash (cc a.says)

pub did_not : {o : Answer (List ℕ)} {r : Answer ℕ} {used : ℕ} {before after : List ℕ} → Appends o r used before after → (n p : ℕ) → r ≡ refused n p → o ≡ refused n p
did_not {o = done l} a n p q = clash (cc a.says)
did_not {o = refused k j} {r} a n p q = (let z : ◌≡◌ {A = Answer ℕ} (refused k j) (refused n p) = sym a.says ∙ q in let x : k ≡ n = cc in let y : j ≡ p = cc in rw (x, y) refl)

pub appends : {o : Answer (List ℕ)} {used m : ℕ} {before after : List ℕ} → (l : List ℕ) → o ≡ done l → m ≡ used + length l → take m after ≡ take used before ++ l → Appends o (done m) used before after
appends {o} {used} {m} {before} {after} l e k h =
    record { says = rw (e, k) refl; holds = λ j q. (let z : l ≡ j = cc in rw (← z, ← k) h) }

pub appends_not : {o : Answer (List ℕ)} (n p : ℕ) (used : ℕ) (before after : List ℕ) → o ≡ refused n p → Appends o (refused n p) used before after
appends_not n p used before after e = record { says = rw e refl; holds = λ j q. clash (cc) }

-- first this, then that
pub append_then : (o : Answer (List ℕ)) (k : Answer (List ℕ)) (r : Answer ℕ) (used m : ℕ) (w₀ w₁ w₂ : List ℕ) → Did o used m w₀ w₁ → Appends k r m w₁ w₂ → Appends (o >>= λ l. mapped (λ j. l ++ j) k) r used w₀ w₂
append_then o (done j) r used m w₀ w₁ w₂ d a =
    let e : (o >>= λ l. mapped (λ j. l ++ j) (done j)) ≡ done (d.list ++ j) = rw d.is refl in
    let n : m + length j ≡ used + length (d.list ++ j) = omega (arith, length-append d.list j, d.ends) in
    subst (λ (x : Answer ℕ). Appends (o >>= λ l. mapped (λ j. l ++ j) (done j)) x used w₀ w₂) (sym a.says)
    (appends (d.list ++ j) e n (a.holds j refl ∙ ap (λ (l : List ℕ). l ++ j) d.stands ∙ append_assoc (take used w₀) d.list j))
append_then o (refused n p) r used m w₀ w₁ w₂ d a = rw a.says (appends_not n p used w₀ w₂ (rw d.is refl))

pub append_none : (used : ℕ) (w : List ℕ) → Appends (done []) (done used) used w w
append_none used w = appends [] refl (omega arith) (sym (append-nil (take used w)))

-- ---- how long and how high what is resolved is

module _ (means : Scope → Name → Answer ℕ) (sc : Scope) where
  any : (a : Answer ℕ) → Follows (λ (n : ℕ). n) (λ n. Unit {0}) a a
  any (done n) = has tt refl
  any (refused n p) = has_not refl

  mutual
    unfolding resolved_expr flat size height level

    pub expr_sized : (e : Expr Name) → Follows (λ (d : Expr ℕ). d) (λ d. (length (flat d) ≡ 3 * size e) × (height d ≡ level e)) (resolved_expr means sc e) (resolved_expr means sc e)
    expr_sized (reference x) = follow_by reference reference (any (means sc x)) (λ n g. ((refl, refl), refl))
    expr_sized (andor t) = follow_by andor andor (terms_sized t) (λ u g. ((omega arith, omega arith), refl))
    expr_sized («and» t) = follow_by «and» «and» (terms_sized t) (λ u g. ((omega arith, omega arith), refl))
    expr_sized (oneof t) = follow_by oneof oneof (terms_sized t) (λ u g. ((omega arith, omega arith), refl))

    pub terms_sized : (t : Terms Name) → Follows (λ (u : Terms ℕ). u) (λ u. (length (flats u) ≡ 3 * sizes t) × (heights u ≡ levels t)) (resolved_terms means sc t) (resolved_terms means sc t)
    terms_sized end = has (refl, refl) refl
    terms_sized (e then t) =
        follow_bind (λ d. mapped (λ u. d then u) (resolved_terms means sc t)) (expr_sized e)
        (λ d g. follow_by (λ u. d then u) (λ u. d then u) (terms_sized t) (λ u h. ((omega (arith, length-append (flat d) (flats u)), rw (g.1, h.1) refl), refl)))

-- ---- terms

module _ (rd : Reading) (xs : List Schema) (w : List ℕ) where
  pub expr_length : (e : Expr Name) (l : List ℕ) → expr_numbers rd xs w e ≡ done l → length l ≡ 3 * size e
  unfolding expr_numbers
  expr_length e l q = by (expr_sized (number_meant rd xs) (schema_scope w) e) q
    where
      by : {a b : Answer (Expr ℕ)} → Follows (λ (d : Expr ℕ). d) (λ d. (length (flat d) ≡ 3 * size e) × (height d ≡ level e)) a b → mapped flat a ≡ done l → length l ≡ 3 * size e
      by (has {g = d} g z) k = let y : flat d ≡ l = cc in rw (← y) g.0
      by (has_not z) k = clash (cc)

  pub terms_length : (t : Terms Name) (l : List ℕ) → terms_numbers rd xs w t ≡ done l → length l ≡ 3 * sizes t
  unfolding terms_numbers
  terms_length t l q = by (terms_sized (number_meant rd xs) (schema_scope w) t) q
    where
      by : {a b : Answer (Terms ℕ)} → Follows (λ (u : Terms ℕ). u) (λ u. (length (flats u) ≡ 3 * sizes t) × (heights u ≡ levels t)) a b → mapped flats a ≡ done l → length l ≡ 3 * sizes t
      by (has {g = u} g z) k = let y : flats u ≡ l = cc in rw (← y) g.0
      by (has_not z) k = clash (cc)

  pub terms_first : (e : Expr Name) (t : Terms Name) → terms_numbers rd xs w (e then t) ≡ (expr_numbers rd xs w e >>= λ l. mapped (λ j. l ++ j) (terms_numbers rd xs w t))
  unfolding terms_numbers expr_numbers resolved_terms flats
  terms_first e t = by (resolved_expr (number_meant rd xs) (schema_scope w) e) (resolved_terms (number_meant rd xs) (schema_scope w) t)
    where
      by : (a : Answer (Expr ℕ)) (b : Answer (Terms ℕ)) → mapped flats (a >>= λ d. mapped (λ u. d then u) b) ≡ (mapped flat a >>= λ l. mapped (λ j. l ++ j) (mapped flats b))
      by (done d) (done u) = refl
      by (done d) (refused n p) = refl
      by (refused n p) b = refl
