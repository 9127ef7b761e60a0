-- Factors: how they are put together, what occurs in them, and that merging one item after the other puts them together.
use mathlib.Core.Path.{◌≡◌, refl, sym, ◌∙◌}
use mathlib.Core.Logic.{◌⊎◌, inl, inr}
use mathlib.Core.List.{List, [], ◌∷◌}
use mathlib.Core.Bool.{Bool, true, false, ◌||◌, or_assoc, or-false}
use mathlib.Core.Option.{Option, none, some}
use Prim.Native.Nat.{ℕ}
use native.Mathlib.Omega.{arith}
use Rattle.expression.specs.MeaningExpression.{Expr, reference, andor, «and», oneof, Terms, end, ◌then◌, append, is_in, is_in_some, andor_mut, factors}
use Rattle.merging.specs.MeaningMerging.{references, left_over}
use Rattle.merging.specs.MeaningItems.{all_factors, fresh, combine}

pub both : (b : Bool) → (b ≡ true) ⊎ (b ≡ false)
both true = inl refl
both false = inr refl

pub not_both : {A : Type 0} (b : Bool) → b ≡ true → b ≡ false → A
not_both b p q = let z : ◌≡◌ {A = ℕ} 0 1 = cc in absurd (omega arith)

module _ {N : Type 0} where
  pub append_end : (t : Terms N) → append t end ≡ t
  append_end end = refl
  append_end (e then t) = rw (append_end t)

  append_twice : (t u v : Terms N) → append (append t u) v ≡ append t (append u v)
  append_twice end u v = refl
  append_twice (e then t) u v = rw (append_twice t u v)

  -- merging puts factors together
  pub merged_factors : (d e : Expr N) → andor_mut d e ≡ andor (append (factors d) (factors e))
  unfolding andor_mut
  merged_factors d e = refl

  pub all_factors_append : (es : List (Expr N)) (t : Terms N) → all_factors es t ≡ append (all_factors es end) t
  unfolding all_factors
  all_factors_append [] t = refl
  all_factors_append (e ∷ es) t = rw (all_factors_append es t) (sym (append_twice (factors e) (all_factors es end) t))

  -- what occurs
  module _ (same : N → N → Bool) (x : N) where
    pub in_append : (t u : Terms N) → is_in_some same x (append t u) ≡ is_in_some same x t || is_in_some same x u
    unfolding is_in
    in_append end u = refl
    in_append (e then t) u = rw (in_append t u) (sym (or_assoc (is_in same x e) (is_in_some same x t) (is_in_some same x u)))

    pub in_factors : (e : Expr N) → is_in_some same x (factors e) ≡ is_in same x e
    unfolding is_in factors
    in_factors (reference n) = or-false (same n x)
    in_factors (andor t) = refl
    in_factors («and» t) = or-false (is_in_some same x t)
    in_factors (oneof t) = or-false (is_in_some same x t)

  -- one item is merged after the other
  unfoldable pub merge_all : Option (Expr N) → List (Expr N) → Option (Expr N)
  merge_all o [] = o
  merge_all none (e ∷ es) = merge_all (some e) es
  merge_all (some d) (e ∷ es) = merge_all (some (andor_mut d e)) es

  merge_andor : (t : Terms N) (es : List (Expr N)) → merge_all (some (andor t)) es ≡ some (andor (append t (all_factors es end)))
  unfolding merge_all all_factors factors
  merge_andor t [] = rw (append_end t)
  merge_andor t (e ∷ es) = rw (merged_factors (andor t) e) (merge_andor (append t (factors e)) es ∙ rw (append_twice t (factors e) (all_factors es end)))

  merge_two : (d e : Expr N) (es : List (Expr N)) → merge_all (some d) (e ∷ es) ≡ some (andor (all_factors (d ∷ e ∷ es) end))
  unfolding merge_all all_factors
  merge_two d e es = rw (merged_factors d e) (merge_andor (append (factors d) (factors e)) es ∙ rw (append_twice (factors d) (factors e) (all_factors es end)))

  -- the left-over subtypes, added to what the items made
  unfoldable pub with_left : Expr N → List N → Expr N
  with_left d [] = d
  with_left d (x ∷ xs) = andor_mut d (andor (references (x ∷ xs)))

  unfoldable pub with_subs : (N → N → Bool) → Option (Expr N) → List N → Option (Expr N)
  with_subs same none [] = none
  with_subs same none (x ∷ xs) = some (andor (references (x ∷ xs)))
  with_subs same (some d) xs = some (with_left d (left_over same d xs))

  -- what the items made: its factors are all of theirs
  pub record Made (es : List (Expr N)) : Type 0 where
    pub expr : Expr N
    pub is : merge_all none es ≡ some expr
    pub all : factors expr ≡ all_factors es end
    pub alone : combine es [] ≡ some expr

  andor_factors : (t : Terms N) → factors (andor t) ≡ t
  unfolding factors
  andor_factors t = refl

  pub made : (e : Expr N) (es : List (Expr N)) → Made (e ∷ es)
  unfolding merge_all all_factors combine
  made e [] = record { expr = e; is = refl; all = sym (append_end (factors e)); alone = refl }
  made e (d ∷ es) = record { expr = andor (all_factors (e ∷ d ∷ es) end); is = merge_two e d es; all = andor_factors (all_factors (e ∷ d ∷ es) end); alone = refl }

  left_fresh : (same : N → N → Bool) (d : Expr N) (es : List (Expr N)) → factors d ≡ all_factors es end → (xs : List N) → left_over same d xs ≡ fresh same es xs
  unfolding left_over fresh
  left_fresh same d es f [] = refl
  left_fresh same d es f (x ∷ xs) = rw (← f, in_factors same x d, left_fresh same d es f xs)

  fresh_all : (same : N → N → Bool) (xs : List N) → fresh same [] xs ≡ xs
  unfolding fresh all_factors is_in
  fresh_all same [] = refl
  fresh_all same (x ∷ xs) = rw (fresh_all same xs)

  joined : (d e : Expr N) (es : List (Expr N)) → factors d ≡ all_factors (e ∷ es) end → combine (e ∷ es) [] ≡ some d → (ys : List N) → some (with_left d ys) ≡ combine (e ∷ es) ys
  unfolding with_left combine
  joined d e es f a [] = sym a
  joined d e es f a (y ∷ ys) = rw (merged_factors d (andor (references (y ∷ ys))), f, andor_factors (references (y ∷ ys)), ← all_factors_append (e ∷ es) (references (y ∷ ys)))

  pub subs_combine : (same : N → N → Bool) (es : List (Expr N)) (xs : List N) → with_subs same (merge_all none es) xs ≡ combine es (fresh same es xs)
  unfolding with_subs merge_all combine fresh all_factors
  subs_combine same [] [] = refl
  subs_combine same [] (x ∷ xs) = rw (fresh_all same (x ∷ xs))
  subs_combine same (e ∷ es) xs =
      let m = made e es in
      rw (m.is, left_fresh same m.expr (e ∷ es) m.all xs) (joined m.expr e es m.all m.alone (fresh same (e ∷ es) xs))
