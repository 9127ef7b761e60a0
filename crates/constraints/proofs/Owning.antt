-- The questions over the records of gathering: who owns one, and the owners in order.
use mathlib.Core.Path.{◌≡◌, refl, sym, ap, ◌∙◌}
use mathlib.Core.List.{List, [], ◌∷◌, ◌++◌, map}
use mathlib.Core.Bool.{Bool, true, false, cond}
use mathlib.Core.Option.{Option, none, some}
use Prim.Native.Nat.{ℕ, zero, suc}
use lib.Dec.{eqb}
use lib.ListN.{get_elem?}
use Rattle.refusal.specs.MeaningAnswer.{Answer, done, refused, mapped, ◌>>=◌}
use Rattle.grammar.specs.MeaningReading.{Reading}
use Rattle.grammar.proofs.Choosing.{clash}
use Rattle.schemas.specs.MeaningSchemas.{Schema}
use Rattle.scope.specs.MeaningScope.{Path, same_path}
use Rattle.expression.specs.MeaningExpression.{Expr, is_in_some}
use Rattle.expression.specs.MeaningNumbers.{or17}
use Rattle.declarations.specs.MeaningNamespace.{Declaration, answered, declaration_for}
use Rattle.merging.specs.MeaningMerging.{Combined, Pair, find}
use Rattle.merging.specs.MeaningItems.{exprs_of, subs_of, all_factors, fresh, combine, combined_of}
use Rattle.merging.specs.MeaningNumbering.{map_expr}
use Rattle.merging.specs.MeaningFirsts.{firsts}
use Rattle.merging.specs.MirrorStream.{paired, is_found}
use Rattle.records.specs.MeaningResolving.{number_for}
use Rattle.gathering.specs.MeaningCombined.{supertypes, combined, numbered_expr}
use Rattle.gathering.specs.MirrorGathering.{streams}
use Rattle.gathering.proofs.Numbering.{numbered_expr_law, no_expr}
use Rattle.supertypes.proofs.Owning.{Alike, both_done, both_refused, alike, owners_both}
use Rattle.constraints.specs.MeaningQuestions.{is_some, supertype_question, ask_supertype}
use Rattle.supertypes.specs.MirrorStanding.{Both, owned_in, owner_in}

-- ---- some record has the owner exactly where it has an expression

find_on : (k : ℕ) (cs ds : List (Combined ℕ)) → exprs_of eqb k cs ≡ [] → find eqb k (cs ++ ds) ≡ find eqb k ds
unfolding exprs_of find
find_on k [] ds e = refl
find_on k (c ∷ cs) ds e = by (eqb c.owner k) e (λ z. find_on k cs ds z)
  where
    by : (b : Bool) → cond b (c.expr ∷ exprs_of eqb k cs) (exprs_of eqb k cs) ≡ [] → (exprs_of eqb k cs ≡ [] → find eqb k (cs ++ ds) ≡ find eqb k ds) → cond b (some c.expr) (find eqb k (cs ++ ds)) ≡ find eqb k ds
    by true e go = clash (cc)
    by false e go = go e

find_here : (k : ℕ) (cs ds : List (Combined ℕ)) (d : Expr ℕ) (es : List (Expr ℕ)) → exprs_of eqb k cs ≡ d ∷ es → is_found (find eqb k (cs ++ ds)) ≡ true
unfolding exprs_of find is_found
find_here k [] ds d es e = clash (cc)
find_here k (c ∷ cs) ds d es e = by (eqb c.owner k) e (λ z. find_here k cs ds d es z)
  where
    by : (b : Bool) → cond b (c.expr ∷ exprs_of eqb k cs) (exprs_of eqb k cs) ≡ d ∷ es → (exprs_of eqb k cs ≡ d ∷ es → is_found (find eqb k (cs ++ ds)) ≡ true) → is_found (cond b (some c.expr) (find eqb k (cs ++ ds))) ≡ true
    by true e go = refl
    by false e go = go e

-- no subtype is left out of one that has no expression
none_in : (xs : List ℕ) → fresh eqb [] xs ≡ xs
unfolding fresh all_factors is_in_some
none_in [] = refl
none_in (x ∷ xs) = ap (λ (l : List ℕ). x ∷ l) (none_in xs)

find_pairs : (k : ℕ) (ps : List (Pair ℕ)) → is_found (find eqb k (map paired ps)) ≡ is_found (combine [] (subs_of eqb k ps))
unfolding find subs_of is_found combine
find_pairs k [] = refl
find_pairs k (x ∷ ps) = by (eqb x.super k) (find_pairs k ps)
  where
    by : (b : Bool) → is_found (find eqb k (map paired ps)) ≡ is_found (combine [] (subs_of eqb k ps))
        → is_found (cond b (some (paired x).expr) (find eqb k (map paired ps))) ≡ is_found (combine [] (cond b (x.sub ∷ subs_of eqb k ps) (subs_of eqb k ps)))
    by true e = refl
    by false e = e

combine_some : (d : Expr ℕ) (es : List (Expr ℕ)) (xs : List ℕ) → is_found (combine (d ∷ es) xs) ≡ true
unfolding combine is_found
combine_some d [] [] = refl
combine_some d (f ∷ es) [] = refl
combine_some d [] (x ∷ xs) = refl
combine_some d (f ∷ es) (x ∷ xs) = refl

pub owned : (k : ℕ) (cs : List (Combined ℕ)) (ps : List (Pair ℕ)) → is_found (find eqb k (cs ++ map paired ps)) ≡ is_found (combined_of eqb k cs ps)
unfolding combined_of
owned k cs ps = by (exprs_of eqb k cs) refl
  where
    by : (es : List (Expr ℕ)) → exprs_of eqb k cs ≡ es → is_found (find eqb k (cs ++ map paired ps)) ≡ is_found (combine es (fresh eqb es (subs_of eqb k ps)))
    by [] e = ap is_found (find_on k cs (map paired ps) e) ∙ find_pairs k ps ∙ ap (λ (l : List ℕ). is_found (combine [] l)) (sym (none_in (subs_of eqb k ps)))
    by (d ∷ es) e = find_here k cs (map paired ps) d es e ∙ sym (combine_some d es (fresh eqb (d ∷ es) (subs_of eqb k ps)))

-- ---- `is_supertype`

-- an expression is found or not, whatever its names
found_not : (f : Path → ℕ) (o : Option (Expr Path)) → mapped (map_expr f) (answered 16 0 o) ≡ refused 16 0 → is_some o ≡ false
unfolding answered
found_not f none e = refl
found_not f (some d) e = clash (cc)

found_as : (f : Path → ℕ) (o : Option (Expr Path)) (m : Option (Expr ℕ)) → mapped (map_expr f) (answered 16 0 o) ≡ answered 16 0 m → is_some o ≡ is_found m
unfolding answered is_found
found_as f none none e = refl
found_as f (some d) (some c) e = refl
found_as f none (some c) e = clash (cc)
found_as f (some d) none e = clash (cc)

-- ---- the owners in order

at_mapped : {A B : Type 0} (f : A → B) (g : List A) (k : ℕ) → mapped f (or17 (get_elem? g k)) ≡ or17 (get_elem? (map f g) k)
at_mapped f [] zero = refl
at_mapped f [] (suc k) = refl
at_mapped f (x ∷ g) zero = refl
at_mapped f (x ∷ g) (suc k) = at_mapped f g k

module _ (rd : Reading) (xs : List Schema) where
  pub supertype_by : (p : Path) → supertype_question rd xs p ≡ (streams rd xs >>= λ b. done (owned_in (declaration_for rd xs p) b))
  unfolding supertype_question owned_in numbered_expr combined
  supertype_by p = by (alike rd xs)
    where
      found : (g : List (Combined Path)) (b : Both) → supertypes rd xs ≡ done g → streams rd xs ≡ done b → (o : Option Declaration) → declaration_for rd xs p ≡ o → is_some (find (same_path rd) p g) ≡ owned_in o b
      found g b i j none k = found_not (number_for rd xs) (find (same_path rd) p g) (rw (i, j) at (no_expr rd xs p k))
      found g b i j (some d) k = found_as (number_for rd xs) (find (same_path rd) p g) (combined_of eqb d.number b.0 b.1) (rw (i, j) at (numbered_expr_law rd xs p d k)) ∙ sym (owned d.number b.0 b.1)

      by : {a : Answer (List (Combined Path))} {s : Answer Both} → Alike rd xs a s → mapped (λ g. is_some (find (same_path rd) p g)) a ≡ (s >>= λ b. done (owned_in (declaration_for rd xs p) b))
      by (both_done {g = g} {b = b} i j e) = ap done (found g b i j (declaration_for rd xs p) refl)
      by both_refused = refl

  pub owner_by : (k : ℕ) → ask_supertype rd xs k ≡ (streams rd xs >>= λ b. owner_in k b)
  unfolding ask_supertype owner_in
  owner_by k = by (alike rd xs)
    where
      by : {a : Answer (List (Combined Path))} {s : Answer Both} → Alike rd xs a s
          → (a >>= λ g. mapped (λ c. number_for rd xs c.owner) (or17 (get_elem? g k))) ≡ (s >>= λ b. or17 (get_elem? (firsts eqb [] (map (λ (c : Combined ℕ). c.owner) (b.0 ++ map paired b.1))) k))
      by (both_done {g = g} {b = b} i j e) = at_mapped (λ c. number_for rd xs c.owner) g k ∙ ap (λ (l : List ℕ). or17 (get_elem? l k)) (e ∙ ap (firsts eqb []) (sym (owners_both rd xs b.0 b.1)))
      by both_refused = refl
