-- Supertypes and the records of gathering: their owners and their lists.
use mathlib.Core.Path.{◌≡◌, refl, ap}
use mathlib.Core.List.{List, [], ◌∷◌, ◌++◌, map}
use mathlib.Core.Option.{Option, none, some}
use Prim.Native.Nat.{ℕ}
use lib.Dec.{eqb}
use Rattle.refusal.specs.MeaningAnswer.{Answer, done, refused, mapped, ◌>>=◌}
use Rattle.grammar.specs.MeaningReading.{Reading}
use Rattle.grammar.proofs.Choosing.{clash}
use Rattle.schemas.specs.MeaningSchemas.{Schema}
use Rattle.scope.specs.MeaningScope.{Path}
use Rattle.expression.specs.MeaningExpression.{Expr, eval}
use Rattle.declarations.specs.MeaningNamespace.{Declaration, answered, declaration_for}
use Rattle.merging.specs.MeaningMerging.{Combined, Pair}
use Rattle.merging.specs.MeaningItems.{combined_of}
use Rattle.merging.specs.MeaningFirsts.{firsts}
use Rattle.merging.specs.MirrorStream.{paired}
use Rattle.records.specs.MeaningResolving.{number_for}
use Rattle.gathering.specs.MeaningCombined.{supertypes, numbered_expr, list_of}
use Rattle.gathering.specs.MirrorGathering.{streams}
use Rattle.gathering.proofs.Numbering.{numbered_expr_law, no_expr, numbered_owners}
use Rattle.supertypes.specs.MirrorStanding.{Both, list_by, list_in}

module _ (rd : Reading) (xs : List Schema) where
  -- supertypes and records are refused alike
  pub data Alike : Answer (List (Combined Path)) → Answer Both → Type 0 where
    both_done : {g : List (Combined Path)} {b : Both} → supertypes rd xs ≡ done g → streams rd xs ≡ done b
        → map (λ (c : Combined Path). number_for rd xs c.owner) g ≡ firsts eqb [] (map (λ (c : Combined ℕ). c.owner) b.0 ++ map (λ (x : Pair ℕ). x.super) b.1) → Alike (done g) (done b)
    both_refused : {n p : ℕ} → Alike (refused n p) (refused n p)

  pub alike : Alike (supertypes rd xs) (streams rd xs)
  alike = by (supertypes rd xs) (streams rd xs) refl refl (numbered_owners rd xs)
    where
      by : (a : Answer (List (Combined Path))) (s : Answer Both) → supertypes rd xs ≡ a → streams rd xs ≡ s
          → mapped (map (λ (c : Combined Path). number_for rd xs c.owner)) a ≡ mapped (λ (b : Both). firsts eqb [] (map (λ c. c.owner) b.0 ++ map (λ x. x.super) b.1)) s → Alike a s
      by (done g) (done b) i j e = both_done i j (cc)
      by (done g) (refused n p) i j e = clash (cc)
      by (refused n p) (done b) i j e = clash (cc)
      by (refused n p) (refused m q) i j e = let y : n ≡ m = cc in let z : p ≡ q = cc in rw (y, z) both_refused

  -- ---- the list
  pub list_by_law : (p : Path) → list_of rd xs p ≡ (streams rd xs >>= λ b. list_in (declaration_for rd xs p) b)
  unfolding list_of list_in list_by
  list_by_law p = by (declaration_for rd xs p) refl
    where
      after : (s : Answer Both) (k : Both → Answer (Expr ℕ)) → ((s >>= k) >>= eval) ≡ (s >>= λ b. k b >>= eval)
      after (done b) k = refl
      after (refused n m) k = refl

      by : (o : Option Declaration) → declaration_for rd xs p ≡ o → (numbered_expr rd xs p >>= eval) ≡ (streams rd xs >>= λ b. list_in o b)
      by none k = rw (no_expr rd xs p k) (after (streams rd xs) (λ b. refused 16 0))
      by (some d) k = rw (numbered_expr_law rd xs p d k) (after (streams rd xs) (λ b. answered 16 0 (combined_of eqb d.number b.0 b.1)))

  -- ---- the owners of records and of pairs
  pub owners_both : (cs : List (Combined ℕ)) (ps : List (Pair ℕ)) → map (λ (c : Combined ℕ). c.owner) (cs ++ map paired ps) ≡ map (λ (c : Combined ℕ). c.owner) cs ++ map (λ (x : Pair ℕ). x.super) ps
  owners_both [] [] = refl
  owners_both [] (x ∷ ps) = ap (λ (l : List ℕ). x.super ∷ l) (owners_both [] ps)
  owners_both (c ∷ cs) ps = ap (λ (l : List ℕ). c.owner ∷ l) (owners_both cs ps)
