-- Combined expressions over numbers: what the records of numbers give their owners.
use mathlib.Core.Path.{◌≡◌, refl, sym, ap, ◌∙◌, subst}
use mathlib.Core.List.{List, [], ◌∷◌, ◌++◌, map}
use mathlib.Core.Bool.{true}
use mathlib.Core.Option.{Option, none, some}
use Prim.Native.Nat.{ℕ}
use lib.Dec.{eqb}
use Rattle.refusal.specs.MeaningAnswer.{Answer, done, refused, mapped, ◌>>=◌}
use Rattle.complex_entity.specs.MeaningRising.{◌∈◌, here, there}
use Rattle.grammar.specs.MeaningReading.{Reading}
use Rattle.grammar.proofs.Choosing.{clash, either}
use Rattle.schemas.specs.MeaningSchemas.{Schema}
use Rattle.scope.specs.MeaningScope.{Path, same_path}
use Rattle.expression.specs.MeaningExpression.{Expr, Terms}
use Rattle.expression.specs.MeaningExpression.Expr.{reference, andor, «and», oneof}
use Rattle.expression.specs.MeaningExpression.Terms.{end, ◌then◌}
use Rattle.declarations.specs.MeaningNamespace.{Declaration, answered, declaration_for}
use Rattle.declarations.proofs.Proved.{get_lowest, get_finds}
use Rattle.merging.specs.MeaningMerging.{Combined, Pair, find}
use Rattle.merging.specs.MeaningItems.{gathered, combined_of}
use Rattle.merging.specs.MeaningNumbering.{map_expr}
use Rattle.merging.specs.MeaningRenaming.{map_combined, map_pair, map_found, GoodExpr, GoodTerms, GoodCombined, GoodPair, Each}
use Rattle.merging.specs.MeaningFirsts.{firsts}
use Rattle.merging.proofs.Renaming.{good_gathered, mapped_gather, mapped_find}
use Rattle.merging.proofs.Proved.{projected, owners_in_order}
use Rattle.records.specs.MeaningResolving.{path_for, own_path, number_for}
use Rattle.gathering.specs.MeaningCombined.{supertypes, combined, numbered_expr}
use Rattle.records.specs.MirrorRecords.{number_meant, own_number}
use Rattle.gathering.specs.MirrorGathering.{streams_of, streams}
use Rattle.gathering.specs.Claims.{IsDeclared, Every, a_name, in_andor, in_and, in_oneof, EveryIn, none as no-terms, both as and-rest}
use Rattle.records.proofs.Following.{Follows, has, has_not}
use Rattle.gathering.proofs.Keeping.{gathers}
use Rattle.gathering.proofs.Renaming.{streams_renamed}
use Rattle.gathering.proofs.Declaring.{by_number, by_path, own_declared, meant_declared, number_is, told_apart}

module _ (rd : Reading) (xs : List Schema) where
  abbrev Both : Type 0
  Both = List (Combined Path) × List (Pair Path)

  abbrev number : Path → ℕ
  number = number_for rd xs

  abbrev Good : Path → Type 0
  Good = IsDeclared rd xs

  -- the records over paths
  abbrev paths : Answer Both
  paths = streams_of (same_path rd) (path_for rd xs) own_path rd xs

  abbrev numbers : Both → List (Combined ℕ) × List (Pair ℕ)
  numbers b = (map (map_combined number) b.0, map (map_pair number) b.1)

  abbrev AllGood : Both → Type 0
  AllGood b = Each (GoodCombined Good) b.0 × Each (GoodPair Good) b.1

  same_streams : Follows numbers AllGood paths (streams rd xs)
  unfolding streams own_number
  same_streams =
      streams_renamed number (same_path rd) eqb Good (told_apart rd xs) (path_for rd xs) (number_meant rd xs) own_path (own_number rd xs)
      (meant_declared rd xs) (λ x e. refl) rd xs (own_declared rd xs)

  given_by : supertypes rd xs ≡ mapped (λ (b : Both). gathered (same_path rd) b.0 b.1) paths
  unfolding supertypes
  given_by = gathers (same_path rd) (by_path rd) (path_for rd xs) own_path rd xs

  -- what is combined over paths and then numbered, and what is combined over numbers
  module _ (b : Both) (G : AllGood b) where
    abbrev all : List (Combined Path)
    all = gathered (same_path rd) b.0 b.1

    all_good : Each (GoodCombined Good) all
    all_good = good_gathered Good (same_path rd) b.0 b.1 G.0 G.1

    all_numbered : gathered eqb (numbers b).0 (numbers b).1 ≡ map (map_combined number) all
    all_numbered = mapped_gather number (same_path rd) eqb Good (told_apart rd xs) b.0 b.1 G.0 G.1

    combined_number : (p : Path) (d : Declaration) → declaration_for rd xs p ≡ some d → combined_of eqb d.number (numbers b).0 (numbers b).1 ≡ map_found number (find (same_path rd) p all)
    combined_number p d q =
        sym (projected ℕ eqb by_number d.number (numbers b).0 (numbers b).1)
        ∙ ap (find eqb d.number) all_numbered
        ∙ ap (λ (k : ℕ). find eqb k (map (map_combined number) all)) (sym (number_is rd xs p d q))
        ∙ mapped_find number (same_path rd) eqb Good (told_apart rd xs) p all (d, q) all_good

    owners_numbered : map (λ (c : Combined Path). number c.owner) all ≡ firsts eqb [] (map (λ (c : Combined ℕ). c.owner) (numbers b).0 ++ map (λ (x : Pair ℕ). x.super) (numbers b).1)
    owners_numbered = sym (twice all) ∙ ap (map (λ (c : Combined ℕ). c.owner)) (sym all_numbered) ∙ owners_in_order ℕ eqb by_number (numbers b).0 (numbers b).1
      where
        twice : (g : List (Combined Path)) → map (λ (c : Combined ℕ). c.owner) (map (map_combined number) g) ≡ map (λ (c : Combined Path). number c.owner) g
        twice [] = refl
        twice (c ∷ g) = ap (λ (l : List ℕ). number c.owner ∷ l) (twice g)

  told : (o : Option (Expr Path)) → mapped (map_expr number) (answered 16 0 o) ≡ answered 16 0 (map_found number o)
  unfolding answered
  told none = refl
  told (some e) = refl

  -- ---- a declared path: what the records give its number
  pub numbered_expr_law : (p : Path) (d : Declaration) → declaration_for rd xs p ≡ some d
      → numbered_expr rd xs p ≡ (streams rd xs >>= λ both. answered 16 0 (combined_of eqb d.number both.0 both.1))
  unfolding numbered_expr combined
  numbered_expr_law p d q = rw given_by (by same_streams)
    where
      by : {a : Answer Both} {s : Answer (List (Combined ℕ) × List (Pair ℕ))} → Follows numbers AllGood a s
          → mapped (map_expr number) (mapped (λ (b : Both). gathered (same_path rd) b.0 b.1) a >>= λ g. answered 16 0 (find (same_path rd) p g)) ≡ (s >>= λ both. answered 16 0 (combined_of eqb d.number both.0 both.1))
      by (has {g = b} G e) = rw e (told (find (same_path rd) p (all b G)) ∙ ap (answered 16 0) (sym (combined_number b G p d q)))
      by (has_not e) = rw e refl

  -- ---- a path that is not declared has no expression
  undeclared : (p : Path) → declaration_for rd xs p ≡ none → (q : Path) → Good q → same_path rd q p ≡ true → ◌≡◌ {A = ℕ} 0 1
  undeclared p n q Q e =
      let l = get_lowest rd xs q Q.0 Q.1 in
      let f = get_finds rd xs p Q.0 l.0 ((by_path rd).transitive Q.0.path q p l.1 e) in
      clash (cc f.1)

  not_found : (p : Path) → declaration_for rd xs p ≡ none → (g : List (Combined Path)) → Each (GoodCombined Good) g → find (same_path rd) p g ≡ none
  unfolding find Each
  not_found p n [] G = refl
  not_found p n (c ∷ g) G = either (λ (o : Option (Expr Path)). o ≡ none) (same_path rd c.owner p) (some c.expr) (find (same_path rd) p g) (λ e. clash (undeclared p n c.owner G.0.0 e)) (λ e. not_found p n g G.1)

  pub no_expr : (p : Path) → declaration_for rd xs p ≡ none → numbered_expr rd xs p ≡ (streams rd xs >>= λ both. refused 16 0)
  unfolding numbered_expr combined answered
  no_expr p n = rw given_by (by same_streams)
    where
      by : {a : Answer Both} {s : Answer (List (Combined ℕ) × List (Pair ℕ))} → Follows numbers AllGood a s
          → mapped (map_expr number) (mapped (λ (b : Both). gathered (same_path rd) b.0 b.1) a >>= λ g. answered 16 0 (find (same_path rd) p g)) ≡ (s >>= λ both. refused 16 0)
      by (has {g = b} G e) = rw (e, not_found p n (all b G) (all_good b G)) refl
      by (has_not e) = rw e refl

  -- ---- the supertypes, in order of first entry
  pub numbered_owners : mapped (map (λ (c : Combined Path). number_for rd xs c.owner)) (supertypes rd xs)
      ≡ mapped (λ (both : List (Combined ℕ) × List (Pair ℕ)). firsts eqb [] (map (λ c. c.owner) both.0 ++ map (λ x. x.super) both.1)) (streams rd xs)
  numbered_owners = rw given_by (by same_streams)
    where
      by : {a : Answer Both} {s : Answer (List (Combined ℕ) × List (Pair ℕ))} → Follows numbers AllGood a s
          → mapped (map (λ (c : Combined Path). number_for rd xs c.owner)) (mapped (λ (b : Both). gathered (same_path rd) b.0 b.1) a)
          ≡ mapped (λ (both : List (Combined ℕ) × List (Pair ℕ)). firsts eqb [] (map (λ c. c.owner) both.0 ++ map (λ x. x.super) both.1)) s
      by (has {g = b} G e) = rw e (ap done (owners_numbered b G))
      by (has_not e) = rw e refl

  -- ---- all is declared
  good_in : (g : List (Combined Path)) → Each (GoodCombined Good) g → (c : Combined Path) → c ∈ g → GoodCombined Good c
  unfolding Each
  good_in [] G c x'' = elim x'' [ ]
  good_in (b ∷ g) G c (here e) = subst (GoodCombined Good) (sym e) G.0
  good_in (b ∷ g) G c (there m) = good_in g G.1 c m

  mutual
    unfolding GoodExpr

    every : (e : Expr Path) → GoodExpr Good e → Every Good e
    every (reference n) G = a_name G
    every (andor t) G = in_andor (every_in t G)
    every («and» t) G = in_and (every_in t G)
    every (oneof t) G = in_oneof (every_in t G)

    every_in : (t : Terms Path) → GoodTerms Good t → EveryIn Good t
    every_in end G = no-terms
    every_in (e then t) G = and-rest (every e G.0) (every_in t G.1)

  pub declared : (g : List (Combined Path)) → supertypes rd xs ≡ done g → (c : Combined Path) → c ∈ g → IsDeclared rd xs c.owner × Every (IsDeclared rd xs) c.expr
  declared g q c m = by same_streams (sym given_by ∙ q)
    where
      by : {a : Answer Both} {s : Answer (List (Combined ℕ) × List (Pair ℕ))} → Follows numbers AllGood a s → mapped (λ (b : Both). gathered (same_path rd) b.0 b.1) a ≡ done g
          → IsDeclared rd xs c.owner × Every (IsDeclared rd xs) c.expr
      by (has {g = b} G e) h = let z : all b G ≡ g = cc in let k = good_in g (subst (Each (GoodCombined Good)) z (all_good b G)) c m in (k.0, every c.expr k.1)
      by (has_not e) h = clash (cc)
