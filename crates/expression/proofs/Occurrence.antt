-- A scan over the nodes of an expression finds exactly the indices that occur in it; and what one turn of the scan sees.
use mathlib.Core.Path.{◌≡◌, refl, sym, ap, ◌∙◌}
use mathlib.Core.Bool.{Bool, ◌&&◌, ◌||◌, or_assoc, or-false}
use mathlib.Core.List.{List, [], ◌∷◌, ◌++◌, append_assoc, append-nil}
use Prim.Native.Nat.{ℕ, ◌+◌, ◌≤◌, ◌<◌}
use native.Mathlib.Numerals.{add-one, add-two}
use native.Mathlib.Omega.{arith}
use lib.Dec.{eqb}
use lib.ListN.{length, take, drop, get_or, set}
use lib.Seq.{sets-eq}
use Rattle.std.specs.List.{list_any}
use Rattle.std.specs.Slice.Iter.{chunks_exact_rest, chunks_exact_size, chunks_exact_steps}
use Rattle.std.proofs.lemmas.Iterator.{YieldsList}
use Rattle.std.proofs.lemmas.Iterator.Splits.{YieldsList-from_shown_while}
use Rattle.expression.specs.MeaningExpression.{Expr, reference, andor, «and», oneof, Terms, end, ◌then◌, is_in, is_in_some}
use Rattle.expression.specs.MirrorNodes.{flat, flats, scan}

mutual
  unfolding scan is_in flat

  scan_node : (i : ℕ) (e : Expr ℕ) (r : List ℕ) → scan i (flat e ++ r) ≡ is_in eqb i e || scan i r
  scan_node i (reference n) r = refl
  scan_node i (andor t) r = scan_terms i t r
  scan_node i («and» t) r = scan_terms i t r
  scan_node i (oneof t) r = scan_terms i t r

  scan_terms : (i : ℕ) (t : Terms ℕ) (r : List ℕ) → scan i (flats t ++ r) ≡ is_in_some eqb i t || scan i r
  scan_terms i end r = refl
  scan_terms i (e then t) r =
      rw append_assoc (scan_node i e (flats t ++ r) ∙ rw (scan_terms i t r, or_assoc))

pub scan_flat : (i : ℕ) (e : Expr ℕ) → scan i (flat e) ≡ is_in eqb i e
unfolding scan
scan_flat i e = rw (← append-nil (flat e)) (scan_node i e [] ∙ or-false (is_in eqb i e))

-- ---- the nodes of a slice, three numbers each
pub triples : List ℕ → List (List ℕ)
triples (a ∷ b ∷ c ∷ l) = (a ∷ b ∷ c ∷ []) ∷ triples l
triples (a ∷ b ∷ []) = []
triples (a ∷ []) = []
triples [] = []

-- a node is a reference to the index
abbrev pub names : ℕ → List ℕ → Bool
names i node = eqb (get_or node 0 0) 0 && eqb (get_or node 1 0) i

scan_triples : (i : ℕ) (l : List ℕ) → scan i l ≡ list_any (names i) (triples l)
unfolding scan triples
scan_triples i [] = refl
scan_triples i (a ∷ []) = refl
scan_triples i (a ∷ b ∷ []) = refl
scan_triples i (a ∷ b ∷ c ∷ l) = rw (scan_triples i l)

triples_first : (x r : List ℕ) → length x ≡ 3 → triples (x ++ r) ≡ x ∷ triples r
unfolding triples
triples_first (a ∷ b ∷ c ∷ []) r h = refl
triples_first (a ∷ b ∷ c ∷ d ∷ x) r h = absurd (omega arith)
triples_first (a ∷ b ∷ []) r h = absurd (omega arith)
triples_first (a ∷ []) r h = absurd (omega arith)
triples_first [] r h = absurd (omega arith)

triples_none : (l : List ℕ) → length l < 3 → length (triples l) ≡ 0
unfolding triples
triples_none (a ∷ b ∷ c ∷ l) h = absurd (omega arith)
triples_none (a ∷ b ∷ []) h = refl
triples_none (a ∷ []) h = refl
triples_none [] h = refl

-- they are the chunks of three
pub chunks_are : (s : _) (l : List ℕ) → chunks_exact_rest s ≡ l → chunks_exact_size s ≡ 3 → YieldsList (chunks_exact_steps {A = ℕ}) (λ x. x.now) s (triples l)
chunks_are s l e h =
    rw (← e) (YieldsList-from_shown_while (chunks_exact_steps {A = ℕ}) (λ x. x.now) (λ t. triples (chunks_exact_rest t)) (λ t. chunks_exact_size t ≡ 3)
    (λ t u k g. triples_none (chunks_exact_rest t) (omega arith))
    (λ t x u k g. (g.0 ∙ k, ap triples g.1.0 ∙ triples_first x.now (chunks_exact_rest u) (g.1.1 ∙ k)))
    s h)

pub scan_is : (i : ℕ) (l : List ℕ) (b : Bool) → b ≡ list_any (names i) (triples l) → b ≡ scan i l
scan_is i l b e = e ∙ sym (scan_triples i l)

-- ---- a node that is put
pub put_three : (l : List ℕ) (n a b c : ℕ) → n + 3 ≤ length l → set (set (set l n a) (n + 1) b) (n + 2) c ≡ take n l ++ ((a ∷ b ∷ c ∷ []) ++ drop (n + 3) l)
put_three l n a b c h = rw (add-one, add-two) (sets-eq (a ∷ b ∷ c ∷ []) l n h ∙ append_assoc (take n l) (a ∷ b ∷ c ∷ []) (drop (n + 3) l))
