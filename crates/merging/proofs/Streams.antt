-- Records in numbers: they are determined by the numbers, and so is what stands before a place and behind it.
use mathlib.Core.Path.{◌≡◌, refl, sym, ap, ◌∙◌}
use mathlib.Core.List.{List, [], ◌∷◌, ◌++◌, map, append_assoc, append-nil}
use Prim.Native.Nat.{ℕ, ◌+◌}
use native.Mathlib.Omega.{arith}
use lib.ListN.{length, take, drop, length-append}
use lib.Seq.{take_at, drop_at}
use Rattle.expression.specs.MeaningExpression.{Expr, reference}
use Rattle.expression.specs.MirrorNodes.{flat}
use Rattle.expression.proofs.Spans.{flat_one}
use Rattle.merging.specs.MeaningMerging.{Combined, Pair}
use Rattle.merging.specs.MirrorStream.{stream_of, paired, pairs_of, RecordsFrom}

-- ---- the numbers determine the records
abbrev combined : ℕ → Expr ℕ → Combined ℕ
combined n e = record { owner = n; expr = e }

abbrev pair : ℕ → ℕ → Pair ℕ
pair p q = record { super = p; sub = q }

same_record : (c d : Combined ℕ) → c.owner ≡ d.owner → c.expr ≡ d.expr → c ≡ d
same_record c d p q = ap (λ (n : ℕ). combined n c.expr) p ∙ ap (combined d.owner) q

pub stream_injective : (cs ds : List (Combined ℕ)) → stream_of cs ≡ stream_of ds → cs ≡ ds
unfolding stream_of
stream_injective [] [] e = refl
stream_injective [] (d ∷ ds) e = let z : ◌≡◌ {A = ℕ} 0 1 = cc in absurd (omega arith)
stream_injective (c ∷ cs) [] e = let z : ◌≡◌ {A = ℕ} 0 1 = cc in absurd (omega arith)
stream_injective (c ∷ cs) (d ∷ ds) e =
    let i = flat_one c.expr d.expr (stream_of cs) (stream_of ds) (cc) in
    let h : c ≡ d = same_record c d (cc) i.0 in
    let t : cs ≡ ds = stream_injective cs ds i.1 in
    cc

same_pair : (x y : Pair ℕ) → paired x ≡ paired y → x ≡ y
same_pair x y e =
    let s : x.super ≡ y.super = ap (λ (c : Combined ℕ). c.owner) e in
    let r : reference x.sub ≡ reference y.sub = ap (λ (c : Combined ℕ). c.expr) e in
    let b : x.sub ≡ y.sub = cc in
    ap (λ (n : ℕ). pair n x.sub) s ∙ ap (pair y.super) b

mapped_pairs : (xs ys : List (Pair ℕ)) → map paired xs ≡ map paired ys → xs ≡ ys
mapped_pairs [] [] e = refl
mapped_pairs [] (y ∷ ys) e = let z : ◌≡◌ {A = ℕ} 0 1 = cc in absurd (omega arith)
mapped_pairs (x ∷ xs) [] e = let z : ◌≡◌ {A = ℕ} 0 1 = cc in absurd (omega arith)
mapped_pairs (x ∷ xs) (y ∷ ys) e =
    let h : x ≡ y = same_pair x y (cc) in
    let t : xs ≡ ys = mapped_pairs xs ys (cc) in
    cc

pub pairs_injective : (xs ys : List (Pair ℕ)) → pairs_of xs ≡ pairs_of ys → xs ≡ ys
pairs_injective xs ys e = mapped_pairs xs ys (stream_injective (map paired xs) (map paired ys) e)

pub stream_append : (cs ds : List (Combined ℕ)) → stream_of (cs ++ ds) ≡ stream_of cs ++ stream_of ds
unfolding stream_of
stream_append [] ds = refl
stream_append (c ∷ cs) ds = rw (stream_append cs ds) (ap (λ (l : List ℕ). c.owner ∷ l) (sym (append_assoc (flat c.expr) (stream_of cs) (stream_of ds))))

-- pairs behind rules
pub stream_both : (cs : List (Combined ℕ)) (xs : List (Pair ℕ)) → stream_of (cs ++ map paired xs) ≡ stream_of cs ++ pairs_of xs
stream_both cs xs = stream_append cs (map paired xs)

-- ---- the records before a place, and those from it on
unfoldable pub place_start : (l : List ℕ) (cs : List (Combined ℕ)) → l ≡ stream_of cs → RecordsFrom l 0
unfolding stream_of
place_start l cs e = record { passed = []; coming = cs; is = e; place = refl }

module _ {l : List ℕ} {at : ℕ} (w : RecordsFrom l at) where
  parts : l ≡ stream_of w.passed ++ stream_of w.coming
  parts = w.is ∙ stream_append w.passed w.coming

  pub place_front : take at l ≡ stream_of w.passed
  place_front = ap (take at) parts ∙ take_at (stream_of w.passed) (stream_of w.coming) at (sym w.place)

  pub place_rest : drop at l ≡ stream_of w.coming
  place_rest = ap (drop at) parts ∙ drop_at (stream_of w.passed) (stream_of w.coming) at (sym w.place)

  pub place_within : at + length (stream_of w.coming) ≡ length l
  place_within = omega (arith, w.place, ap length parts, length-append (stream_of w.passed) (stream_of w.coming))

  -- the numbers decide the records, and the place what stands before it and behind
  pub place_all : (cs : List (Combined ℕ)) → l ≡ stream_of cs → w.passed ++ w.coming ≡ cs
  place_all cs e = stream_injective (w.passed ++ w.coming) cs (sym w.is ∙ e)

  module _ (cs ds : List (Combined ℕ)) (e : l ≡ stream_of (cs ++ ds)) (k : at ≡ length (stream_of cs)) where
    pub place_passed : cs ≡ w.passed
    place_passed = stream_injective cs w.passed (sym (take_at (stream_of cs) (stream_of ds) at (sym k)) ∙ ap (take at) (sym (e ∙ stream_append cs ds)) ∙ place_front)

    pub place_coming : ds ≡ w.coming
    place_coming = stream_injective ds w.coming (sym (drop_at (stream_of cs) (stream_of ds) at (sym k)) ∙ ap (drop at) (sym (e ∙ stream_append cs ds)) ∙ place_rest)

-- one record further
unfoldable pub place_next : {l : List ℕ} {at : ℕ} (w : RecordsFrom l at) (c : Combined ℕ) (cs : List (Combined ℕ)) → w.coming ≡ c ∷ cs → (next : ℕ) → next ≡ at + 1 + length (flat c.expr) → RecordsFrom l next
unfolding stream_of
place_next {l} {at} w c cs s next e =
    let one : stream_of (c ∷ []) ≡ c.owner ∷ flat c.expr = ap (λ (m : List ℕ). c.owner ∷ m) (append-nil (flat c.expr)) in
    record {
      passed = w.passed ++ (c ∷ []);
      coming = cs;
      is = w.is ∙ ap (λ (ds : List (Combined ℕ)). stream_of (w.passed ++ ds)) s ∙ ap stream_of (sym (append_assoc w.passed (c ∷ []) cs));
      place = omega (arith, e, w.place, ap length (stream_append w.passed (c ∷ [])), length-append (stream_of w.passed) (stream_of (c ∷ [])), ap length one);
    }
