-- Expressions read from the fields of a sheet into nodes: `read_node` and `read_terms`.
use mathlib.Core.Path.{◌≡◌, refl, ap, ◌∙◌}
use mathlib.Core.List.{List, [], ◌∷◌, ◌++◌, append_assoc}
use mathlib.Core.Bool.{Bool, true, false, cond}
use Prim.Native.Nat.{ℕ, suc, ◌+◌, ◌-◌, ◌*◌, ◌<◌, ◌≤◌, max}
use native.Mathlib.Omega.{arith}
use borrow.Author.Tests.{eq-eqb, ne_eqb}
use lib.Dec.{eqb}
use lib.ListN.{length, take, drop, set, length-append}
use lib.Seq.{take_at, length-take-le}
use Rattle.refusal.specs.MeaningAnswer.{Answer, done, refused, mapped}
use Rattle.std.specs.Prelude.{Some, None, Result, Ok, Err}
use Rattle.std.specs.Prelude as prelude
use Rattle.refusal.specs.Told.{number_of, told}
use Rattle.refusal.specs.declared.Refusal.{Refusal}
use Rattle.grammar.specs.MeaningReading.{Reading}
use Rattle.sheet.specs.MeaningName.{Name}
use Rattle.sheet.specs.declared.Field.{Field}
use Rattle.schemas.specs.MeaningTree.{tree_at}
use Rattle.schemas.specs.MeaningSchemas.{Schema, terms_of}
use Rattle.expression.specs.MeaningExpression.{Expr, Terms}
use Rattle.expression.specs.MeaningExpression.Expr.{reference, andor, «and», oneof}
use Rattle.expression.specs.MeaningExpression.Terms.{end, ◌then◌}
use Rattle.expression.specs.MirrorNodes.{flat, flats}
use Rattle.expression.proofs.Spans.{patched}
use Rattle.lookup.specs.declared.Span.{Span}
use Rattle.declarations.specs.MirrorNamespace.{schema_scope}
use Rattle.records.specs.MeaningResolving.{resolved_expr, resolved_terms}
use Rattle.records.specs.MirrorRecords.{size, sizes, level, levels, number_meant, Meets, word_at, op_of, expr_in, Appends, Within, Deep, expr_numbers, terms_numbers}
use Rattle.records.proofs.Seeking.{met, met_none, terms_sought, terms_front, Tag, zeroth, first, second, third, tag_of}
use Rattle.records.proofs.Appending.{Did, did, did_not, appends, appends_not, append_then, append_none, expr_length, terms_length, terms_first}

-- ---- an expression by its tag

pub size_some : {N : Type 0} (e : Expr N) → 1 ≤ size e
unfolding size
size_some (reference n) = omega arith
size_some (andor t) = omega arith
size_some («and» t) = omega arith
size_some (oneof t) = omega arith

level_some : {N : Type 0} (e : Expr N) → 1 ≤ level e
unfolding level
level_some (reference n) = omega arith
level_some (andor t) = omega arith
level_some («and» t) = omega arith
level_some (oneof t) = omega arith

op_size : {N : Type 0} (t : ℕ) (u : Terms N) → (size (op_of t u) ≡ suc (sizes u)) × (level (op_of t u) ≡ suc (levels u))
unfolding op_of size level
op_size t u = by (eqb t 0x51) (eqb t 0x52)
  where
    by : (a b : Bool) → (size (cond a (andor u) (cond b («and» u) (oneof u))) ≡ suc (sizes u)) × (level (cond a (andor u) (cond b («and» u) (oneof u))) ≡ suc (levels u))
    by true b = (refl, refl)
    by false true = (refl, refl)
    by false false = (refl, refl)

abbrev noded : ℕ → List ℕ → List ℕ
noded kind l = kind ∷ 0 ∷ suc (suc (suc (length l))) ∷ l

op_in : (s : List ℕ) (t a b : ℕ) → (t ≡ 0x50 → ⊥) → expr_in s t a b ≡ op_of t (terms_of (tree_at s a b))
unfolding expr_in
op_in s t a b q = rw (ne_eqb t 0x50 q)

module _ (rd : Reading) (xs : List Schema) (w s : List ℕ) (t a b : ℕ) where
  ref_is : t ≡ 0x50 → expr_numbers rd xs w (expr_in s t a b) ≡ mapped (λ n. 0 ∷ n ∷ 3 ∷ []) (number_meant rd xs (schema_scope w) (word_at s a b))
  unfolding expr_numbers expr_in resolved_expr flat
  ref_is q = rw (eq-eqb t 0x50 q) (by (number_meant rd xs (schema_scope w) (word_at s a b)))
    where
      by : (o : Answer ℕ) → mapped flat (mapped reference o) ≡ mapped (λ n. 0 ∷ n ∷ 3 ∷ []) o
      by (done n) = refl
      by (refused n p) = refl

  op_is : (t ≡ 0x50 → ⊥) → 0x50 ≤ t → t ≤ 0x53 → expr_numbers rd xs w (expr_in s t a b) ≡ mapped (noded (t - 0x50)) (terms_numbers rd xs w (terms_of (tree_at s a b)))
  unfolding expr_numbers terms_numbers resolved_expr op_of flat
  op_is q l h = ap (λ e. mapped flat (resolved_expr (number_meant rd xs) (schema_scope w) e)) (op_in s t a b q) ∙ by (tag_of 0x50 t l h) q (terms_of (tree_at s a b))
    where
      each_of : (f : Terms ℕ → Expr ℕ) (k : ℕ) → ((u : Terms ℕ) → flat (f u) ≡ noded k (flats u)) → (o : Answer (Terms ℕ)) → mapped flat (mapped f o) ≡ mapped (noded k) (mapped flats o)
      each_of f k g (done u) = ap done (g u)
      each_of f k g (refused n p) = refl

      by : {t : ℕ} → Tag 0x50 t → (t ≡ 0x50 → ⊥) → (u : Terms Name)
          → mapped flat (resolved_expr (number_meant rd xs) (schema_scope w) (op_of t u)) ≡ mapped (noded (t - 0x50)) (mapped flats (resolved_terms (number_meant rd xs) (schema_scope w) u))
      by zeroth q u = absurd (q refl)
      by first q u = each_of andor 1 (λ u. refl) (resolved_terms (number_meant rd xs) (schema_scope w) u)
      by second q u = each_of «and» 2 (λ u. refl) (resolved_terms (number_meant rd xs) (schema_scope w) u)
      by third q u = each_of oneof 3 (λ u. refl) (resolved_terms (number_meant rd xs) (schema_scope w) u)

-- ---- room and depth

module _ (e : Expr Name) (used depth : ℕ) (w : List ℕ) (D : Deep (size e) (2 * level e) used depth w) where
  pub node_room : used + 3 ≤ length w
  node_room = omega (arith, size_some e, D.room)

  pub node_calls : 1 ≤ depth
  node_calls = omega (arith, level_some e, D.calls_left)

  pub node_falls : (k : ℕ) → depth ≡ k → depth - 1 < k
  node_falls k q = omega (arith, level_some e, D.calls_left)

-- ---- a node

put_front : (used : ℕ) (w₀ w₁ : List ℕ) (k v p : ℕ) → used + 3 ≤ length w₀ → w₁ ≡ take used w₀ ++ ((k ∷ v ∷ p ∷ []) ++ drop (used + 3) w₀) → take (used + 3) w₁ ≡ take used w₀ ++ (k ∷ v ∷ p ∷ [])
put_front used w₀ w₁ k v p h e =
    rw (e, ← append_assoc (take used w₀) (k ∷ v ∷ p ∷ []) (drop (used + 3) w₀))
    (take_at (take used w₀ ++ (k ∷ v ∷ p ∷ [])) (drop (used + 3) w₀) (used + 3) (length-append (take used w₀) (k ∷ v ∷ p ∷ []) ∙ omega (arith, length-take-le used w₀ (let z : used ≤ length w₀ = omega arith in z))))

-- its terms
module _ (s : List ℕ) (t a b used depth : ℕ) (w₀ : List ℕ) (D : Deep (size (expr_in s t a b)) (2 * level (expr_in s t a b)) used depth w₀) (z : t ≡ 0x50 → ⊥) where
  inner_size : (size (expr_in s t a b) ≡ suc (sizes (terms_of (tree_at s a b)))) × (level (expr_in s t a b) ≡ suc (levels (terms_of (tree_at s a b))))
  inner_size = rw (op_in s t a b z) (op_size t (terms_of (tree_at s a b)))

  pub inner_deep : (n : ℕ) (w₁ : List ℕ) → n ≡ used + 3 → length w₁ ≡ length w₀ → Deep (sizes (terms_of (tree_at s a b))) (2 * levels (terms_of (tree_at s a b)) + 1) n (depth - 1) w₁
  inner_deep n w₁ m l = let i = inner_size in record { calls_left = omega (arith, D.calls_left); room = omega (arith, D.room); small = omega (arith, D.small) }

module _ (rd : Reading) (xs : List Schema) (w s : List ℕ) (t a b used depth : ℕ) (w₀ : List ℕ) (D : Deep (size (expr_in s t a b)) (2 * level (expr_in s t a b)) used depth w₀) where
  module _ (z : t ≡ 0x50) (i : Span) (I : i ≡ record { start = a; stop = b }) (r : Result ℕ Refusal) (q : told r ≡ number_meant rd xs (schema_scope w) (word_at s i.start i.stop)) where
    told_here : told r ≡ number_meant rd xs (schema_scope w) (word_at s a b)
    told_here = rw I at q

    pub node_lost : (why : Refusal) → r ≡ Err why → (k : Result ℕ Refusal) → k ≡ Err why → Appends (expr_numbers rd xs w (expr_in s t a b)) (told k) used w₀ w₀
    node_lost why e k y = rw y (appends_not (number_of why.reason) why.place used w₀ w₀ (ref_is rd xs w s t a b z ∙ rw (← told_here, e) refl))

    pub node_found : (k : ℕ) → r ≡ Ok k → (n : ℕ) (w₁ : List ℕ) → n ≡ used + 3 → (i : ℕ) → i ≡ 0 → w₁ ≡ take used w₀ ++ ((i ∷ k ∷ 3 ∷ []) ++ drop (used + 3) w₀)
        → Appends (expr_numbers rd xs w (expr_in s t a b)) (told (Ok n)) used w₀ w₁
    node_found k e n w₁ m i j p =
        let h : used + 3 ≤ length w₀ = node_room (expr_in s t a b) used depth w₀ D in
        appends (0 ∷ k ∷ 3 ∷ []) (ref_is rd xs w s t a b z ∙ rw (← told_here, e) refl) m (rw m (put_front used w₀ w₁ 0 k 3 h (rw j at p)))

  module _ (z : t ≡ 0x50 → ⊥) where
    module _ (l : 0x50 ≤ t) (h : t ≤ 0x53) (r : Result ℕ Refusal) (body : ℕ) (w₁ w₂ : List ℕ) (A : Appends (terms_numbers rd xs w (terms_of (tree_at s a b))) (told r) body w₁ w₂) where
      pub inner_handed : (why : Refusal) → r ≡ Err why → Appends (expr_numbers rd xs w (expr_in s t a b)) (told r) used w₀ w₂
      inner_handed why e = rw e (appends_not (number_of why.reason) why.place used w₀ w₂ (op_is rd xs w s t a b z l h ∙ ap (mapped (noded (t - 0x50))) (did_not A (number_of why.reason) why.place (ap told e))))

      module _ (n : ℕ) (e : r ≡ Ok n) (m : body ≡ used + 3) where
        did_it : Did (terms_numbers rd xs w (terms_of (tree_at s a b))) body n w₁ w₂
        did_it = did A n (ap told e)

        pub inner_less : used ≤ n
        inner_less = omega (arith, did_it.ends)

        reaches : n ≤ length w₀
        reaches = let i = inner_size s t a b used depth w₀ D z in omega (arith, did_it.ends, terms_length rd xs w (terms_of (tree_at s a b)) did_it.list did_it.is, D.room)

        pub inner_small : n - used < 65536
        inner_small = omega (arith, reaches, D.small)

        pub inner_there : length w₂ ≡ length w₁ → length w₁ ≡ length w₀ → used + 2 < length w₂
        inner_there k j = omega (arith, node_room (expr_in s t a b) used depth w₀ D)

        pub inner_made : (k : ℕ) → k ≡ t - 0x50 → w₁ ≡ take used w₀ ++ ((k ∷ 0 ∷ 0 ∷ []) ++ drop (used + 3) w₀) → Appends (expr_numbers rd xs w (expr_in s t a b)) (told (Ok n)) used w₀ (set w₂ (used + 2) (n - used))
        inner_made k j p =
            let d = did_it in
            let g : used + 3 ≤ length w₀ = node_room (expr_in s t a b) used depth w₀ D in
            let c : n - used ≡ suc (suc (suc (length d.list))) = omega (arith, d.ends) in
            let y : take n w₂ ≡ (take used w₀ ++ ((t - 0x50) ∷ 0 ∷ 0 ∷ [])) ++ d.list = d.stands ∙ ap (λ (l : List ℕ). l ++ d.list) (ap (λ (i : ℕ). take i w₁) m ∙ put_front used w₀ w₁ (t - 0x50) 0 0 g (rw j at p)) in
            appends (noded (t - 0x50) d.list) (op_is rd xs w s t a b z l h ∙ ap (mapped (noded (t - 0x50))) d.is) (omega (arith, d.ends))
            (patched w₂ (take used w₀) d.list used n (t - 0x50) 0 0 (n - used) (length-take-le used w₀ (let z : used ≤ length w₀ = omega arith in z)) (omega (arith, d.ends)) y ∙ rw c refl)

pub ruleset noding = (node_room, node_calls, node_falls, node_lost, node_found, inner_deep, inner_handed, inner_less, inner_small, inner_there, inner_made)

-- ---- terms, one after the other

pub record ReadingOn (rd : Reading) (xs : List Schema) (w s : List ℕ) (at e used depth : ℕ) (w₀ : List ℕ) (from n : ℕ) (w₁ : List ℕ) : Type 0 where
  pub inside : Within s from e
  pub deep : Deep (sizes (terms_of (tree_at s from e))) (2 * levels (terms_of (tree_at s from e)) + 1) n depth w₁
  pub long : length w₁ ≡ length w₀
  pub rest : (r : Answer ℕ) (v : List ℕ) → Appends (terms_numbers rd xs w (terms_of (tree_at s from e))) r n w₁ v → Appends (terms_numbers rd xs w (terms_of (tree_at s at e))) r used w₀ v

pub terms_start : (rd : Reading) (xs : List Schema) (w s : List ℕ) (at e used depth : ℕ) (w₀ : List ℕ) → Within s at e → Deep (sizes (terms_of (tree_at s at e))) (2 * levels (terms_of (tree_at s at e)) + 1) used depth w₀
    → ReadingOn rd xs w s at e used depth w₀ at used w₀
terms_start rd xs w s at e used depth w₀ i d = record { inside = i; deep = d; long = refl; rest = λ r v a. a }

module _ (rd : Reading) (xs : List Schema) (w s : List ℕ) (at e used depth : ℕ) (w₀ : List ℕ) (from n : ℕ) (w₁ : List ℕ) (f : ReadingOn rd xs w s at e used depth w₀ from n w₁) (h : prelude.Option Field) (m : Meets s from e 0x50 0x53 h) where
  pub terms_none : h ≡ None → Appends (terms_numbers rd xs w (terms_of (tree_at s at e))) (told (Ok n)) used w₀ w₁
  unfolding terms_numbers resolved_terms terms_of flats
  terms_none q =
      let z : terms_of (tree_at s from e) ≡ end = terms_sought (tree_at s from e) ∙ ap terms_of (met_none m q) in
      f.rest (done n) w₁ (rw z (append_none n w₁))

  module _ (d : Field) (q : h ≡ Some d) where
    parted : terms_of (tree_at s from e) ≡ expr_in s d.tag d.start d.stop then terms_of (tree_at s d.stop e)
    parted = let x = met m d q in terms_sought (tree_at s from e) ∙ ap terms_of x.seeks ∙ terms_front s d.start d.stop (omega (arith, x.behind)) (tree_at s d.stop e) d.tag x.from x.to

    sized : (sizes (terms_of (tree_at s from e)) ≡ size (expr_in s d.tag d.start d.stop) + sizes (terms_of (tree_at s d.stop e))) × (levels (terms_of (tree_at s from e)) ≡ max (level (expr_in s d.tag d.start d.stop)) (levels (terms_of (tree_at s d.stop e))))
    unfolding sizes levels
    sized = rw parted (refl, refl)

    pub term_in : Within s d.start d.stop
    term_in = let x = met m d q in record { short = f.inside.short; rising = x.rising; within = omega (arith, x.within, f.inside.within) }

    pub term_deep : Deep (size (expr_in s d.tag d.start d.stop)) (2 * level (expr_in s d.tag d.start d.stop)) n (depth - 1) w₁
    term_deep = let i = sized in record { calls_left = omega (arith, f.deep.calls_left); room = omega (arith, f.deep.room); small = f.deep.small }

    pub term_calls : 1 ≤ depth
    term_calls = omega (arith, f.deep.calls_left)

    pub term_falls : (k : ℕ) → depth ≡ k → depth - 1 < k
    term_falls k z = omega (arith, f.deep.calls_left)

    module _ (r : Result ℕ Refusal) (w₂ : List ℕ) (A : Appends (expr_numbers rd xs w (expr_in s d.tag d.start d.stop)) (told r) n w₁ w₂) where
      pub term_handed : (why : Refusal) → r ≡ Err why → Appends (terms_numbers rd xs w (terms_of (tree_at s at e))) (told r) used w₀ w₂
      term_handed why z =
          let k : terms_numbers rd xs w (terms_of (tree_at s from e)) ≡ refused (number_of why.reason) why.place = rw (parted, terms_first rd xs w (expr_in s d.tag d.start d.stop) (terms_of (tree_at s d.stop e)), did_not A (number_of why.reason) why.place (ap told z)) refl in
          rw z (f.rest (refused (number_of why.reason) why.place) w₂ (appends_not (number_of why.reason) why.place n w₁ w₂ k))

      pub term_next : (j : ℕ) → r ≡ Ok j → length w₂ ≡ length w₁ → ReadingOn rd xs w s at e used depth w₀ d.stop j w₂
      term_next j z l =
          let x = met m d q in
          let i = sized in
          let y = did A j (ap told z) in
          record {
            inside = record { short = f.inside.short; rising = x.within; within = f.inside.within };
            deep = record { calls_left = omega (arith, f.deep.calls_left); room = omega (arith, f.deep.room, y.ends, expr_length rd xs w (expr_in s d.tag d.start d.stop) y.list y.is); small = omega (arith, f.deep.small) };
            long = l ∙ f.long;
            rest = λ r v z. f.rest r v (rw (parted, terms_first rd xs w (expr_in s d.tag d.start d.stop) (terms_of (tree_at s d.stop e))) (append_then _ _ r n j w₁ w₂ v y z));
          }

pub ruleset terming = (terms_start, terms_none, term_in, term_deep, term_calls, term_falls, term_handed, term_next)
