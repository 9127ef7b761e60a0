-- The row that serves: what the searches of `first_row` and `row_of` find, and what the row found is.
use mathlib.Core.Path.{◌≡◌, refl, sym, ◌∙◌}
use mathlib.Core.List.{List, [], ◌∷◌, map}
use mathlib.Core.Bool.{Bool, true, false, cond, ◌&&◌}
use Prim.Native.Nat.{ℕ, zero, suc, ◌+◌, ◌-◌, ◌<◌, ◌≤◌}
use native.Mathlib.Nat.{not-suc-le-zero, le_of_suc-le-suc}
use native.Mathlib.Numerals.{add-one}
use native.Mathlib.Omega.{arith}
use borrow.Author.Tests.{eqb-true, ltb-true, ltb-false, lt-ltb, le-ltb}
use Rattle.std.specs.Prelude.{Option, Some, None, MatchOption, unwrap_or}
use lib.Dec.{eqb, ltb, leb}
use lib.ListN.{length, get_or, drop}
use lib.Seq.{drop-cons}
use Rattle.grammar.specs.MirrorRows.{rows}
use Rattle.grammar.specs.MirrorTable.{row_count, cell_at, belongs, serves, first, in_table, first_row, row_of}
use Rattle.grammar.proofs.Choosing.{both, clash}

-- ---- the searches over the rows

-- the rows from i on decide the answer r
pub record Seeking (test : List ℕ → Bool) (i r : ℕ) : Type 0 where
  pub inside : i ≤ row_count
  pub rest : first test (drop i rows) i ≡ r

row_number : length rows ≡ row_count
unfolding rows
row_number = refl

-- where what passes a test passes a weaker one too, the search may start at the first row that passes the weaker
abbrev Skipped : (List ℕ → Bool) → List (List ℕ) → ℕ → ℕ → Type 0
Skipped test xs i r = (k : ℕ) × (r ≡ i + k) × (k ≤ length xs) × (first test (drop k xs) r ≡ first test xs i)

skip_from : (test : List ℕ → Bool) (x : List ℕ) (xs : List (List ℕ)) (i m : ℕ) (b : Bool) → (b ≡ false → test x ≡ false) → Skipped test xs (suc i) m → Skipped test (x ∷ xs) i (cond b i m)
unfolding first
skip_from test x xs i m true h next = (0, omega arith, omega arith, refl)
skip_from test x xs i m false h next = (suc next.0, omega (arith, next.1), omega (arith, next.2), rw (h refl) next.3)

skip : (weaker test : List ℕ → Bool) → ((x : List ℕ) → weaker x ≡ false → test x ≡ false) → (xs : List (List ℕ)) (i : ℕ) → Skipped test xs i (first weaker xs i)
unfolding first
skip weaker test h [] i = (0, omega arith, omega arith, refl)
skip weaker test h (x ∷ xs) i = skip_from test x xs i (first weaker xs (suc i)) (weaker x) (h x) (skip weaker test h xs (suc i))

elsewhere : (p st t : ℕ) (x : List ℕ) → belongs p x ≡ false → serves p st t x ≡ false
unfolding serves
elsewhere p st t x h = simp h

module _ (p : ℕ) where
  pub seek_first : Seeking (belongs p) 0 (first_row p)
  unfolding first_row
  seek_first = record { inside = omega arith; rest = refl }

  pub seek_row : (st t i : ℕ) → i ≡ first_row p → Seeking (serves p st t) i (row_of p st t)
  unfolding first_row row_of
  seek_row st t i q =
      let z = skip (belongs p) (serves p st t) (elsewhere p st t) rows 0 in
      let e : i ≡ z.0 = q ∙ z.1 ∙ (let y : 0 + z.0 ≡ z.0 = omega arith in y) in
      record { inside = omega (arith, row_number, z.2); rest = rw e (let w = z.3 in rw (sym q ∙ e) at w) }

module _ (test : List ℕ → Bool) (i r : ℕ) (f : Seeking test i r) where
  pub seek_none : row_count ≤ i → i ≡ r
  unfolding rows first
  seek_none h = let e : i ≡ row_count = omega arith in e ∙ (rw e at f.rest)

  module _ (h : i < row_count) (b : Bool) (q : b ≡ test (get_or rows i [])) where
    pub seek_found : b ≡ true → i ≡ r
    unfolding first
    seek_found k = let l : i < length rows = rw row_number h in sym (rw (drop-cons rows i [] l, sym q ∙ k) refl) ∙ f.rest

    pub seek_next : b ≡ false → Seeking test (i + 1) r
    unfolding first
    seek_next k = let l : i < length rows = rw row_number h in record { inside = omega arith; rest = sym (rw (add-one, drop-cons rows i [] l, sym q ∙ k) refl) ∙ f.rest }

-- past rows that fail the test
seek_on : (test : List ℕ → Bool) (n i r : ℕ) → Seeking test i r → i + n ≤ row_count → ((k : ℕ) → i ≤ k → k < i + n → test (get_or rows k []) ≡ false) → Seeking test (i + n) r
seek_on test zero i r f h fails = let e : i + zero ≡ i = omega arith in rw e f
seek_on test (suc n) i r f h fails =
    let b : i < row_count = omega arith in
    let e : i + suc n ≡ (i + 1) + n = omega arith in
    rw e (seek_on test n (i + 1) r (seek_next test i r f b (test (get_or rows i [])) refl (fails i (omega arith) (omega arith))) (omega arith) (λ k u v. fails k (omega arith) (omega arith)))

-- the first row from i on that passes the test, or none
abbrev pub FirstFrom : (List ℕ → Bool) → ℕ → Option ℕ → Type 0
FirstFrom test i o =
    MatchOption o ((k : ℕ) → i ≤ k → k < row_count → test (get_or rows k []) ≡ false)
    (λ j. (i ≤ j) × (j < row_count) × (test (get_or rows j []) ≡ true) × ((k : ℕ) → i ≤ k → k < j → test (get_or rows k []) ≡ false))

pub first_from : (test : List ℕ → Bool) (i r : ℕ) → Seeking test i r → (o : Option ℕ) → FirstFrom test i o → o ≡ in_table r
unfolding in_table
first_from test i r f None fails =
    let z : i + (row_count - i) ≡ row_count = omega (arith, f.inside) in
    let g = seek_on test (row_count - i) i r f (omega (arith, f.inside)) (λ k u v. fails k u (omega (arith, f.inside))) in
    let e = seek_none test (i + (row_count - i)) r g (omega arith) in
    rw (le-ltb r row_count (omega arith)) refl
first_from test i r f (Some j) w =
    let z : i + (j - i) ≡ j = omega (arith, w.0) in
    let g = seek_on test (j - i) i r f (omega (arith, w.1, w.0)) (λ k u v. w.3 k u (omega (arith, w.0))) in
    let e : j ≡ r = seek_found test j r (rw z at g) w.1 (test (get_or rows j [])) refl w.2 in
    rw (← e, lt-ltb j row_count w.1) refl

-- a parent without rows has its first one past the last
first_inside : (p : ℕ) → first_row p ≤ row_count
unfolding first_row
first_inside p = let z = skip (belongs p) (belongs p) (λ x h. h) rows 0 in omega (arith, row_number, z.1, z.2)

pub first_or_past : (p : ℕ) → unwrap_or (in_table (first_row p)) row_count ≡ first_row p
unfolding in_table
first_or_past p = go (ltb (first_row p) row_count) refl
  where
    go : (b : Bool) → ltb (first_row p) row_count ≡ b → unwrap_or (cond b (Some (first_row p)) None) row_count ≡ first_row p
    go true e = refl
    go false e = omega (arith, ltb-false (first_row p) row_count e, first_inside p)

-- the row that is found
pub row_found : (r i : ℕ) → in_table r ≡ Some i → (i < row_count) × (r ≡ i)
unfolding in_table
row_found r i q = go (ltb r row_count) refl q
  where
    go : (b : Bool) → ltb r row_count ≡ b → ◌≡◌ {A = Option ℕ} (cond b (Some r) None) (Some i) → (i < row_count) × (r ≡ i)
    go true e k = let z : r ≡ i = cc in (rw (← z) (ltb-true r row_count e), z)
    go false e k = let z : ◌≡◌ {A = Option ℕ} None (Some i) = k in clash (cc)

pub row_missing : (r : ℕ) → in_table r ≡ None → row_count ≤ r
unfolding in_table
row_missing r q = go (ltb r row_count) refl q
  where
    go : (b : Bool) → ltb r row_count ≡ b → ◌≡◌ {A = Option ℕ} (cond b (Some r) None) None → row_count ≤ r
    go true e k = let z : ◌≡◌ {A = Option ℕ} (Some r) None = k in clash (cc)
    go false e k = ltb-false r row_count e

-- ---- what the first row that serves is

abbrev Found : (List ℕ → Bool) → List (List ℕ) → ℕ → ℕ → Type 0
Found test xs i r = (k : ℕ) × (r ≡ i + k) × (test (get_or xs k []) ≡ true)

found_from : (test : List ℕ → Bool) (x : List ℕ) (xs : List (List ℕ)) (i m : ℕ) (b : Bool) → test x ≡ b → cond b i m < i + suc (length xs) → (m < suc i + length xs → Found test xs (suc i) m) → Found test (x ∷ xs) i (cond b i m)
found_from test x xs i m true e h next = (0, omega arith, e)
found_from test x xs i m false e h next =
    let r = next (omega arith) in
    (suc r.0, omega (arith, r.1), r.2)

found : (test : List ℕ → Bool) (xs : List (List ℕ)) (i : ℕ) → first test xs i < i + length xs → Found test xs i (first test xs i)
unfolding first
found test [] i h = absurd (let y : ⊥ = omega arith in y)
found test (x ∷ xs) i h = found_from test x xs i (first test xs (suc i)) (test x) refl h (found test xs (suc i))

module _ (p st t : ℕ) (h : ltb (row_of p st t) row_count ≡ true) where
  abbrev pub Row : List ℕ
  Row = get_or rows (row_of p st t) []

  served : serves p st t Row ≡ true
  unfolding rows row_of
  served =
      let r = found (serves p st t) rows 0 (ltb-true (row_of p st t) row_count h) in
      let e : row_of p st t ≡ r.0 = r.1 ∙ (let z : 0 + r.0 ≡ r.0 = omega arith in z) in
      rw e r.2

  pub record Keyed : Type 0 where
    pub parent_is : get_or Row 0 0 ≡ p
    pub tag_is : get_or Row 1 0 ≡ t
    pub from : leb (get_or Row 2 0) st ≡ true
    pub upto : leb st (get_or Row 3 0) ≡ true

  pub key : Keyed
  unfolding serves belongs
  key =
      let a = both (eqb (get_or Row 0 0) p) (eqb (get_or Row 1 0) t && (leb (get_or Row 2 0) st && leb st (get_or Row 3 0))) served in
      let b = both (eqb (get_or Row 1 0) t) (leb (get_or Row 2 0) st && leb st (get_or Row 3 0)) a.1 in
      let c = both (leb (get_or Row 2 0) st) (leb st (get_or Row 3 0)) b.1 in
      record { parent_is = eqb-true _ _ a.0; tag_is = eqb-true _ _ b.0; from = c.0; upto = c.1 }

-- ---- a test of all rows, and what it gives at one

mapped : {X Y : Type 0} (f g : X → Y) (d : X) (xs : List X) → map f xs ≡ map g xs → (k : ℕ) → k < length xs → f (get_or xs k d) ≡ g (get_or xs k d)
mapped f g d [] q k h = absurd (not-suc-le-zero h)
mapped f g d (x ∷ xs) q zero h = cc
mapped f g d (x ∷ xs) q (suc k) h = mapped f g d xs (cc) k (le_of_suc-le-suc h)

pub at_row : {Y : Type 0} (f g : List ℕ → Y) → map f rows ≡ map g rows → (i : ℕ) → i < row_count → f (get_or rows i []) ≡ g (get_or rows i [])
at_row f g q i h = mapped f g [] rows q i (rw row_number h)

answer_test : map (λ (r : List ℕ). ltb (get_or r 10 0) 18) rows ≡ map (λ (r : List ℕ). true) rows
unfolding rows
answer_test = refl

-- a row's answer is 0 or a refusal's number
pub answer_small : (i x : ℕ) → i < row_count → x ≡ cell_at i 10 → x < 18
unfolding cell_at
answer_small i x h q = rw q (ltb-true (cell_at i 10) 18 (at_row (λ (r : List ℕ). ltb (get_or r 10 0) 18) (λ (r : List ℕ). true) answer_test i h))
