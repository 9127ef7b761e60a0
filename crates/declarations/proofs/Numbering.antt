-- Declarations and their numbers.
use mathlib.Core.Path.{◌≡◌, refl, sym, ap, ap₂, ◌∙◌}
use mathlib.Core.List.{List, [], ◌∷◌, ◌++◌, map}
use mathlib.Core.Option.{some}
use mathlib.Core.Bool.{Bool, true, false, cond}
use Prim.Native.Nat.{ℕ, zero, suc, ◌+◌, ◌<◌, ◌≤◌}
use native.Mathlib.Nat.{le_refl}
use native.Mathlib.Omega.{arith}
use lib.ListN.{length, get_elem?, length-append, length-map}
use Rattle.complex_entity.proofs.Members.{∈_append_left, ∈_append_right}
use Rattle.complex_entity.specs.MeaningRising.{◌∈◌}
use Rattle.complex_entity.specs.MeaningRising.◌∈◌.{here, there}
use Rattle.grammar.proofs.Choosing.{clash}
use Rattle.schemas.specs.MeaningSchemas.{Schema}
use Rattle.declarations.specs.MeaningNamespace.{Named, a_type, an_entity, Declaration, scope_in, path_in, declared_by, numbered, Entry, entries_from, all_of, declarations, first}
use Rattle.declarations.proofs.Picking.{nth_in}

module _ (x : Schema) where
  pub length_numbered : (n : ℕ) (ds : List Named) → length (numbered x n ds) ≡ length ds
  unfolding numbered
  length_numbered n [] = refl
  length_numbered n (d ∷ ds) = ap suc (length_numbered (suc n) ds)

  pub numbered_append : (n : ℕ) (ds es : List Named) → numbered x n (ds ++ es) ≡ numbered x n ds ++ numbered x (n + length ds) es
  unfolding numbered
  numbered_append n [] es = let z : n + 0 ≡ n = omega arith in rw z refl
  numbered_append n (d ∷ ds) es =
      let z : n + suc (length ds) ≡ suc n + length ds = omega arith in
      ap (λ (l : List Declaration). record { number = n; path = path_in x d; named = d } ∷ l) (numbered_append (suc n) ds es ∙ ap (λ (k : ℕ). numbered x (suc n) ds ++ numbered x k es) (sym z))

  pub nth_numbered : (n : ℕ) (ds : List Named) (k : ℕ) (d : Named) → get_elem? ds k ≡ some d → get_elem? (numbered x n ds) k ≡ some (record { number = n + k; path = path_in x d; named = d })
  unfolding numbered
  nth_numbered n [] k d e = clash (cc)
  nth_numbered n (y ∷ ds) zero d e = let u : y ≡ d = cc in let z : n + 0 ≡ n = omega arith in rw (u, z) refl
  nth_numbered n (y ∷ ds) (suc k) d e = let z : n + suc k ≡ suc n + k = omega arith in rw z (nth_numbered (suc n) ds k d e)

  pub length_declared : length (declared_by x) ≡ length x.types + length x.entities
  unfolding declared_by
  length_declared = length-append (map a_type x.types) (map an_entity x.entities) ∙ ap₂ (λ (a b : ℕ). a + b) (length-map x.types a_type) (length-map x.entities an_entity)

-- ---- the numbers rise by one, from n on

abbrev pub Counts : ℕ → List Declaration → Type 0
Counts n [] = Unit {0}
Counts n (d ∷ ds) = (d.number ≡ n) × Counts (suc n) ds

counts_append : (n : ℕ) (ds es : List Declaration) → Counts n ds → Counts (n + length ds) es → Counts n (ds ++ es)
counts_append n [] es a b = let z : n + 0 ≡ n = omega arith in rw z at b
counts_append n (d ∷ ds) es a b = let z : n + suc (length ds) ≡ suc n + length ds = omega arith in (a.0, counts_append (suc n) ds es a.1 (rw z at b))

counts_numbered : (x : Schema) (n : ℕ) (ds : List Named) → Counts n (numbered x n ds)
unfolding numbered
counts_numbered x n [] = tt
counts_numbered x n (d ∷ ds) = (refl, counts_numbered x (suc n) ds)

counts_all : (n : ℕ) (xs : List Schema) → Counts n (all_of (entries_from n xs))
unfolding all_of entries_from
counts_all n [] = tt
counts_all n (x ∷ xs) = counts_append n (numbered x n (declared_by x)) (all_of (entries_from (n + length (declared_by x)) xs)) (counts_numbered x n (declared_by x)) (rw (length_numbered x n (declared_by x)) (counts_all (n + length (declared_by x)) xs))

nth_counts : (n : ℕ) (ds : List Declaration) → Counts n ds → (k : ℕ) (d : Declaration) → get_elem? ds k ≡ some d → d.number ≡ n + k
nth_counts n [] c k d e = clash (cc)
nth_counts n (y ∷ ds) c zero d e = let u : y ≡ d = cc in let z : n + 0 ≡ n = omega arith in rw (← u, z) c.0
nth_counts n (y ∷ ds) c (suc k) d e = let z : n + suc k ≡ suc n + k = omega arith in rw z (nth_counts (suc n) ds c.1 k d e)

pub number_is : (xs : List Schema) (k : ℕ) (d : Declaration) → get_elem? (declarations xs) k ≡ some d → d.number ≡ k
unfolding declarations
number_is xs k d e = nth_counts 0 (all_of (entries_from 0 xs)) (counts_all 0 xs) k d e ∙ (let z : 0 + k ≡ k = omega arith in z)

-- a declaration stands at its number
pub at_number : (xs : List Schema) (d : Declaration) → d ∈ declarations xs → (d.number < length (declarations xs)) × (get_elem? (declarations xs) d.number ≡ some d)
at_number xs d m =
    let r = nth_in (declarations xs) d m in
    let z = number_is xs r.0 d r.2 in
    (rw z r.1, ap (get_elem? (declarations xs)) z ∙ r.2)

-- so one number is one declaration's
pub same_number : (xs : List Schema) (d e : Declaration) → d ∈ declarations xs → e ∈ declarations xs → d.number ≡ e.number → d ≡ e
same_number xs d e i j k =
    let a = (at_number xs d i).1 in
    let b = (at_number xs e j).1 in
    let z : some d ≡ some e = sym a ∙ ap (get_elem? (declarations xs)) k ∙ b in
    cc

-- ---- what an entry holds

pub in_entry : (n : ℕ) (xs : List Schema) (e : Entry) (d : Declaration) → e ∈ entries_from n xs → d ∈ e.items → d ∈ all_of (entries_from n xs)
unfolding all_of entries_from
in_entry n [] e d x'' m = elim x'' [ ]
in_entry n (x ∷ xs) e d (here q) m = ∈_append_left (numbered x n (declared_by x)) (all_of (entries_from (n + length (declared_by x)) xs)) (rw q at m)
in_entry n (x ∷ xs) e d (there q) m = ∈_append_right (numbered x n (declared_by x)) (all_of (entries_from (n + length (declared_by x)) xs)) (in_entry (n + length (declared_by x)) xs e d q m)

numbered_scope : (x : Schema) (n : ℕ) (ds : List Named) (d : Declaration) → d ∈ numbered x n ds → d.path.scope ≡ scope_in x
unfolding numbered path_in
numbered_scope x n [] d x'' = elim x'' [ ]
numbered_scope x n (y ∷ ds) d (here q) = ap (λ (z : Declaration). z.path.scope) q
numbered_scope x n (y ∷ ds) d (there m) = numbered_scope x (suc n) ds d m

pub entry_scope : (n : ℕ) (xs : List Schema) (e : Entry) (d : Declaration) → e ∈ entries_from n xs → d ∈ e.items → d.path.scope ≡ e.scope
unfolding entries_from
entry_scope n [] e d x'' m = elim x'' [ ]
entry_scope n (x ∷ xs) e d (here q) m = numbered_scope x n (declared_by x) d (rw q at m) ∙ sym (ap (λ (z : Entry). z.scope) q)
entry_scope n (x ∷ xs) e d (there q) m = entry_scope (n + length (declared_by x)) xs e d q m

-- ---- of those that pass, the first has the lowest number

low_counts : (n : ℕ) (ds : List Declaration) → Counts n ds → (d : Declaration) → d ∈ ds → n ≤ d.number
low_counts n [] c d x'' = elim x'' [ ]
low_counts n (y ∷ ds) c d (here q) = let z : d.number ≡ n = ap (λ (v : Declaration). v.number) q ∙ c.0 in omega arith
low_counts n (y ∷ ds) c d (there m) = let z = low_counts (suc n) ds c.1 d m in omega arith

module _ (p : Declaration → Bool) where
  lowest_by : (n : ℕ) (ds : List Declaration) → Counts n ds → (d : Declaration) → first p ds ≡ some d → (e : Declaration) → e ∈ ds → p e ≡ true → d.number ≤ e.number
  unfolding first
  lowest_by n [] c d f e m h = elim m [ ]
  lowest_by n (y ∷ ds) c d f e m h = by (λ f e m h. lowest_by (suc n) ds c.1 d f e m h) (p y) refl f e m h
    where
      by : (first p ds ≡ some d → (e : Declaration) → e ∈ ds → p e ≡ true → d.number ≤ e.number) → (b : Bool) → p y ≡ b → cond b (some y) (first p ds) ≡ some d → (e : Declaration) → e ∈ (y ∷ ds) → p e ≡ true → d.number ≤ e.number
      by go true k f e (here q) h = let u : y ≡ d = cc in rw (q, u) (le_refl d.number)
      by go true k f e (there m) h = let u : y ≡ d = cc in let z = low_counts (suc n) ds c.1 e m in let v : d.number ≡ n = rw (← u) c.0 in omega arith
      by go false k f e (here q) h = let z : true ≡ false = sym h ∙ ap p q ∙ k in clash (cc)
      by go false k f e (there m) h = go f e m h

  pub lowest : (xs : List Schema) (d : Declaration) → first p (declarations xs) ≡ some d → (e : Declaration) → e ∈ declarations xs → p e ≡ true → d.number ≤ e.number
  unfolding declarations
  lowest xs d f e m h = lowest_by 0 (all_of (entries_from 0 xs)) (counts_all 0 xs) d f e m h
