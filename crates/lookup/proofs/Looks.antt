-- A law for each way through the loops over the fields with a tag: by name and by number.
use mathlib.Core.Path.{◌≡◌, refl, sym, ap, ◌∙◌}
use mathlib.Core.List.{List, [], ◌∷◌}
use mathlib.Core.Bool.{Bool, true, false}
use Prim.Native.Nat.{ℕ, zero, suc, ◌+◌, ◌-◌, ◌≤◌}
use native.Mathlib.Omega.{arith}
use lib.ListN.{length}
use Rattle.std.specs.Prelude.{Option, Some, None, Result, Ok, Err}
use Rattle.grammar.specs.MeaningReading.{Reading}
use Rattle.sheet.specs.MeaningName.{Name}
use Rattle.sheet.specs.MirrorField.{field_at}
use Rattle.sheet.specs.declared.Field.{Field}
use Rattle.forest.specs.MeaningPlaces.{nests}
use Rattle.schemas.specs.MeaningTree.{Tree, tree_at}
use Rattle.schemas.specs.MeaningSchemas.{name_of, each}
use Rattle.scope.specs.MeaningNames.{same_name}
use Rattle.lookup.specs.MirrorLookup.{its_name, itself, look_in, Picks}
use Rattle.lookup.specs.declared.Span.{Span}
use Rattle.lookup.proofs.Fields.{none_left, one_here, other_here, field_in, field_order, field_there, each_length}

-- ---- by name

pub record Looking (rd : Reading) (s w : List ℕ) (tag e past n from : ℕ) (r : Result ℕ ℕ) : Type 0 where
  pub inside : from ≤ e
  pub fits_in : e ≤ length s
  pub small : past ≤ 65535
  pub left : past ≡ n + length (each tag itself (tree_at s from e))
  pub nested : nests tag ≡ true
  pub rest : look_in rd w (each tag its_name (tree_at s from e)) n ≡ r

pub look_start : (rd : Reading) (s w : List ℕ) (tag e past n at : ℕ) → at ≤ e → e ≤ length s → nests tag ≡ true → past ≤ 65535 → past ≡ n + length (each tag itself (tree_at s at e))
    → Looking rd s w tag e past n at (look_in rd w (each tag its_name (tree_at s at e)) n)
look_start rd s w tag e past n at i j k l m = record { inside = i; fits_in = j; small = l; left = m; nested = k; rest = refl }

no_more : (rd : Reading) (w : List ℕ) (xs : List Name) (n : ℕ) → length xs ≡ 0 → Err n ≡ look_in rd w xs n
unfolding look_in
no_more rd w [] n q = refl
no_more rd w (x ∷ xs) n q = absurd (let z : ⊥ = omega arith in z)

module _ (rd : Reading) (s w : List ℕ) (tag e past n from : ℕ) (r : Result ℕ ℕ) (f : Looking rd s w tag e past n from r) where
  -- all of them were met
  pub look_end : past ≤ n → Err n ≡ r
  look_end q = no_more rd w (each tag its_name (tree_at s from e)) n (let z = each_length tag its_name itself (tree_at s from e) in omega (arith, f.left)) ∙ f.rest

  module _ (h : Option Field) (y : h ≡ field_at s from e) where
    pub look_none : h ≡ None → Err n ≡ r
    unfolding look_in
    look_none q = sym (rw (none_left s from e h y tag its_name q) refl) ∙ f.rest

    module _ (fd : Field) (q : h ≡ Some fd) where
      go_on : (m : ℕ) → past ≡ m + length (each tag itself (tree_at s fd.stop e)) → look_in rd w (each tag its_name (tree_at s fd.stop e)) m ≡ r → Looking rd s w tag e past m fd.stop r
      go_on m l z = record { inside = field_in s from e h y fd q; fits_in = f.fits_in; small = f.small; left = l; nested = f.nested; rest = z }

      pub look_skip : (fd.tag ≡ tag → ⊥) → (b : ℕ) → b ≡ fd.stop → Looking rd s w tag e past n b r
      look_skip d b p = rw p (go_on n (f.left ∙ rw (other_here s from e h y fd q itself tag d) refl) (sym (rw (other_here s from e h y fd q its_name tag d) refl) ∙ f.rest))

      here : fd.tag ≡ tag → look_in rd w (name_of (tree_at s fd.start fd.stop) ∷ each tag its_name (tree_at s fd.stop e)) n ≡ r
      unfolding its_name
      here k = sym (ap (λ l. look_in rd w l n) (one_here s from e h y fd q its_name tag k f.nested)) ∙ f.rest

      module _ (k : fd.tag ≡ tag) (x : Bool) (z : x ≡ same_name rd (name_of (tree_at s fd.start fd.stop)).bytes w) where
        pub look_found : x ≡ true → Ok n ≡ r
        unfolding look_in
        look_found o = sym (rw (sym z ∙ o) refl) ∙ here k

        pub look_next : x ≡ false → (b : ℕ) → b ≡ fd.stop → Looking rd s w tag e past (n + 1) b r
        unfolding look_in
        look_next o b p =
            let l : length (each tag itself (tree_at s from e)) ≡ suc (length (each tag itself (tree_at s fd.stop e))) = ap length (one_here s from e h y fd q itself tag k f.nested) in
            rw p (go_on (n + 1) (omega (arith, f.left)) (sym (rw (sym z ∙ o) refl) ∙ here k))

pub ruleset looking = (look_start, look_end, look_none, look_skip, look_found, look_next)

-- ---- by number: what picks from the fields left picks from them all

pub record Picking (s : List ℕ) (tag e left from k : ℕ) (all : List (ℕ × Tree)) : Type 0 where
  pub inside : from ≤ e
  pub fits_in : e ≤ length s
  pub nested : nests tag ≡ true
  pub rest : (r : Result Span ℕ) → Picks s (each tag itself (tree_at s from e)) left r → Picks s all k r

pub pick_start : (s : List ℕ) (tag e at k : ℕ) → at ≤ e → e ≤ length s → nests tag ≡ true → Picking s tag e k at k (each tag itself (tree_at s at e))
pick_start s tag e at k i j n = record { inside = i; fits_in = j; nested = n; rest = λ r p. p }

none_of_none : (s : List ℕ) (m : ℕ) → Picks s [] m (Err m)
none_of_none s m = (refl, omega arith)

-- one more in front
pick_behind : (s : List ℕ) (x : ℕ × Tree) (xs : List (ℕ × Tree)) (k : ℕ) → (k ≡ 0 → ⊥) → (r : Result Span ℕ) → Picks s xs (k - 1) r → Picks s (x ∷ xs) k r
pick_behind s x xs zero d r p = absurd (d refl)
pick_behind s x xs (suc k) d (Ok v) p = let z : suc k - 1 ≡ k = omega arith in rw z at p
pick_behind s x xs (suc k) d (Err m) p = let z : suc k - 1 ≡ k = omega arith in let u : Picks s xs k (Err m) = rw z at p in (u.0, omega (arith, u.1))

module _ (s : List ℕ) (tag e left from k : ℕ) (all : List (ℕ × Tree)) (f : Picking s tag e left from k all) (h : Option Field) (y : h ≡ field_at s from e) where
  pub pick_none : h ≡ None → Picks s all k (Err left)
  pick_none q = f.rest (Err left) (rw (none_left s from e h y tag itself q) (none_of_none s left))

  module _ (fd : Field) (q : h ≡ Some fd) where
    pub pick_skip : (fd.tag ≡ tag → ⊥) → (b : ℕ) → b ≡ fd.stop → Picking s tag e left b k all
    pick_skip d b p = rw p (record { inside = field_in s from e h y fd q; fits_in = f.fits_in; nested = f.nested; rest = λ r i. f.rest r (rw (other_here s from e h y fd q itself tag d) i) })

    module _ (w : fd.tag ≡ tag) where
      parted : each tag itself (tree_at s from e) ≡ (from, tree_at s fd.start fd.stop) ∷ each tag itself (tree_at s fd.stop e)
      unfolding itself
      parted = one_here s from e h y fd q itself tag w f.nested

      pub pick_found : left ≡ 0 → (v : Span) → v ≡ record { start = fd.start; stop = fd.stop } → Picks s all k (Ok v)
      pick_found z v i = rw i (f.rest (Ok (record { start = fd.start; stop = fd.stop })) (rw (parted, z) (from, refl, field_order s from e h y fd q, field_there s from e h y fd q f.fits_in)))

      pub pick_next : (left ≡ 0 → ⊥) → (b : ℕ) → b ≡ fd.stop → Picking s tag e (left - 1) b k all
      pick_next z b p = rw p (record { inside = field_in s from e h y fd q; fits_in = f.fits_in; nested = f.nested; rest = λ r i. f.rest r (rw parted (pick_behind s (from, tree_at s fd.start fd.stop) (each tag itself (tree_at s fd.stop e)) left z r i)) })

pub ruleset picking = (pick_start, pick_none, pick_skip, pick_found, pick_next)
