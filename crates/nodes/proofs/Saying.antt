-- What bytes say: a reference, or a kind with its terms.
use mathlib.Core.Path.{◌≡◌, refl, sym}
use mathlib.Core.List.{List, [], ◌∷◌, ◌++◌, append_assoc, append-nil}
use Prim.Native.Nat.{ℕ, zero, suc, ◌+◌, ◌≤◌}
use native.Mathlib.Omega.{arith}
use lib.ListN.{length, length-append}
use Rattle.expression.specs.MeaningExpression.{Expr, reference, andor, «and», oneof, Terms, end, ◌then◌, append}
use Rattle.expression.specs.MirrorNodes.{node, flat, flats, height, heights}
use Rattle.nodes.specs.MeaningBytes.{field_of, bytes_of, bytes_of_all}

-- the expression of a kind, with these terms
abbrev pub made : ℕ → Terms ℕ → Expr ℕ
made zero t = oneof t
made (suc zero) t = andor t
made (suc (suc zero)) t = «and» t
made (suc (suc (suc k))) t = oneof t

-- e is of this kind, with these terms
pub record Kinded (e : Expr ℕ) (kind : ℕ) (t : Terms ℕ) : Type 0 where
  pub is : e ≡ made kind t
  pub low : 1 ≤ kind
  pub high : kind ≤ 3
  pub bytes : bytes_of e ≡ field_of (80 + kind) (bytes_of_all t)
  pub numbers : flat e ≡ node kind (flats t)
  pub levels : height e ≡ suc (heights t)

pub an_andor : (t : Terms ℕ) → Kinded (andor t) 1 t
unfolding bytes_of flat height
an_andor t = record { is = refl; low = omega arith; high = omega arith; bytes = refl; numbers = refl; levels = refl }

pub an_and : (t : Terms ℕ) → Kinded («and» t) 2 t
unfolding bytes_of flat height
an_and t = record { is = refl; low = omega arith; high = omega arith; bytes = refl; numbers = refl; levels = refl }

pub a_oneof : (t : Terms ℕ) → Kinded (oneof t) 3 t
unfolding bytes_of flat height
a_oneof t = record { is = refl; low = omega arith; high = omega arith; bytes = refl; numbers = refl; levels = refl }

-- each kind has its expression
pub of_kind : (kind : ℕ) (t : Terms ℕ) → 1 ≤ kind → kind ≤ 3 → (e : Expr ℕ) × Kinded e kind t
of_kind zero t a b = absurd (omega arith)
of_kind (suc zero) t a b = (andor t, an_andor t)
of_kind (suc (suc zero)) t a b = («and» t, an_and t)
of_kind (suc (suc (suc zero))) t a b = (oneof t, a_oneof t)
of_kind (suc (suc (suc (suc k)))) t a b = absurd (omega arith)

-- and each expression that is no reference its kind
pub data View : Expr ℕ → Type 0 where
  a_name : (n : ℕ) → View (reference n)
  a_kind : {e : Expr ℕ} (kind : ℕ) (t : Terms ℕ) → Kinded e kind t → View e

pub view : (e : Expr ℕ) → View e
view (reference n) = a_name n
view (andor t) = a_kind 1 t (an_andor t)
view («and» t) = a_kind 2 t (an_and t)
view (oneof t) = a_kind 3 t (a_oneof t)

-- a reference's bytes, numbers and level
pub name_bytes : (n : ℕ) → bytes_of (reference n) ≡ 80 ∷ 0 ∷ 2 ∷ 0 ∷ n ∷ []
unfolding bytes_of
name_bytes n = refl

pub name_numbers : (n : ℕ) → flat (reference n) ≡ 0 ∷ n ∷ 3 ∷ []
unfolding flat
name_numbers n = refl

pub name_levels : (n : ℕ) → height (reference n) ≡ 1
unfolding height
name_levels n = refl

-- ---- every expression
-- is a field
pub record Framed (e : Expr ℕ) : Type 0 where
  pub tag : ℕ
  pub value : List ℕ
  pub is : bytes_of e ≡ field_of tag value
  pub low : 80 ≤ tag
  pub high : tag ≤ 83

pub framing : (e : Expr ℕ) → Framed e
framing e = from (view e)
  where
    from : {e : Expr ℕ} → View e → Framed e
    from (a_name n) = record { tag = 80; value = 0 ∷ n ∷ []; is = name_bytes n; low = omega arith; high = omega arith }
    from (a_kind kind t k) = record { tag = 80 + kind; value = bytes_of_all t; is = k.bytes; low = omega arith; high = omega (arith, k.high) }

-- takes a node's numbers at least, and a level
pub three : (e : Expr ℕ) → 3 ≤ length (flat e)
unfolding flat
three (reference n) = omega arith
three (andor t) = omega arith
three («and» t) = omega arith
three (oneof t) = omega arith

pub a_level : (e : Expr ℕ) → 1 ≤ height e
unfolding height
a_level (reference n) = omega arith
a_level (andor t) = omega arith
a_level («and» t) = omega arith
a_level (oneof t) = omega arith

-- ---- terms: a term behind terms
abbrev pub grown : Terms ℕ → Expr ℕ → Terms ℕ
grown t e = append t (e then end)

pub grown_bytes : (t : Terms ℕ) (e : Expr ℕ) → bytes_of_all (grown t e) ≡ bytes_of_all t ++ bytes_of e
unfolding bytes_of
grown_bytes end e = append-nil (bytes_of e)
grown_bytes (x then t) e = rw (grown_bytes t e) (sym (append_assoc (bytes_of x) (bytes_of_all t) (bytes_of e)))

pub grown_numbers : (t : Terms ℕ) (e : Expr ℕ) → flats (grown t e) ≡ flats t ++ flat e
unfolding flat
grown_numbers end e = append-nil (flat e)
grown_numbers (x then t) e = rw (grown_numbers t e) (sym (append_assoc (flat x) (flats t) (flat e)))

pub grown_levels : (t : Terms ℕ) (e : Expr ℕ) (d : ℕ) → heights t ≤ d → height e ≤ d → heights (grown t e) ≤ d
unfolding height
grown_levels end e d a b = omega arith
grown_levels (x then t) e d a b = omega (arith, grown_levels t e d (omega arith) b)

-- no terms, and a first one
pub end_bytes : bytes_of_all end ≡ []
unfolding bytes_of
end_bytes = refl

pub end_numbers : flats end ≡ []
unfolding flat
end_numbers = refl

pub end_levels : heights end ≡ 0
unfolding height
end_levels = refl

pub then_bytes : (e : Expr ℕ) (t : Terms ℕ) → bytes_of_all (e then t) ≡ bytes_of e ++ bytes_of_all t
unfolding bytes_of
then_bytes e t = refl

pub then_numbers : (e : Expr ℕ) (t : Terms ℕ) → length (flats (e then t)) ≡ length (flat e) + length (flats t)
unfolding flat
then_numbers e t = length-append (flat e) (flats t)

pub then_levels : (e : Expr ℕ) (t : Terms ℕ) → (height e ≤ heights (e then t)) × (heights t ≤ heights (e then t))
unfolding height
then_levels e t = (omega arith, omega arith)
