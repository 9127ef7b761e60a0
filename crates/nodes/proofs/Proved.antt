-- The claims, proved.
use mathlib.Core.Path.{◌≡◌, refl, sym, ap, ◌∙◌}
use mathlib.Core.List.{List, [], ◌∷◌, ◌++◌}
use Prim.Native.Nat.{ℕ, ◌+◌}
use native.Mathlib.Omega.{arith}
use lib.ListN.{length, take, drop, get_or, length-append}
use lib.Seq.{take_at, drop_at, take-append_seam, drop-append_seam}
use Rattle.expression.specs.MeaningExpression.{Expr, reference, andor, «and», oneof, Terms, end, ◌then◌}
use Rattle.nodes.specs.MeaningBytes.{field_of, bytes_of, bytes_of_all}
use Rattle.nodes.specs.MirrorBuilding.{Sort, an_expression, some_terms, Reads}
use Rattle.nodes.specs.Claims.{Example, OneExpression, OneTerms, OneOutcome, OneReadNode, OneReadTerms}
use Rattle.std.specs.Prelude.{Option, Some, None}
use Rattle.nodes.proofs.Fields.{as_long}
use Rattle.nodes.proofs.Saying.{Kinded, made, an_andor, an_and, a_oneof, View, a_name, a_kind, view, name_bytes, framing, end_bytes, then_bytes}

pub example : Example
unfolding bytes_of
example = refl

-- ---- bytes say one expression at most
split : (d e : Expr ℕ) (k l : List ℕ) → bytes_of d ++ k ≡ bytes_of e ++ l → (bytes_of d ≡ bytes_of e) × (k ≡ l)
split d e k l same =
    let f = framing d in
    let g = framing e in
    let h : field_of f.tag f.value ++ k ≡ field_of g.tag g.value ++ l = ap (λ (q : List ℕ). q ++ k) (sym f.is) ∙ same ∙ ap (λ (q : List ℕ). q ++ l) g.is in
    let i : length (bytes_of d) ≡ length (bytes_of e) = omega (arith, ap length f.is, ap length g.is, as_long f.tag g.tag f.value g.value k l h) in
    let n = length (bytes_of e) in (
      sym (take_at (bytes_of d) k n i) ∙ ap (λ (q : List ℕ). take n q) same ∙ take-append_seam (bytes_of e) l,
      sym (drop_at (bytes_of d) k n i) ∙ ap (λ (q : List ℕ). drop n q) same ∙ drop-append_seam (bytes_of e) l,
    )

tags : (a b : ℕ) (v w : List ℕ) → field_of a v ≡ field_of b w → a ≡ b
tags a b v w e = ap (λ (l : List ℕ). get_or l 0 0) e

name_once : (m : ℕ) {e : Expr ℕ} → View e → bytes_of (reference m) ≡ bytes_of e → reference m ≡ e
name_once m (a_name n) same = ap reference (ap (λ (l : List ℕ). get_or l 4 0) (sym (name_bytes m) ∙ same ∙ name_bytes n))
name_once m (a_kind kind t k) same = absurd (omega (arith, k.low, tags 80 (80 + kind) (0 ∷ m ∷ []) (bytes_of_all t) (sym (name_bytes m) ∙ same ∙ k.bytes)))

-- by its terms
kind_once : {d e : Expr ℕ} (kind : ℕ) (t : Terms ℕ) → Kinded d kind t → ((u : Terms ℕ) → bytes_of_all t ≡ bytes_of_all u → t ≡ u) → View e → bytes_of d ≡ bytes_of e → d ≡ e
kind_once kind t k once (a_name n) same = absurd (omega (arith, k.low, tags (80 + kind) 80 (bytes_of_all t) (0 ∷ n ∷ []) (sym k.bytes ∙ same ∙ name_bytes n)))
kind_once kind t k once (a_kind other u o) same =
    let f : field_of (80 + kind) (bytes_of_all t) ≡ field_of (80 + other) (bytes_of_all u) = sym k.bytes ∙ same ∙ o.bytes in
    let a : kind ≡ other = omega (arith, tags (80 + kind) (80 + other) (bytes_of_all t) (bytes_of_all u) f) in
    let b : t ≡ u = once u (ap (λ (l : List ℕ). drop 3 l) f) in
    k.is ∙ ap (λ (i : ℕ). made i t) a ∙ ap (made other) b ∙ sym o.is

some_bytes : (e : Expr ℕ) (t : Terms ℕ) → bytes_of_all (e then t) ≡ bytes_of_all end → ⊥
some_bytes e t same =
    let f = framing e in
    let z : length (bytes_of e ++ bytes_of_all t) ≡ 0 = ap length (sym (then_bytes e t) ∙ same ∙ end_bytes) in
    omega (arith, length-append (bytes_of e) (bytes_of_all t), ap length f.is)

mutual
  pub one_expression : OneExpression
  one_expression (reference m) e same = name_once m (view e) same
  one_expression (andor t) e same = kind_once 1 t (an_andor t) (λ u h. one_terms t u h) (view e) same
  one_expression («and» t) e same = kind_once 2 t (an_and t) (λ u h. one_terms t u h) (view e) same
  one_expression (oneof t) e same = kind_once 3 t (a_oneof t) (λ u h. one_terms t u h) (view e) same

  pub one_terms : OneTerms
  one_terms end end same = refl
  one_terms end (e then u) same = absurd (some_bytes e u (sym same))
  one_terms (d then t) end same = absurd (some_bytes d t same)
  one_terms (d then t) (e then u) same =
      let s = split d e (bytes_of_all t) (bytes_of_all u) (sym (then_bytes d t) ∙ same ∙ then_bytes e u) in
      let a : d ≡ e = one_expression d e s.0 in
      let b : t ≡ u = one_terms t u s.1 in
      cc

-- ---- reading has one outcome
module _ (S : Sort) (once : (x y : S.Thing) → S.bytes x ≡ S.bytes y → x ≡ y) where
  used_too : (bytes before a b : List ℕ) (calls used : ℕ) (r s : Option ℕ) → length a ≡ length before → Reads S bytes calls used before a r → Reads S bytes calls used before b s
      → (n : ℕ) → r ≡ Some n → s ≡ Some n
  used_too bytes before a b calls used r s long f g n given =
      let w = f.only n given in
      g.every w.thing w.says w.deep (omega (arith, w.inside, w.ends)) ∙ ap Some (sym w.ends)

  one_outcome : OneOutcome S
  one_outcome bytes before a b calls used r s i j f g = (answers r s refl refl, numbers)
    where
      answers : (x y : Option ℕ) → r ≡ x → s ≡ y → r ≡ s
      answers (Some n) y p q = p ∙ sym (used_too bytes before a b calls used r s i f g n p)
      answers None (Some n) p q = used_too bytes before b a calls used s r j g f n q ∙ sym q
      answers None None p q = p ∙ sym q

      numbers : (n : ℕ) → r ≡ Some n → take n a ≡ take n b
      numbers n given =
          let v = f.only n given in
          let w = g.only n (used_too bytes before a b calls used r s i f g n given) in
          let k : v.thing ≡ w.thing = once v.thing w.thing (sym v.says ∙ w.says) in
          v.front ∙ ap (λ (x : S.Thing). take used before ++ S.numbers x) k ∙ sym w.front

pub one_read_node : OneReadNode
one_read_node = one_outcome an_expression one_expression

pub one_read_terms : OneReadTerms
one_read_terms = one_outcome some_terms one_terms
