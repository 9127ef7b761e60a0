-- Where expressions stand: the first of a value, and that of an entity's rule.
use mathlib.Core.Path.{◌≡◌, refl, sym, ap, ◌∙◌, subst}
use mathlib.Core.List.{List}
use mathlib.Core.Bool.{Bool, true, false, cond}
use mathlib.Core.Option.{Option, none}
use Rattle.std.specs.Prelude.{Some, None}
use Rattle.std.specs.Prelude as prelude
use Prim.Native.Nat.{ℕ, ◌≤◌}
use native.Mathlib.Omega.{arith}
use lib.Dec.{eqb}
use lib.ListN.{length}
use Rattle.grammar.specs.MeaningReading.{Reading}
use Rattle.grammar.specs.MeaningReading.Reading.{rust}
use Rattle.sheet.specs.MeaningName.{Name}
use Rattle.sheet.specs.Told.{told_reading}
use Rattle.sheet.specs.declared.Reading as code
use Rattle.sheet.specs.declared.Field.{Field}
use Rattle.schemas.specs.MeaningTree.{tree_at}
use Rattle.schemas.specs.MeaningTree.Tree.{nil}
use Rattle.schemas.specs.MeaningSchemas.{terms_of, first_of, expr_of, mark_of}
use Rattle.expression.specs.MeaningExpression.{Expr}
use Rattle.records.specs.MeaningResolving.{rule_of}
use Rattle.records.specs.MirrorRecords.{Meets, no_more, next, SpellsExpr, no_expr, there, gives_rule}
use Rattle.records.proofs.Seeking.{met, met_none, terms_sought, mark_sought, terms_front, rule_front}

-- ---- the first of a value

pub spelt_first : (s : List ℕ) (at e : ℕ) (h : prelude.Option Field) → e ≤ length s → Meets s at e 0x50 0x53 h → SpellsExpr s (expr_of (tree_at s at e)) h
unfolding expr_of first_of terms_of
spelt_first s at e None l (no_more z) = no_expr (ap first_of (terms_sought (tree_at s at e) ∙ ap terms_of z))
spelt_first s at e (Some d) l (next m) =
    there (record {
      is = ap first_of (terms_sought (tree_at s at e) ∙ ap terms_of m.seeks ∙ terms_front s d.start d.stop (omega (arith, m.behind)) (tree_at s d.stop e) d.tag m.from m.to);
      from = m.from;
      to = m.to;
      rising = m.rising;
      within = omega (arith, m.within);
    })

pub ruleset spelling = (spelt_first)

-- ---- that of a rule

pub gives : (r : code.Reading) (t : ℕ) (x : Bool) → x ≡ eqb t 0x31 → x ≡ gives_rule (told_reading r) t
unfolding gives_rule told_reading
gives code.TheVariants.Rust t x q = q

pub ruleset giving = (gives)

module _ (rd : Reading) (s : List ℕ) (at e : ℕ) (h : prelude.Option Field) (m : Meets s at e 0x31 0x33 h) where
  pub rule_unmarked : h ≡ None → SpellsExpr s (rule_of rd (mark_of (tree_at s at e))) None
  unfolding mark_of rule_of
  rule_unmarked q = no_expr (ap (rule_of rd) (mark_sought (tree_at s at e) ∙ ap mark_of (met_none m q)) ∙ by rd)
    where
      by : (rd : Reading) → rule_of rd (mark_of nil) ≡ none
      by rust = refl

  module _ (d : Field) (q : h ≡ Some d) where
    rule_here : rule_of rd (mark_of (tree_at s at e)) ≡ cond (gives_rule rd d.tag) (expr_of (tree_at s d.start d.stop)) none
    rule_here = let x = met m d q in ap (rule_of rd) (mark_sought (tree_at s at e) ∙ ap mark_of x.seeks) ∙ rule_front s d.start d.stop (omega (arith, x.behind)) (tree_at s d.stop e) rd d.tag x.from x.to

    module _ (x : Bool) (g : x ≡ gives_rule rd d.tag) where
      pub rule_none : x ≡ false → SpellsExpr s (rule_of rd (mark_of (tree_at s at e))) None
      rule_none z = no_expr (rule_here ∙ rw (sym g ∙ z) refl)

      pub rule_given : x ≡ true → (k : prelude.Option Field) → SpellsExpr s (expr_of (tree_at s d.start d.stop)) k → SpellsExpr s (rule_of rd (mark_of (tree_at s at e))) k
      rule_given z k w = subst (λ (o : Option (Expr Name)). SpellsExpr s o k) (sym (rule_here ∙ rw (sym g ∙ z) refl)) w

pub ruleset ruling = (rule_unmarked, rule_none, rule_given)
