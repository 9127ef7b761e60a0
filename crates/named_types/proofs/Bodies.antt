-- The first of a type's fields 21 to 24: the laws of `body_at`.
use mathlib.Core.Path.{◌≡◌, refl, sym, ap, ◌∙◌}
use mathlib.Core.List.{List}
use mathlib.Core.Bool.{Bool, true, false}
use Prim.Native.Nat.{ℕ, ◌+◌, ◌≤◌}
use borrow.Author.Tests.{ne_eqb}
use lib.ListN.{length}
use Rattle.grammar.specs.MeaningGrammar.{kind_of, one_of}
use Rattle.sheet.specs.MirrorField.{field_at}
use Rattle.std.specs.Prelude.{Option, Some, None}
use Rattle.sheet.specs.declared.Field.{Field}
use Rattle.forest.specs.MeaningPlaces.{nests}
use Rattle.forest.proofs.Laying.{part}
use Rattle.schemas.specs.MeaningTree.{Tree, tree_at}
use Rattle.schemas.specs.MeaningSchemas.{Body, name_at, body_of}
use Rattle.schemas.specs.MeaningSchemas.Body.{simple, enumeration, named, other}
use Rattle.schemas.proofs.Trees.{onto}
use Rattle.lookup.proofs.Fields.{tree_none, tree_field, field_start, field_order, field_in, field_there}
use Rattle.named_types.specs.MirrorCode.{name_within, BodyIs}
use Rattle.named_types.specs.declared.Body.TheVariants.{Simple, Enumeration, Named, Other}

-- ---- a field by its tag

module _ (t p : ℕ) (v : List ℕ) (g f : Tree) where
  simple_here : t ≡ 0x21 → (k : ℕ) × (body_of (onto (nests t) t p v g f) ≡ simple k)
  unfolding body_of kind_of one_of
  simple_here e = rw e (lib.ListN.get_or v 0 0, refl)

  enumeration_here : t ≡ 0x22 → body_of (onto (nests t) t p v g f) ≡ enumeration
  unfolding body_of kind_of one_of
  enumeration_here e = rw e refl

  named_here : t ≡ 0x23 → body_of (onto (nests t) t p v g f) ≡ named (record { at = p + 3; bytes = v })
  unfolding body_of kind_of one_of name_at
  named_here e = rw e refl

  other_here : t ≡ 0x24 → body_of (onto (nests t) t p v g f) ≡ other
  unfolding body_of kind_of one_of
  other_here e = rw e refl

  none_here : (t ≡ 0x21 → ⊥) → (t ≡ 0x22 → ⊥) → (t ≡ 0x23 → ⊥) → (t ≡ 0x24 → ⊥) → body_of (onto (nests t) t p v g f) ≡ body_of f
  unfolding body_of
  none_here a b c d = by (nests t)
    where
      by : (n : Bool) → body_of (onto n t p v g f) ≡ body_of f
      by true = refl
      by false = rw (ne_eqb t 0x21 a, ne_eqb t 0x22 b, ne_eqb t 0x23 c, ne_eqb t 0x24 d) refl

-- ---- the fields that are left have the body of all

pub record Bodying (s : List ℕ) (e from : ℕ) (all : Body) : Type 0 where
  pub within : from ≤ e
  pub inside : e ≤ length s
  pub rest : body_of (tree_at s from e) ≡ all

pub body_start : (s : List ℕ) (at e : ℕ) → at ≤ e → e ≤ length s → Bodying s e at (body_of (tree_at s at e))
body_start s at e h k = record { within = h; inside = k; rest = refl }

module _ (s : List ℕ) (e from : ℕ) (all : Body) (B : Bodying s e from all) (h : Option Field) (y : h ≡ field_at s from e) where
  pub body_none : h ≡ None → BodyIs s all Other
  unfolding body_of
  body_none q = sym B.rest ∙ ap body_of (tree_none s from e h y q)

  module _ (f : Field) (q : h ≡ Some f) where
    here : {x : Body} → body_of (onto (nests f.tag) f.tag from (part s f.start f.stop) (tree_at s f.start f.stop) (tree_at s f.stop e)) ≡ x → all ≡ x
    here z = sym B.rest ∙ ap body_of (tree_field s from e h y f q) ∙ z

    pub body_simple : f.tag ≡ 0x21 → BodyIs s all Simple
    body_simple k = let z = simple_here f.tag from (part s f.start f.stop) (tree_at s f.start f.stop) (tree_at s f.stop e) k in (z.0, here z.1)

    pub body_enumeration : f.tag ≡ 0x22 → BodyIs s all Enumeration
    body_enumeration k = here (enumeration_here f.tag from (part s f.start f.stop) (tree_at s f.start f.stop) (tree_at s f.stop e) k)

    pub body_named : f.tag ≡ 0x23 → BodyIs s all (Named (record { start = f.start; stop = f.stop }))
    unfolding name_within
    body_named k = (
      here (named_here f.tag from (part s f.start f.stop) (tree_at s f.start f.stop) (tree_at s f.stop e) k) ∙ ap (λ (n : ℕ). named (record { at = n; bytes = part s f.start f.stop })) (sym (field_start s from e h y f q)),
      field_order s from e h y f q,
      field_there s from e h y f q B.inside,
    )

    pub body_other : f.tag ≡ 0x24 → BodyIs s all Other
    body_other k = here (other_here f.tag from (part s f.start f.stop) (tree_at s f.start f.stop) (tree_at s f.stop e) k)

    pub body_on : (f.tag ≡ 0x21 → ⊥) → (f.tag ≡ 0x22 → ⊥) → (f.tag ≡ 0x23 → ⊥) → (f.tag ≡ 0x24 → ⊥) → Bodying s e f.stop all
    body_on u v w x = record { within = field_in s from e h y f q; inside = B.inside; rest = sym (here (none_here f.tag from (part s f.start f.stop) (tree_at s f.start f.stop) (tree_at s f.stop e) u v w x)) }

pub ruleset bodying = (body_start, body_none, body_simple, body_enumeration, body_named, body_other, body_on)
