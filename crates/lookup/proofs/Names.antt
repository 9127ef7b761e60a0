-- The name that fields begin with, and where it stands.
use mathlib.Core.Path.{◌≡◌, refl, ap, ◌∙◌}
use mathlib.Core.List.{List}
use mathlib.Core.Bool.{Bool, true, false}
use Prim.Native.Nat.{ℕ, ◌+◌, ◌-◌, ◌≤◌}
use native.Mathlib.Omega.{arith}
use borrow.Author.Tests.{ne_eqb}
use lib.ListN.{length, take, drop}
use Rattle.std.specs.Prelude.{Option, Some, None}
use Rattle.grammar.specs.MeaningReading.{Reading}
use Rattle.sheet.specs.MeaningName.{Name}
use Rattle.sheet.specs.MirrorField.{field_at}
use Rattle.sheet.specs.declared.Field.{Field}
use Rattle.forest.specs.MeaningPlaces.{nests}
use Rattle.forest.proofs.Laying.{part, length_part}
use Rattle.schemas.specs.MeaningTree.{Tree, tree_at}
use Rattle.schemas.specs.MeaningSchemas.{no_name, name_at, name_of}
use Rattle.schemas.proofs.Trees.{onto}
use Rattle.scope.specs.MeaningNames.{same_name}
use Rattle.lookup.specs.MirrorLookup.{span_of, Lies}
use Rattle.lookup.specs.declared.Span.{Span}
use Rattle.lookup.proofs.Fields.{tree_none, tree_field, field_start, field_order, field_there, nests_name}

no_lies : (s : List ℕ) → Lies s no_name
unfolding no_name
no_lies s = record { within = omega arith; there = refl }

name_other : (b : Bool) (t p : ℕ) (v : List ℕ) (g f : Tree) → (t ≡ 0x10 → ⊥) → name_of (onto b t p v g f) ≡ no_name
unfolding name_of
name_other true t p v g f d = refl
name_other false t p v g f d = rw (ne_eqb t 0x10 d) refl

name_here : (t p : ℕ) (v : List ℕ) (g f : Tree) → t ≡ 0x10 → name_of (onto (nests t) t p v g f) ≡ record { at = p + 3; bytes = v }
unfolding name_of name_at
name_here t p v g f k = rw (k, nests_name) refl

module _ (s : List ℕ) (at e : ℕ) (h : Option Field) (w : h ≡ field_at s at e) where
  bad_name_law : h ≡ None → name_of (tree_at s at e) ≡ no_name
  unfolding name_of
  bad_name_law q = ap name_of (tree_none s at e h w q)

  pub span_none : h ≡ None → record { start = 0; stop = 0 } ≡ span_of (name_of (tree_at s at e))
  unfolding span_of no_name
  span_none q = rw (bad_name_law q) refl

  pub lies_none : h ≡ None → Lies s (name_of (tree_at s at e))
  lies_none q = rw (bad_name_law q) (no_lies s)

  module _ (f : Field) (q : h ≡ Some f) where
    here_name : f.tag ≡ 0x10 → name_of (tree_at s at e) ≡ record { at = at + 3; bytes = part s f.start f.stop }
    here_name k = ap name_of (tree_field s at e h w f q) ∙ name_here f.tag at (part s f.start f.stop) (tree_at s f.start f.stop) (tree_at s f.stop e) k

    other_name : (f.tag ≡ 0x10 → ⊥) → name_of (tree_at s at e) ≡ no_name
    other_name d = ap name_of (tree_field s at e h w f q) ∙ name_other (nests f.tag) f.tag at (part s f.start f.stop) (tree_at s f.start f.stop) (tree_at s f.stop e) d

    pub span_other : (f.tag ≡ 0x10 → ⊥) → record { start = 0; stop = 0 } ≡ span_of (name_of (tree_at s at e))
    unfolding span_of no_name
    span_other d = rw (other_name d) refl

    pub lies_other : (f.tag ≡ 0x10 → ⊥) → Lies s (name_of (tree_at s at e))
    lies_other d = rw (other_name d) (no_lies s)

    long : e ≤ length s → length (part s f.start f.stop) ≡ f.stop - f.start
    long k = length_part s f.start f.stop (field_there s at e h w f q k)

    ends : e ≤ length s → at + 3 + length (part s f.start f.stop) ≡ f.stop
    ends k =
        let l = long k in
        let o = field_order s at e h w f q in
        let z = field_start s at e h w f q in
        omega arith

    pub span_here : e ≤ length s → f.tag ≡ 0x10 → record { start = f.start; stop = f.stop } ≡ span_of (name_of (tree_at s at e))
    unfolding span_of
    span_here k d = rw (here_name d) (rw (ends k, field_start s at e h w f q) refl)

    pub lies_here : e ≤ length s → f.tag ≡ 0x10 → Lies s (name_of (tree_at s at e))
    lies_here k d = rw (here_name d) (record { within = rw (ends k) (field_there s at e h w f q k); there = rw (long k, ← field_start s at e h w f q) refl })

pub ruleset spans = (span_none, lies_none, span_here, lies_here, span_other, lies_other)

-- a span that is a name's
module _ (s : List ℕ) (x : Name) (h : Span) (e : h ≡ span_of x) where
  pub span_order : h.start ≤ h.stop
  unfolding span_of
  span_order = rw e (omega arith)

  module _ (l : Lies s x) where
    pub span_in : h.stop ≤ length s
    unfolding span_of
    span_in = rw e l.within

    pub span_bytes : take (h.stop - h.start) (drop h.start s) ≡ x.bytes
    unfolding span_of
    span_bytes = let z : x.at + length x.bytes - x.at ≡ length x.bytes = omega arith in rw (e, z) l.there

    pub span_same : (rd : Reading) (w : List ℕ) (y : Bool) → y ≡ same_name rd (take (h.stop - h.start) (drop h.start s)) w → y ≡ same_name rd x.bytes w
    span_same rd w y q = q ∙ ap (λ (b : List ℕ). same_name rd b w) span_bytes

pub ruleset spanned = (span_order, span_in, span_same)
