-- One field of a query: what `field_at` answers, by the bytes, and so which step or name stands there.
use mathlib.Core.Path.{◌≡◌, refl, sym, ap, ◌∙◌, subst}
use mathlib.Core.List.{List}
use mathlib.Core.Option.{Option, none, some}
use mathlib.Core.Bool.{Bool, true, false, and-false}
use Prim.Native.Nat.{ℕ, ◌+◌, ◌-◌, ◌≤◌}
use native.Mathlib.Nat.{le_refl}
use native.Mathlib.Omega.{arith}
use borrow.Author.Tests.{eq-eqb, ne_eqb, le-leb, lt-leb, leb-true, ltb-true, ltb-false}
use lib.Dec.{eqb, leb, ltb}
use lib.ListN.{length, take, drop, length-take, length-drop}
use Rattle.std.specs.Prelude as code
use Rattle.std.specs.Prelude.{Some, None}
use Rattle.sheet.specs.MeaningName.{Name, is_name}
use Rattle.sheet.specs.MeaningSheet.{tag_of, size_of, end_of, value_of}
use Rattle.sheet.specs.MirrorField.{field_at}
use Rattle.sheet.specs.declared.Field.{Field}
use Rattle.grammar.proofs.Choosing.{either, clash}
use Rattle.sheet.proofs.Deciding.{value_order, value_in}
use Rattle.scope.specs.MeaningScope as meaning
use Rattle.scope.specs.MeaningScope.{tag_for, stop}
use Rattle.query.specs.MeaningQuery.{name_at, tagged, kind_for, step_of, step_at, word_at}
use Rattle.scope.specs.Held.{kind_in, rung_of}
use Rattle.query.specs.MirrorQuery.{kind_out, step_out, word_out}
use Rattle.scope.specs.declared.ScopeType.{ScopeType}

-- ---- tags

-- each kind has its own tag
pub own_tag : (k : meaning.ScopeType) → kind_for (tag_for k) ≡ some k
unfolding tagged
own_tag meaning.ScopeType.entity = refl
own_tag meaning.ScopeType.alias = refl
own_tag meaning.ScopeType.function = refl
own_tag meaning.ScopeType.procedure = refl
own_tag meaning.ScopeType.query = refl
own_tag meaning.ScopeType.repeat = refl
own_tag meaning.ScopeType.rule = refl
own_tag meaning.ScopeType.schema = refl
own_tag meaning.ScopeType.sub_type = refl
own_tag meaning.ScopeType.type = refl

kind_none : (m : Option meaning.ScopeType) (g : code.Option ScopeType) → g ≡ kind_out m → g ≡ None → m ≡ none
unfolding kind_out
kind_none none g e f = refl
kind_none (some k) g e f = let z : ◌≡◌ {A = code.Option ScopeType} (Some (kind_in k)) None = sym e ∙ f in clash (cc)

kind_some : (m : Option meaning.ScopeType) (g : code.Option ScopeType) (k : ScopeType) → g ≡ kind_out m → g ≡ Some k → (x : meaning.ScopeType) × (m ≡ some x) × (kind_in x ≡ k)
unfolding kind_out
kind_some none g k e f = let z : ◌≡◌ {A = code.Option ScopeType} None (Some k) = sym e ∙ f in clash (cc)
kind_some (some x) g k e f = let z : Some (kind_in x) ≡ Some k = sym e ∙ f in (x, refl, cc)

-- where no name stands, no step does
pub no_name : (k : Option meaning.ScopeType) → step_of k none ≡ none
no_name none = refl
no_name (some k) = refl

-- ---- what a field says of the bytes

module _ (q : List ℕ) (at : ℕ) where
  abbrev Says : code.Option Field → Type 0
  Says None = leb (end_of q at) (length q) ≡ false
  Says (Some f) = (f.tag ≡ tag_of q at) × (f.start ≡ at + 3) × (f.stop ≡ end_of q at) × (leb (end_of q at) (length q) ≡ true)

  says : Says (field_at q at (length q))
  unfolding field_at
  says =
      either Says (ltb (length q - at) 3) None _ (λ h. lt-leb (end_of q at) (length q) (omega (arith, ltb-true (length q - at) 3 h)))
      (λ h. either Says (ltb (length q - (at + 3)) (size_of q at)) None _ (λ k. lt-leb (end_of q at) (length q) (omega (arith, ltb-true (length q - (at + 3)) (size_of q at) k)))
      (λ k. (refl, refl, refl, le-leb (end_of q at) (length q) (omega (arith, ltb-false (length q - at) 3 h, ltb-false (length q - (at + 3)) (size_of q at) k)))))

  no_step : name_at q at ≡ none → None ≡ step_out (step_at q at)
  unfolding step_at step_out
  no_step e = rw (e, no_name (kind_for (tag_of q at))) refl

  -- a name that stands in the field ends where the field does
  pub name_ends : leb (end_of q at) (length q) ≡ true → at + 3 + length (value_of q at) ≡ end_of q at
  name_ends e = let l = leb-true (end_of q at) (length q) e in let n : length (value_of q at) ≡ size_of q at = simp (length-take, length-drop) (omega arith) in rw n refl

  module _ (end : ℕ) (l : end ≡ length q) (h : code.Option Field) (w : h ≡ field_at q at end) where
    told : field_at q at (length q) ≡ h
    told = rw (← l) (sym w)

    passed : h ≡ None → name_at q at ≡ none
    unfolding name_at
    passed e = let s : Says None = subst Says (told ∙ e) says in rw s refl

    pub step_passes : h ≡ None → None ≡ step_out (step_at q at)
    step_passes e = no_step (passed e)

    pub word_passes : h ≡ None → None ≡ word_out (word_at q at)
    unfolding word_at word_out
    word_passes e = rw (passed e) (either (λ (m : Option Name). None ≡ word_out m) (eqb (tag_of q at) 0x10) none none (λ _. refl) (λ _. refl))

    module _ (f : Field) (e : h ≡ Some f) where
      here : Says (Some f)
      here = subst Says (told ∙ e) says

      value_is : take (f.stop - f.start) (drop f.start q) ≡ value_of q at
      value_is = let s = here in let n : f.stop - f.start ≡ size_of q at = omega (arith, s.1, s.2) in rw (n, s.1) refl

      pub step_other : (g : code.Option ScopeType) → g ≡ kind_out (kind_for f.tag) → g ≡ None → None ≡ step_out (step_at q at)
      unfolding step_at step_out
      step_other g y k = rw (← here.0, kind_none (kind_for f.tag) g y k) refl

      pub word_other : (f.tag ≡ 0x10 → ⊥) → None ≡ word_out (word_at q at)
      unfolding word_at word_out
      word_other k = rw (← here.0, ne_eqb f.tag 0x10 k) refl

      module _ (x : Bool) (z : x ≡ is_name (take (f.stop - f.start) (drop f.start q))) where
        spelt : x ≡ is_name (value_of q at)
        spelt = z ∙ ap is_name value_is

        misspelt : x ≡ false → name_at q at ≡ none
        unfolding name_at
        misspelt o = rw (sym spelt ∙ o, and-false (leb (end_of q at) (length q))) refl

        named : x ≡ true → name_at q at ≡ some (record { at = at + 3; bytes = value_of q at })
        unfolding name_at
        named o = rw (here.3, sym spelt ∙ o) refl

        ends : at + 3 + length (value_of q at) ≡ f.stop
        ends = name_ends here.3 ∙ sym here.2

        pub step_wrong : x ≡ false → None ≡ step_out (step_at q at)
        step_wrong o = no_step (misspelt o)

        found : (k : meaning.ScopeType) → kind_for f.tag ≡ some k → x ≡ true → step_out (step_at q at) ≡ Some (record { kind = kind_in k; start = f.start; stop = f.stop })
        unfolding step_at step_out rung_of
        found k m o = rw (← here.0, m, named o, ends, here.1) refl

        pub step_found : (g : code.Option ScopeType) → g ≡ kind_out (kind_for f.tag) → (k : ScopeType) → g ≡ Some k → x ≡ true → Some (record { kind = k; start = f.start; stop = f.stop }) ≡ step_out (step_at q at)
        step_found g y k i o = let c = kind_some (kind_for f.tag) g k y i in sym (found c.0 c.1 o ∙ rw c.2 refl)

        pub word_wrong : x ≡ false → None ≡ word_out (word_at q at)
        unfolding word_at word_out
        word_wrong o = rw (misspelt o) (either (λ (m : Option Name). None ≡ word_out m) (eqb (tag_of q at) 0x10) none none (λ _. refl) (λ _. refl))

        pub word_found : f.tag ≡ 0x10 → x ≡ true → Some f ≡ word_out (word_at q at)
        unfolding word_at word_out
        word_found j o = sym (rw (← here.0, eq-eqb f.tag 0x10 j, named o, ends, here.1, j) refl)

      pub field_order : f.start ≤ f.stop
      field_order = value_order q at end f (sym w ∙ e)

      pub field_inside : f.stop ≤ length q
      field_inside = value_in q at end f (sym w ∙ e) (rw l (le_refl (length q)))

pub ruleset standing = (step_passes, step_other, step_wrong, step_found, word_passes, word_other, word_wrong, word_found, field_order, field_inside)
