-- A `resolve` query: the name behind the steps.
use mathlib.Core.Path.{◌≡◌, refl, sym, ap, ◌∙◌}
use mathlib.Core.List.{List}
use mathlib.Core.Option.{Option, none, some}
use Prim.Native.Nat.{ℕ}
use borrow.Author.Tests.{eq-eqb, ne_eqb}
use lib.ListN.{length}
use Rattle.std.specs.Prelude as code
use Rattle.std.specs.Prelude.{Some, None, Ok, Err}
use Rattle.refusal.specs.declared.Reason.TheVariants.{Malformed}
use Rattle.refusal.specs.declared.Refusal.{Refusal}
use Rattle.sheet.specs.MeaningName.{Name}
use Rattle.sheet.specs.declared.Field.{Field}
use Rattle.grammar.proofs.Choosing.{clash}
use Rattle.scope.specs.MeaningScope.{stop}
use Rattle.scope.specs.Held.{scope_of}
use Rattle.scope.specs.declared.Scope.{Scope}
use Rattle.query.specs.MeaningQuery.{word_at, asked, resolve_query}
use Rattle.query.specs.MirrorQuery.{word_out, word_in, past_of, moved_to, past_word, front, asked_by, name_in}
use Rattle.query.specs.declared.Place.{Place}

word_none : (m : Option Name) (o : code.Option Field) → o ≡ word_out m → o ≡ None → m ≡ none
unfolding word_out
word_none none o e f = refl
word_none (some x) o e f = let g : ◌≡◌ {A = code.Option Field} None (Some (record { tag = 0x10; start = x.at; stop = stop x })) = sym f ∙ e in clash (cc)

word_some : (m : Option Name) (o : code.Option Field) (r : Field) → o ≡ word_out m → o ≡ Some r → (x : Name) × (m ≡ some x) × (x.at ≡ r.start) × (stop x ≡ r.stop)
unfolding word_out
word_some none o r e f = let g : ◌≡◌ {A = code.Option Field} None (Some r) = sym e ∙ f in clash (cc)
word_some (some x) o r e f =
    let g : Some (record { tag = 0x10; start = x.at; stop = stop x }) ≡ Some r = sym e ∙ f in
    let k : record { tag = 0x10; start = x.at; stop = stop x } ≡ r = cc in
    (x, refl, ap (λ (r : Field). r.start) k, ap (λ (r : Field). r.stop) k)

-- behind the steps
module _ (q : List ℕ) (s : Scope) (h : s ≡ scope_of (front q).steps) (p : Place) (k : p ≡ moved_to (front q).after (record { at = 0; end = length q })) where
  module _ (n : code.Option Field) (e : n ≡ word_in q p.at) (r : Place) (m : r ≡ past_word q p) where
    word_is : n ≡ word_out (word_at q (front q).after)
    word_is = rw k at e

    moved : r.at ≡ past_of (λ (x : Field). x.stop) n (front q).after
    moved = ap (λ (p : Place). p.at) (m ∙ ap (past_word q) k) ∙ rw word_is refl

    at_end : r.end ≡ length q
    at_end = rw (m, k) refl

    pub ask_none : n ≡ None → (w : Refusal) → w ≡ record { reason = Malformed; place = r.at } → Err w ≡ asked_by name_in (resolve_query q)
    unfolding resolve_query asked asked_by past_of
    ask_none f w z =
        let a : r.at ≡ (front q).after = moved ∙ rw f refl in
        rw (z, a, word_none (word_at q (front q).after) n word_is f) refl

    module _ (x : Field) (f : n ≡ Some x) where
      named : (w : Name) × (word_at q (front q).after ≡ some w) × (w.at ≡ x.start) × (stop w ≡ x.stop)
      named = word_some (word_at q (front q).after) n x word_is f

      at_stop : r.at ≡ x.stop
      unfolding past_of
      at_stop = moved ∙ rw f refl

      pub ask_more : (r.at ≡ r.end → ⊥) → (w : Refusal) → w ≡ record { reason = Malformed; place = r.at } → Err w ≡ asked_by name_in (resolve_query q)
      unfolding resolve_query asked asked_by
      ask_more d w z = rw (z, at_stop) (sym (rw (named.1, named.3, ne_eqb x.stop (length q) (λ i. d (at_stop ∙ i ∙ sym at_end))) refl))

      pub ask_whole : r.at ≡ r.end → Ok (record { scope = s; start = x.start; stop = x.stop }) ≡ asked_by name_in (resolve_query q)
      unfolding resolve_query asked asked_by name_in
      ask_whole d = sym (rw (named.1, named.3, eq-eqb x.stop (length q) (sym at_stop ∙ d ∙ at_end), named.3, named.2, ← h) refl)

pub ruleset asking = (ask_none, ask_more, ask_whole)
