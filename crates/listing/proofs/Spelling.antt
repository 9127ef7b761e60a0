-- The names of the declaration with a number: how long they are, and the text that they make.
use mathlib.Core.Path.{◌≡◌, refl, ◌∙◌}
use mathlib.Core.List.{List, [], ◌∷◌}
use mathlib.Core.Option.{Option, none, some}
use mathlib.Core.Bool.{Bool}
use Prim.Native.Nat.{ℕ, zero, suc, ◌+◌, ◌≤◌}
use native.Mathlib.Omega.{arith}
use lib.ListN.{length, get_elem?}
use Rattle.refusal.specs.MeaningAnswer.{Answer}
use Rattle.complex_entity.specs.MeaningRising.{◌∈◌}
use Rattle.complex_entity.specs.MeaningRising.◌∈◌.{here, there}
use Rattle.grammar.specs.MeaningGrammar.{most_name_bytes}
use Rattle.grammar.proofs.Choosing.{clash}
use Rattle.lookup.specs.declared.Span.{Span}
use Rattle.declarations.specs.MeaningNamespace.{schemas_in, Declaration, declarations}
use Rattle.text.specs.MeaningText.{path_text, supertype_line}
use Rattle.text.specs.MirrorText.{Puts, next_text}
use Rattle.text.proofs.Lines.{path_length, next_length}
use Rattle.noting.specs.MeaningNames.{names_at, names_of}
use Rattle.noting.specs.MirrorNoted.{bytes_at, Spells}
use Rattle.listing.specs.MeaningLines.{number_text}
use Rattle.listing.specs.MirrorLines.{Short, line_of_supertype}

pub nth_there : {A : Type 0} (xs : List A) (k : ℕ) (x : A) → get_elem? xs k ≡ some x → x ∈ xs
nth_there [] k x e = clash (cc)
nth_there (y ∷ xs) zero x e = let u : x ≡ y = cc in here u
nth_there (y ∷ xs) (suc k) x e = there (nth_there xs k x e)

module _ (s : List ℕ) (h : Short s) (index : ℕ) where
  short : (length (names_of (schemas_in s) index).schema ≤ most_name_bytes) × (length (names_of (schemas_in s) index).item ≤ most_name_bytes)
  unfolding names_of names_at
  short = by (get_elem? (declarations (schemas_in s)) index) refl
    where
      by : (d : Option Declaration) → get_elem? (declarations (schemas_in s)) index ≡ d → (length (names_at d).schema ≤ most_name_bytes) × (length (names_at d).item ≤ most_name_bytes)
      by none e = (omega arith, omega arith)
      by (some d) e = h d (nth_there (declarations (schemas_in s)) index d e)

  pub next_few : (first : Bool) → length (next_text first (number_text (schemas_in s) index)) ≤ 66
  unfolding number_text
  next_few first =
      let n = names_of (schemas_in s) index in
      omega (arith, next_length first (path_text n.schema n.item), path_length n.schema n.item, short.0, short.1)

-- the parts of the sheet that are the two names
module _ (s : List ℕ) (index : ℕ) (v w : Span) (f : Spells s (names_of (schemas_in s) index).schema v) (g : Spells s (names_of (schemas_in s) index).item w)
    (a b : List ℕ) (k : a ≡ bytes_at s v) (l : b ≡ bytes_at s w) where
  schema_so : a ≡ (names_of (schemas_in s) index).schema
  schema_so = k ∙ f.there

  item_so : b ≡ (names_of (schemas_in s) index).item
  item_so = l ∙ g.there

  both_short : Short s → length a + length b ≤ 64
  both_short h = rw (schema_so, item_so) (omega (arith, (short s h index).0, (short s h index).1))

  pub path_room : Short s → (at n : ℕ) → at + 66 ≤ n → at + (length a + 2 + length b) ≤ n
  path_room h at n m = omega (arith, both_short h)

  pub line_room : Short s → (n : ℕ) → 100 ≤ n → length a + length b + 26 ≤ n
  line_room h n m = omega (arith, both_short h)

  pub type_room : Short s → (n : ℕ) → 100 ≤ n → length a + length b + 21 ≤ n
  type_room h n m = omega (arith, both_short h)

  module _ {at r : ℕ} {x y : List ℕ} where
    pub puts_number : (first : Bool) → Puts (next_text first (path_text a b)) at r x y → Puts (next_text first (number_text (schemas_in s) index)) at r x y
    unfolding number_text
    puts_number first p = rw (schema_so, item_so) at p

    pub puts_supertype : (count : Answer ℕ) → Puts (supertype_line a b count) at r x y → Puts (line_of_supertype (schemas_in s) index count) at r x y
    unfolding line_of_supertype
    puts_supertype count p = rw (schema_so, item_so) at p

pub ruleset spelt = (path_room, line_room, type_room, puts_number, puts_supertype)
