-- The loop over the names of a part that stands as a row: i of them are in its line.
use mathlib.Core.Path.{◌≡◌, refl, sym, ap, ◌∙◌}
use mathlib.Core.List.{List, [], ◌∷◌, ◌++◌, map}
use mathlib.Core.Bool.{Bool}
use Prim.Native.Nat.{ℕ, ◌+◌, ◌*◌, ◌≤◌, ◌<◌}
use native.Mathlib.Numerals.{add-one}
use native.Mathlib.Omega.{arith}
use lib.Dec.{eqb}
use lib.ListN.{length, take, drop, get_or, length-append, length-map}
use lib.Seq.{length-take-le, take_all, take-suc}
use Rattle.complex_entity.specs.MirrorParts.{part_at}
use Rattle.complex_entity.proofs.Rows.{part_at_few}
use Rattle.declarations.specs.MeaningNamespace.{schemas_in}
use Rattle.text.specs.MeaningText.{blank, line_feed, decimal}
use Rattle.text.specs.MirrorText.{Puts, next_text, part_text}
use Rattle.text.proofs.Digits.{decimal_length}
use Rattle.text.proofs.Joining.{part_start, part_more, part_end}
use Rattle.listing.specs.MeaningLines.{number_text, line_of_part}
use Rattle.listing.specs.MirrorLines.{Short}
use Rattle.listing.proofs.Spelling.{next_few}

one_more : {A : Type 0} (g : ℕ → A) (part : List ℕ) (i : ℕ) → i < length part → map g (take (i + 1) part) ≡ map g (take i part) ++ (g (get_or part i 0) ∷ [])
one_more g part i h = rw (add-one i, take-suc part i 0 h) (map_snoc g (take i part) (get_or part i 0))
  where
    map_snoc : {A B : Type 0} (g : A → B) (l : List A) (x : A) → map g (l ++ (x ∷ [])) ≡ map g l ++ (g x ∷ [])
    map_snoc g [] x = refl
    map_snoc g (y ∷ l) x = ap (λ k. g y ∷ k) (map_snoc g l x)

-- ---- the loop, which begins at `start` behind the number

pub record Listing (s : List ℕ) (number : ℕ) (part : List ℕ) (start i at : ℕ) (before after : List ℕ) : Type 0 where
  pub few : length part ≤ 12
  pub small : i ≤ length part
  pub early : start ≤ 6
  pub near : at ≤ start + 66 * i
  pub inside : 800 ≤ length after
  pub put : (x : List ℕ) → Puts (decimal number ++ blank) 0 start x before → Puts (part_text number (map (number_text (schemas_in s)) (take i part))) 0 at x after

pub list_start : (s : List ℕ) (number : ℕ) (row part : List ℕ) (start : ℕ) (x l : List ℕ) → number ≤ 65535 → part ≡ part_at (drop 0 row) → 800 ≤ length x → Puts (decimal number ++ blank) 0 start x l
    → Listing s number part start 0 start l l
list_start s number row part start x l h f k p =
    record {
      few = rw f (part_at_few row);
      small = omega arith;
      early = omega (arith, p.end, length-append (decimal number) blank, decimal_length number h);
      near = omega arith;
      inside = omega (arith, p.size);
      put = λ y q. part_start number q;
    }

module _ (s : List ℕ) (number : ℕ) (part : List ℕ) (start i at : ℕ) (before after : List ℕ) (f : Listing s number part start i at before after) where
  pub list_room : i < length part → at + 66 ≤ length after
  list_room h = omega (arith, f.few, f.early, f.near, f.inside)

  pub list_end_room : at + 1 ≤ length after
  list_end_room = omega (arith, f.few, f.small, f.early, f.near, f.inside)

  module _ {r : ℕ} {z : List ℕ} where
    pub list_next : Short s → i < length part → (first : Bool) → first ≡ eqb i 0 → (index : ℕ) → index ≡ get_or part i 0 → Puts (next_text first (number_text (schemas_in s) index)) at r after z
        → Listing s number part start (i + 1) r before z
    list_next h k first e index j p =
        let l : length (map (number_text (schemas_in s)) (take i part)) ≡ i = length-map (take i part) (number_text (schemas_in s)) ∙ length-take-le i part (omega arith) in
        record {
          few = f.few;
          small = omega arith;
          early = f.early;
          near = omega (arith, p.end, f.near, next_few s h index first);
          inside = omega (arith, p.size, f.inside);
          put = λ x q.
              rw (one_more (number_text (schemas_in s)) part i k)
              (part_more number (map (number_text (schemas_in s)) (take i part)) (f.put x q) first (number_text (schemas_in s) (get_or part i 0)) (e ∙ ap (λ (n : ℕ). eqb n 0) (sym l)) (rw j at p));
        }

    pub list_end : length part ≤ i → (row : List ℕ) → part ≡ part_at (drop 0 row) → (x : List ℕ) → Puts (decimal number ++ blank) 0 start x before → Puts line_feed at r after z → Puts (line_of_part (schemas_in s) number (part_at row)) 0 r x z
    unfolding line_of_part
    list_end h row e x q p =
        let a : take i part ≡ part_at row = take_all i part h ∙ e in
        part_end number (map (number_text (schemas_in s)) (part_at row)) (rw a at (f.put x q)) p

pub ruleset listing = (list_start, list_room, list_end_room, list_next, list_end)
