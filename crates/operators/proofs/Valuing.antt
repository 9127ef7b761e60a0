-- What the operators' answers are, where a list was valued in a work array.
use Prim.Native.Nat.{ℕ, zero, suc, ◌*◌, ◌/◌, ◌≤◌}
use mathlib.Core.Path.{◌≡◌, refl, sym, ap, ◌∙◌}
use mathlib.Core.List.{List, [], ◌∷◌, ◌++◌}
use mathlib.Core.Bool.{Bool, true, false}
use native.Mathlib.Omega.{arith}
use lib.ListN.{length, take, drop, length-append, length-drop}
use lib.Seq.{take_at, take-length, take-append-le, drop-append-le}
use lib.Dec.{leb}
use Rattle.refusal.specs.MeaningAnswer.{Answer, done, refused, or_else, mapped, ◌>>=◌}
use Rattle.std.specs.Prelude.{Result, Ok, Err}
use Rattle.refusal.specs.Told.{number_of}
use Rattle.refusal.specs.declared.Refusal.{Refusal}
use Rattle.complex_entity.specs.MeaningParts.{Part}
use Rattle.complex_entity.specs.MeaningLists.{add, bitand, sub, div, held, prefixes, andor, most_factors, oneof, oneof_of, and_of, andor_of}
use Rattle.complex_entity.specs.MeaningRows.{flat}
use Rattle.complex_entity.specs.MirrorParts.{part_at}
use Rattle.complex_entity.proofs.Limits.{Narrow, Held, is_held, is_over, held_view}
use Rattle.complex_entity.proofs.Keeping.{sub_old, div_old}
use Rattle.rows.specs.MirrorRows.{parts_at, Stands}
use Rattle.instantiables.specs.MirrorRows.{PutIf, Listing}
use Rattle.instantiables.specs.declared.Instantiables.{Instantiables}
use Rattle.instantiables.specs.Told.{told_listed}
use Rattle.rows.proofs.Flats.{parts_narrow, flat_length}
use Rattle.instantiables.proofs.Listings.{stands_empty}
use Rattle.instantiables.proofs.Factors.{none_stands}
use Rattle.instantiables.proofs.Growing.{Growing, grow_start, grow_next, grow_over, grow_last}
use Rattle.operands.specs.MeaningOperands.{names_in}
use Rattle.operands.specs.MirrorOperands.{parts_in, Operable}
use Rattle.operands.specs.MirrorResults.{Valued}
use Rattle.operands.proofs.Cuts.{clash}
use Rattle.operands.proofs.RowParts.{part_names}
use Rattle.operators.specs.MeaningOperators.{plus, times, minus, over, value_of, one_of, every_of, some_of, value_of_all}

-- ---- no answer has a part of more than 12 names
abbrev NarrowIf : Answer (List Part) → Type 0
NarrowIf o = (L : List Part) → o ≡ done L → Narrow L

narrow_held : (L : List Part) → NarrowIf (held L)
narrow_held L K e = go (held_view L) e
  where
    go : {o : Answer (List Part)} → Held L o → o ≡ done K → Narrow K
    go (is_held h n) e = let k : K ≡ L = cc in rw k n
    go (is_over f) e = clash (cc)

narrow_prefixes : (L : List Part) (Ks : List (List Part)) → Narrow L → NarrowIf (prefixes L Ks)
unfolding prefixes
narrow_prefixes L [] n J e = let k : J ≡ L = cc in rw k n
narrow_prefixes L (K ∷ Ks) n J e = go (held_view (bitand L K)) (λ m. narrow_prefixes (bitand L K) Ks m J) e
  where
    go : {o : Answer (List Part)} → Held (bitand L K) o → (Narrow (bitand L K) → prefixes (bitand L K) Ks ≡ done J → Narrow J) → (o >>= λ M. prefixes M Ks) ≡ done J → Narrow J
    go (is_held h m) f e = f m e
    go (is_over g) f e = clash (cc)

narrow_and : (Ls : List (List Part)) → NarrowIf (and_of Ls)
unfolding and_of prefixes
narrow_and [] J e = clash (cc)
narrow_and (L ∷ []) J e = clash (cc)
narrow_and (L ∷ K ∷ Ks) J e = go (held_view (bitand L K)) e
  where
    go : {o : Answer (List Part)} → Held (bitand L K) o → (o >>= λ M. prefixes M Ks) ≡ done J → Narrow J
    go (is_held h m) e = narrow_prefixes (bitand L K) Ks m J e
    go (is_over g) e = clash (cc)

narrow_andor : (Ls : List (List Part)) → NarrowIf (andor_of Ls)
unfolding andor_of
narrow_andor [] J e = clash (cc)
narrow_andor (L ∷ Ls) J e = go (leb (length (L ∷ Ls)) most_factors) e
  where
    go : (b : Bool) → or_else 10 b (held (andor (L ∷ Ls))) ≡ done J → Narrow J
    go true e = narrow_held (andor (L ∷ Ls)) J e
    go false e = clash (cc)

-- ---- a list that was put into the work array stands at its front
valued : (o : Answer (List Part)) (before work : List ℕ) (r : Answer ℕ) → NarrowIf o → Listing o before work r → Valued o work r
valued o before work r n f = go o n f.says f.stands
  where
    go : (o : Answer (List Part)) → NarrowIf o → r ≡ mapped length o → PutIf o before work → Valued o work r
    go (refused a b) n e p = record { says = e; front = tt; within = rw e tt }
    go (done L) n e p =
        let l : length (flat L) ≡ 13 * length L = flat_length L (n L refl) in
        record {
          says = e;
          front = rw p (take_at (flat L) (drop (13 * length L) before) (13 * length L) l);
          within = rw (e, p, length-append (flat L) (drop (13 * length L) before)) (omega arith);
        }

-- ---- two lists
inside : {K L : List Part} → ◌≡◌ {A = Answer (List Part)} (done K) (done L) → L ≡ K
inside d = cc

parts_front : (n : ℕ) (l x : List ℕ) → 13 * n ≤ length l → parts_at n (l ++ x) ≡ parts_at n l
unfolding parts_at
parts_front zero l x h = refl
parts_front (suc n) l x h =
    let t : take 13 (l ++ x) ≡ take 13 l = take-append-le 13 l x (omega arith) in
    let a : part_at (l ++ x) ≡ part_at l = sym (part_names (l ++ x)) ∙ ap names_in t ∙ part_names l in
    rw (a, drop-append-le 13 l x (omega arith), parts_front n (drop 13 l) x (omega (arith, length-drop 13 l))) refl

-- what was copied to the front is read there
copied_parts : (l work work' : List ℕ) → Operable l → work' ≡ take (length l) l ++ drop (length l) work → parts_at (length l / 13) work' ≡ parts_in l
copied_parts l work work' h e =
    let d : work' ≡ l ++ drop (length l) work = e ∙ rw (take-length l) refl in
    ap (parts_at (length l / 13)) d ∙ parts_front (length l / 13) l (drop (length l) work) (omega (arith, h.whole))

-- as many rows as are lent
module _ (left right : List ℕ) (n m : Instantiables) (en : n.count ≡ length left / 13) (em : m.count ≡ length right / 13) where
  pub left_there : 13 * n.count ≤ length left
  left_there = omega arith

  pub right_there : 13 * m.count ≤ length right
  right_there = omega arith

  -- ---- `+`: the left list into an empty one, then the right one
  module _ (work : List ℕ) (room : 1664 ≤ length work) (e : Instantiables) (z : e ≡ record { count = 0 }) (work' : List ℕ) (r : Result Instantiables Refusal)
      (g : Listing (held (add (parts_at e.count work) (parts_at n.count left))) work work' (told_listed r)) where
    K : List Part
    K = parts_at n.count left

    L : List Part
    L = parts_at m.count right

    first : Growing work work 0 (K ++ L) (held (add K L))
    unfolding parts_at
    first = grow_start work 0 (K ++ L) (held (add K L)) (stands_empty work room) refl

    put : Listing (held (add (parts_at 0 work) K)) work work' (told_listed r)
    unfolding K
    put = rw (ap (λ (x : Instantiables). x.count) z) at g

    sum : (after : List ℕ) (t : Answer ℕ) → Listing (held (add K L)) work after t → Valued (value_of plus (parts_in left) (parts_in right)) after t
    unfolding value_of K L
    sum after t f = valued (held (add (parts_in left) (parts_in right))) work after t (narrow_held (add (parts_in left) (parts_in right))) (rw (en, em) at f)

    sum_over : (why : Refusal) → r ≡ Err why → Valued (value_of plus (parts_in left) (parts_in right)) work' (told_listed r)
    sum_over why u =
        sum work' (told_listed r) (grow_over work work 0 (K ++ L) (held (add K L)) first work' K (told_listed r) put L refl (number_of why.reason) why.place (ap told_listed u))

    module _ (l : Instantiables) (u : r ≡ Ok l) where
      next : Growing work work' l.count L (held (add K L))
      next = grow_next work work 0 (K ++ L) (held (add K L)) first work' K (told_listed r) put L refl l.count (ap told_listed u)

      pub sum_stands : Stands work' l.count
      sum_stands = next.front.stands

      pub sum_done : (work'' : List ℕ) (s : Answer ℕ) → Listing (held (add (parts_at l.count work') (parts_at m.count right))) work' work'' s
          → Valued (value_of plus (parts_in left) (parts_in right)) work'' s
      unfolding L
      sum_done work'' s h = sum work'' s (grow_last work work' l.count L (held (add K L)) next work'' L s h refl)

  -- ---- `&`
  pub value_bitand : (before work : List ℕ) (t : Answer ℕ) → Listing (held (bitand (parts_at n.count left) (parts_at m.count right))) before work t
      → Valued (value_of times (parts_in left) (parts_in right)) work t
  unfolding value_of
  value_bitand before work t g =
      valued (held (bitand (parts_in left) (parts_in right))) before work t (narrow_held (bitand (parts_in left) (parts_in right))) (rw (en, em) at g)

  -- ---- `-` and `/`
  module _ (work₀ work₁ work : List ℕ) (h : Operable left) (c : work₁ ≡ take (length left) left ++ drop (length left) work₀) (t : Answer ℕ) where
    read : parts_at n.count work₁ ≡ parts_in left
    read = ap (λ (k : ℕ). parts_at k work₁) en ∙ copied_parts left work₀ work₁ h c

    pub value_sub : Listing (done (sub (parts_at n.count work₁) (parts_at m.count right))) work₁ work t → Valued (value_of minus (parts_in left) (parts_in right)) work t
    unfolding value_of
    value_sub g =
        valued (done (sub (parts_in left) (parts_in right))) work₁ work t
        (λ L d q m. parts_narrow (length left / 13) left q (sub_old (parts_in left) (parts_in right) (rw (inside d) at m)).0)
        (rw (read, em) at g)

    pub value_div : Listing (done (div (parts_at n.count work₁) (parts_at m.count right))) work₁ work t → Valued (value_of over (parts_in left) (parts_in right)) work t
    unfolding value_of
    value_div g =
        valued (done (div (parts_in left) (parts_in right))) work₁ work t
        (λ L d q m. parts_narrow (length left / 13) left q (div_old (parts_in left) (parts_in right) (rw (inside d) at m)).0)
        (rw (read, em) at g)

-- a refusal of `+` comes before the right list is read
pub sum_refused : (left right work : List ℕ) (n : Instantiables) → n.count ≡ length left / 13 → 1664 ≤ length work → (e : Instantiables) → e ≡ record { count = 0 } → (work' : List ℕ) (r : Result Instantiables Refusal)
    → Listing (held (add (parts_at e.count work) (parts_at n.count left))) work work' (told_listed r) → (why : Refusal) → r ≡ Err why
    → Valued (value_of plus (parts_in left) (parts_in right)) work' (told_listed r)
sum_refused left right work n en room e z work' r g why u = sum_over left right n (record { count = length right / 13 }) en refl work room e z work' r g why u

pub ruleset valuing = (none_stands, left_there, right_there, sum_refused, sum_stands, sum_done, value_bitand, value_sub, value_div)

-- ---- several lists
module _ (Ls : List (List Part)) (before work : List ℕ) (t : Answer ℕ) where
  pub value_oneof : Listing (oneof_of Ls) before work t → Valued (value_of_all one_of Ls) work t
  unfolding value_of_all oneof_of
  value_oneof g = valued (held (oneof Ls)) before work t (narrow_held (oneof Ls)) g

  pub value_and : Listing (and_of Ls) before work t → Valued (value_of_all every_of Ls) work t
  unfolding value_of_all
  value_and g = valued (and_of Ls) before work t (narrow_and Ls) g

  pub value_andor : Listing (andor_of Ls) before work t → Valued (value_of_all some_of Ls) work t
  unfolding value_of_all
  value_andor g = valued (andor_of Ls) before work t (narrow_andor Ls) g

pub ruleset valuing_all = (value_oneof, value_and, value_andor)
