-- The tags of a whole value, decided tag by tag from the slots that are left.
use mathlib.Core.Path.{◌≡◌, refl, subst}
use mathlib.Core.List.{List, [], ◌∷◌, ◌++◌, map}
use mathlib.Core.Bool.{Bool, true, false, cond}
use Prim.Native.Nat.{ℕ, zero, suc}
use borrow.Author.Tests.{eqb-true}
use lib.Dec.{eqb}
use lib.ListN.{drop}
use Rattle.grammar.specs.MeaningGrammar.{Slot, Often, one_of, needed, again, Fills}
use Rattle.grammar.specs.MeaningGrammar.Fills.{done, skip, last, more}
use Rattle.grammar.specs.MeaningGrammar.Often.{one, at_most_one, any}
use Rattle.grammar.proofs.Choosing.{clash}

-- ---- what the slots that are left say

-- may the tag stand next, where these slots are left? It belongs to one of them, and none before that one is needed
unfoldable pub may : List Slot → ℕ → Bool
may [] t = false
may (x ∷ xs) t = cond (one_of x.tags t) true (cond (needed x.often) false (may xs t))

-- the slots that are left after the tag: its own, if any number may stand, and those that follow
unfoldable pub after_tag : List Slot → ℕ → List Slot
after_tag [] t = []
after_tag (x ∷ xs) t = cond (one_of x.tags t) (cond (again x.often) (x ∷ xs) xs) (after_tag xs t)

-- is a needed field missing, where these slots are left and no field follows?
unfoldable pub lacks : List Slot → Bool
lacks [] = false
lacks (x ∷ xs) = cond (needed x.often) true (lacks xs)

-- ---- members of a list of numbers

-- two functions that agree all along a list agree at a member
pub among : {Y : Type 0} (f g : ℕ → Y) (xs : List ℕ) → map f xs ≡ map g xs → (x : ℕ) → one_of xs x ≡ true → f x ≡ g x
unfolding one_of
among f g [] q x m = clash (cc)
among f g (u ∷ us) q x m = go (eqb u x) refl m (among f g us (cc) x)
  where
    go : (b : Bool) → eqb u x ≡ b → cond b true (one_of us x) ≡ true → (one_of us x ≡ true → f x ≡ g x) → f x ≡ g x
    go true e k next = let z : u ≡ x = eqb-true u x e in let y : f u ≡ g u = cc in subst (λ (w : ℕ). f w ≡ g w) z y
    go false e k next = next k

pub in_left : (xs ys : List ℕ) (t : ℕ) → one_of xs t ≡ true → one_of (xs ++ ys) t ≡ true
unfolding one_of
in_left [] ys t q = clash (cc)
in_left (x ∷ xs) ys t q = go (eqb x t) q (in_left xs ys t)
  where
    go : (b : Bool) → cond b true (one_of xs t) ≡ true → (one_of xs t ≡ true → one_of (xs ++ ys) t ≡ true) → cond b true (one_of (xs ++ ys) t) ≡ true
    go true k next = refl
    go false k next = next k

pub in_right : (xs ys : List ℕ) (t : ℕ) → one_of ys t ≡ true → one_of (xs ++ ys) t ≡ true
unfolding one_of
in_right [] ys t q = q
in_right (x ∷ xs) ys t q = go (eqb x t) (in_right xs ys t q)
  where
    go : (b : Bool) → one_of (xs ++ ys) t ≡ true → cond b true (one_of (xs ++ ys) t) ≡ true
    go true k = refl
    go false k = k

-- what holds of each holds of a member
abbrev pub EachOf : (ℕ → Type 0) → List ℕ → Type 0
EachOf P [] = Unit {0}
EachOf P (x ∷ xs) = P x × EachOf P xs

pub each_of : (P : ℕ → Type 0) (xs : List ℕ) → EachOf P xs → (x : ℕ) → one_of xs x ≡ true → P x
unfolding one_of
each_of P [] a x m = clash (cc)
each_of P (u ∷ us) a x m = go (eqb u x) refl m (each_of P us a.1 x)
  where
    go : (b : Bool) → eqb u x ≡ b → cond b true (one_of us x) ≡ true → (one_of us x ≡ true → P x) → P x
    go true e k next = subst P (eqb-true u x e) a.0
    go false e k next = next k

-- ---- whole values by the slots that are left

abbrev pub tags_of : List Slot → List ℕ
tags_of [] = []
tags_of (x ∷ xs) = x.tags ++ tags_of xs

-- no tag of a slot that may be skipped stands in a later slot, and each slot has a tag
abbrev pub Nice : List Slot → Type 0
Nice [] = Unit {0}
Nice (x ∷ xs) = (needed x.often ≡ false → map (λ (u : ℕ). one_of (tags_of xs) u) x.tags ≡ map (λ (u : ℕ). false) x.tags) × ((t : ℕ) × (one_of x.tags t ≡ true)) × Nice xs

pub nice_drop : (n : ℕ) (xs : List Slot) → Nice xs → Nice (drop n xs)
nice_drop zero xs h = h
nice_drop (suc n) [] h = h
nice_drop (suc n) (x ∷ xs) h = nice_drop n xs h.2

pub may_tags : (xs : List Slot) (t : ℕ) → may xs t ≡ true → one_of (tags_of xs) t ≡ true
unfolding may
may_tags [] t q = clash (cc)
may_tags (x ∷ xs) t q = go (one_of x.tags t) refl (needed x.often) q (may_tags xs t)
  where
    go : (a : Bool) → one_of x.tags t ≡ a → (n : Bool) → cond a true (cond n false (may xs t)) ≡ true → (may xs t ≡ true → one_of (tags_of xs) t ≡ true) → one_of (x.tags ++ tags_of xs) t ≡ true
    go true e n k next = in_left x.tags (tags_of xs) t e
    go false e true k next = clash (cc)
    go false e false k next = in_right x.tags (tags_of xs) t (next k)

not_needed : (o : Often) → again o ≡ true → needed o ≡ false
unfolding again needed
not_needed one q = clash (cc)
not_needed at_most_one q = refl
not_needed any q = refl

abbrev pub Starts : List Slot → ℕ → List ℕ → Type 0
Starts xs t ts = (may xs t ≡ true) × Fills (after_tag xs t) ts

-- the first tag of a whole value may stand, and those that follow fill the slots that are left
pub fill_first : (xs : List Slot) (t : ℕ) (ts : List ℕ) → Nice xs → Fills xs (t ∷ ts) → Starts xs t ts
unfolding may after_tag
fill_first all t ts h (skip {x} {xs} n r) = go (fill_first xs t ts h.2 r) (one_of x.tags t) refl
  where
    go : Starts xs t ts → (b : Bool) → one_of x.tags t ≡ b → Starts (x ∷ xs) t ts
    go i true e = clash (let y = among (λ (u : ℕ). one_of (tags_of xs) u) (λ (u : ℕ). false) x.tags (h.0 n) t e in let z = may_tags xs t i.0 in cc)
    go i false e = (rw (e, n) i.0, rw e i.1)
fill_first all t ts h (last {x} {xs} m r) = (rw m refl, rw m (go (again x.often) refl))
  where
    go : (b : Bool) → again x.often ≡ b → Fills (cond b (x ∷ xs) xs) ts
    go true e = skip (not_needed x.often e) r
    go false e = r
fill_first all t ts h (more {x} {xs} a m r) = (rw m refl, rw (m, a) r)

pub first_fill : (xs : List Slot) (t : ℕ) (ts : List ℕ) → may xs t ≡ true → Fills (after_tag xs t) ts → Fills xs (t ∷ ts)
unfolding may after_tag
first_fill [] t ts q r = clash (cc)
first_fill (x ∷ xs) t ts q r = go (one_of x.tags t) refl q r (first_fill xs t ts)
  where
    over : (b : Bool) → again x.often ≡ b → one_of x.tags t ≡ true → Fills (cond b (x ∷ xs) xs) ts → Fills (x ∷ xs) (t ∷ ts)
    over true e m r = more e m r
    over false e m r = last m r

    later : (n : Bool) → needed x.often ≡ n → cond n false (may xs t) ≡ true → (may xs t ≡ true → Fills xs (t ∷ ts)) → Fills (x ∷ xs) (t ∷ ts)
    later true e q next = clash (cc)
    later false e q next = skip e (next q)

    go : (b : Bool) → one_of x.tags t ≡ b → cond b true (cond (needed x.often) false (may xs t)) ≡ true → Fills (cond b (cond (again x.often) (x ∷ xs) xs) (after_tag xs t)) ts → (may xs t ≡ true → Fills (after_tag xs t) ts → Fills xs (t ∷ ts)) → Fills (x ∷ xs) (t ∷ ts)
    go true m q r next = over (again x.often) refl m r
    go false m q r next = later (needed x.often) refl q (λ k. next k r)

pub fill_end : {xs : List Slot} → Fills xs [] → lacks xs ≡ false
unfolding lacks
fill_end done = refl
fill_end (skip n r) = rw n (fill_end r)

pub end_fill : (xs : List Slot) → lacks xs ≡ false → Fills xs []
unfolding lacks
end_fill [] q = done
end_fill (x ∷ xs) q = go (needed x.often) refl q (end_fill xs)
  where
    go : (b : Bool) → needed x.often ≡ b → cond b true (lacks xs) ≡ false → (lacks xs ≡ false → Fills xs []) → Fills (x ∷ xs) []
    go true e q next = clash (cc)
    go false e q next = skip e (next q)

pub some_fill : (xs : List Slot) → Nice xs → (ts : List ℕ) × Fills xs ts
some_fill [] h = ([], done)
some_fill (x ∷ xs) h = let r = some_fill xs h.2 in (h.1.0 ∷ r.0, last h.1.1 r.1)
