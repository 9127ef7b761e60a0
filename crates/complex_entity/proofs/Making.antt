-- What `new` makes: the names given, in order, each once; and it takes every part.
use mathlib.Core.Path.{◌≡◌, refl, sym, ◌∙◌}
use mathlib.Core.Logic.{◌↔◌}
use mathlib.Core.List.{List, [], ◌∷◌}
use mathlib.Core.Bool.{Bool, true, false, cond, ◌&&◌}
use mathlib.Core.Option.{Option, none, some}
use Prim.Native.Nat.{ℕ, ◌≤◌, ◌<◌, compare}
use native.Mathlib.Omega.{arith}
use native.Mathlib.Decide.{dec_lt}
use lib.ListN.{length}
use lib.Dec.{T, leb, eqb, leb→le, le→leb, eqb→eq, eqb_refl}
use mir.Facts.{and_yes, yes_and}
use Rattle.refusal.specs.MeaningAnswer.{done, or_else}
use Rattle.complex_entity.specs.MeaningRising.{◌∈◌, here, there, Rising, empty, next}
use Rattle.complex_entity.specs.MeaningParts.{Part, narrow, after, dedup, moved, bad_after, unless_bad, new_of, last_index}
use Rattle.complex_entity.proofs.Orders.{nat_order, cmp→lt, lt→cmp}
use Rattle.complex_entity.proofs.Limits.{or_else_yes}
use Rattle.complex_entity.proofs.Sets.{not_in_nil, below_cons, ext}

-- each is at least x and at most 255, and none falls
data Good : ℕ → List ℕ → Type 0 where
  nothing : {x : ℕ} → Good x []
  another : {x y : ℕ} {l : List ℕ} → x ≤ y → y ≤ last_index → Good y l → Good x (y ∷ l)

unmoved : (o : Option ℕ) → moved o ≡ none → o ≡ none
unmoved none e = refl
unmoved (some i) e = let z : ◌≡◌ {A = ℕ} 0 1 = cc in absurd (omega arith)

good : (x : ℕ) (l : List ℕ) → bad_after x l ≡ none → Good x l
good x [] e = nothing
good x (y ∷ l) e = go (leb x y && leb y last_index) (λ t. t) (good y l) e
  where
    go : (b : Bool) → (T b → T (leb x y && leb y last_index)) → (bad_after y l ≡ none → Good y l) → cond b (moved (bad_after y l)) (some 0) ≡ none → Good x (y ∷ l)
    go true d h e =
        let u = and_yes (leb x y) (leb y last_index) (d tt) in
        another (leb→le x y u.0) (leb→le y last_index u.1) (h (unmoved (bad_after y l) e))
    go false d h e = let z : ◌≡◌ {A = ℕ} 0 1 = cc in absurd (omega arith)

none_bad : {x : ℕ} {l : List ℕ} → Good x l → bad_after x l ≡ none
none_bad nothing = refl
none_bad (another {x = x} {y = y} {l = l} h k g) = go (leb x y && leb y last_index) (yes_and (leb x y) (leb y last_index) (le→leb _ _ h) (le→leb _ _ k)) (none_bad g)
  where
    go : (b : Bool) → T b → bad_after y l ≡ none → cond b (moved (bad_after y l)) (some 0) ≡ none
    go true t e = rw e
    go false t e = absurd t

-- ---- what is left when neighbouring repeats are dropped
pub dedup_old : (l : List ℕ) {n : ℕ} → n ∈ dedup l → n ∈ l
dedup_old [] {n = n} x' = elim x' [ ]
dedup_old (x ∷ l) (here e) = here e
dedup_old (x ∷ l) (there m) = there (old x l m)
  where
    old : (x : ℕ) (l : List ℕ) {n : ℕ} → n ∈ after x l → n ∈ l
    old x [] {n = n} m = elim m [ ]
    old x (y ∷ l) {n} m = go (eqb x y) (old x l) (old y l) m
      where
        go : (b : Bool) → (n ∈ after x l → n ∈ l) → (n ∈ after y l → n ∈ l) → n ∈ cond b (after x l) (y ∷ after y l) → n ∈ (y ∷ l)
        go true f g m = there (f m)
        go false f g (here e) = here e
        go false f g (there m) = there (g m)

pub dedup_new : (l : List ℕ) {n : ℕ} → n ∈ l → n ∈ dedup l
dedup_new [] {n = n} x' = elim x' [ ]
dedup_new (x ∷ l) (here e) = here e
dedup_new (x ∷ l) (there m) = new x l m
  where
    new : (x : ℕ) (l : List ℕ) {n : ℕ} → n ∈ l → n ∈ (x ∷ after x l)
    new x [] {n = n} m = elim m [ ]
    new x (y ∷ l) {n} m = go (eqb x y) (λ t. eqb→eq x y t) m (new x l) (new y l)
      where
        go : (b : Bool) → (T b → x ≡ y) → n ∈ (y ∷ l) → (n ∈ l → n ∈ (x ∷ after x l)) → (n ∈ l → n ∈ (y ∷ after y l)) → n ∈ (x ∷ cond b (after x l) (y ∷ after y l))
        go true e (here d) f g = here (d ∙ sym (e tt))
        go true e (there m) f g = f m
        go false e (here d) f g = there (here d)
        go false e (there m) f g = there (g m)

lt_of_ne : (x y : ℕ) → x ≤ y → (x ≡ y → ⊥) → x < y
lt_of_ne x y h f = elim (dec_lt x y) [ yes k ↦ k | no k ↦ absurd (f (omega arith)) ]

after_rising : {x : ℕ} {l : List ℕ} → Good x l → Rising compare (x ∷ after x l)
after_rising nothing = next (λ q m. absurd (not_in_nil m)) empty
after_rising (another {x = x} {y = y} {l = l} h k g) = go (eqb x y) (λ t. eqb→eq x y t) (λ e. rw e (eqb_refl y)) (after_rising g)
  where
    go : (b : Bool) → (T b → x ≡ y) → (x ≡ y → T b) → Rising compare (y ∷ after y l) → Rising compare (x ∷ cond b (after x l) (y ∷ after y l))
    go true e f R = rw (e tt) R
    go false e f (next B R) = next (below_cons nat_order (lt→cmp x y (lt_of_ne x y h f)) B) (next B R)

dedup_rising : {x : ℕ} {l : List ℕ} → Good x l → Rising compare (dedup l)
dedup_rising nothing = empty
dedup_rising (another h k g) = after_rising g

dedup_small : {x : ℕ} {l : List ℕ} → Good x l → (n : ℕ) → n ∈ l → n ≤ last_index
dedup_small nothing n x7 = elim x7 [ ]
dedup_small (another h k g) n (here e) = omega arith
dedup_small (another h k g) n (there m) = dedup_small g n m

-- ---- a part is good, and nothing is dropped from it
rising_good : {l : List ℕ} → Rising compare l → ((n : ℕ) → n ∈ l → n ≤ last_index) → (x : ℕ) → ((n : ℕ) → n ∈ l → x ≤ n) → Good x l
rising_good empty f x g = nothing
rising_good (next {a = a} B R) f x g = another (g a (here refl)) (f a (here refl)) (rising_good R (λ n m. f n (there m)) a (λ n m. omega (arith, cmp→lt a n (B n m))))

rising_dedup : {x : ℕ} {l : List ℕ} → Good x l → Rising compare l → dedup l ≡ l
rising_dedup {l = l} g R = ext nat_order (dedup_rising g) R (λ n m. dedup_old l m) (λ n m. dedup_new l m)

-- ---- what is made
pub new_is : (l : List ℕ) (p : Part) → new_of l ≡ done p → Rising compare p × ((n : ℕ) → (n ∈ p) ↔ (n ∈ l)) × ((n : ℕ) → n ∈ p → n ≤ last_index) × (length p ≤ 12)
unfolding new_of
new_is l p e = go (bad_after 0 l) (good 0 l) (narrow (dedup l)) (λ t. leb→le (length (dedup l)) 12 t) e
  where
    go : (o : Option ℕ) → (o ≡ none → Good 0 l) → (b : Bool) → (T b → length (dedup l) ≤ 12) → unless_bad o (or_else 11 b (done (dedup l))) ≡ done p
        → Rising compare p × ((n : ℕ) → (n ∈ p) ↔ (n ∈ l)) × ((n : ℕ) → n ∈ p → n ≤ last_index) × (length p ≤ 12)
    go none g true t e =
        let d : p ≡ dedup l = cc in
        rw d (dedup_rising (g refl), λ n. (dedup_old l, dedup_new l), λ n m. dedup_small (g refl) n (dedup_old l m), t tt)
    go none g false t e = let z : ◌≡◌ {A = ℕ} 0 1 = cc in absurd (omega arith)
    go (some i) g b t e = let z : ◌≡◌ {A = ℕ} 0 1 = cc in absurd (omega arith)

pub new_takes : (p : Part) → Rising compare p → ((n : ℕ) → n ∈ p → n ≤ last_index) → length p ≤ 12 → new_of p ≡ done p
unfolding new_of
new_takes p R f h =
    let g : Good 0 p = rising_good R f 0 (λ n m. omega arith) in
    rw (none_bad g, rising_dedup g R, or_else_yes 11 (done p) (narrow p) (le→leb _ _ h))
