-- A step goes on and stays within its value, so the check of a value is one step and then the check of what is left; and a law for each way
-- through the loop of `check_fields`.
use mathlib.Core.Path.{◌≡◌, refl, sym, ap, ap₂, ◌∙◌, subst, fun_ext}
use mathlib.Core.List.{List}
use Prim.Native.Nat.{ℕ, zero, suc, ◌-◌, ◌<◌, ◌≤◌}
use native.Mathlib.Nat.{not-suc-le-zero, le_refl}
use native.Mathlib.Omega.{arith}
use lib.Dec.{ltb, eqb}
use lib.ListN.{length, take, drop}
use Rattle.std.specs.Prelude.{Option, Some, None, Result, Ok, Err}
use Rattle.refusal.specs.MeaningAnswer.{Answer, done, refused, ◌>>=◌}
use Rattle.refusal.specs.Told.{told_refusal, told}
use Rattle.refusal.specs.declared.Reason.{Reason}
use Rattle.refusal.specs.declared.Refusal.{Refusal}
use Rattle.grammar.specs.MeaningReading.{Reading}
use Rattle.grammar.specs.MirrorTable.{row_count, cell_at, row_of}
use Rattle.sheet.specs.Told.{told_at}
use Rattle.sheet.specs.MirrorField.{field_at}
use Rattle.sheet.specs.MirrorCheck.{field_fault, count_up, at_end, go_on, on_count, on_fault, on_field, step_at, after, walk, walk_at}
use Rattle.sheet.specs.declared.Field.{Field}
use Rattle.sheet.specs.declared.Counts.{Counts}
use Rattle.sheet.specs.declared.Step.{Step}
use Rattle.sheet.specs.declared.Step.TheVariants.{Done, Past, Into}
use Rattle.grammar.proofs.Choosing.{either}
use Rattle.sheet.proofs.Deciding.{Inside, inside}

-- ---- a step goes on

abbrev Moves : ℕ → ℕ → Step → Type 0
Moves at e (Done c) = Unit {0}
Moves at e (Past c st b) = (at < b) × (b ≤ e)
Moves at e (Into c st t d a b) = (at < a) × (a ≤ b) × (b ≤ e)

abbrev MovesIf : ℕ → ℕ → Answer Step → Type 0
MovesIf at e (done x) = Moves at e x
MovesIf at e (refused n p) = Unit {0}

module _ (rd : Reading) (s : List ℕ) (p st at e d : ℕ) (c : Counts) where
  counted : (t a b r : ℕ) → (at < a) × (a ≤ b) × (b ≤ e) → (k : Option Counts) → MovesIf at e (on_count at d t a b r k)
  unfolding on_count go_on
  counted t a b r i None = tt
  counted t a b r i (Some c') = either (Moves at e) (eqb (cell_at r 7) 0) _ _ (λ _. i) (λ _. (omega arith, i.2))

  fielded : (h : Option Field) → Inside s at e h → MovesIf at e (on_field rd s p st at d c h)
  unfolding on_field on_fault
  fielded None i = tt
  fielded (Some f) i =
      either (MovesIf at e) (eqb (field_fault rd (take (f.stop - f.start) (drop f.start s)) (row_of p st f.tag) d) 0) _ _
      (λ _. counted f.tag f.start f.stop (row_of p st f.tag) i (count_up (cell_at (row_of p st f.tag) 8) c)) (λ _. tt)

  moves : MovesIf at e (step_at rd s p st at e d c)
  unfolding step_at at_end
  moves =
      either (MovesIf at e) (eqb at e) _ _
      (λ _. either (MovesIf at e) (ltb (row_of p st 256) row_count) (done (Done c)) (refused 3 e) (λ _. tt) (λ _. tt))
      (λ _. fielded (field_at s at e) (inside s at e))

-- ---- one step, and then what is left

abbrev Go : Type 0
Go = ℕ → ℕ → ℕ → ℕ → ℕ → Counts → Answer Counts

-- two checks that agree on what lies past `at` answer alike after a step from `at`
same_after : (f g : Go) (at e : ℕ) → ((p st a b d : ℕ) (c : Counts) → at < a → a ≤ b → b ≤ e → f p st a b d c ≡ g p st a b d c) → (p d : ℕ) (x : Answer Step) → MovesIf at e x → (x >>= after f p e d) ≡ (x >>= after g p e d)
unfolding after
same_after f g at e h p d (done (Done c)) m = refl
same_after f g at e h p d (done (Past c st b)) m = h p st b e d c m.0 m.1 (le_refl e)
same_after f g at e h p d (done (Into c st t d' a b)) m = ap₂ (λ (x : Answer Counts) (k : Counts → Answer Counts). x >>= k) (h t 0 a b d' c m.0 m.1 m.2) (fun_ext λ c'. h p st b e d c' (omega arith) m.2 (le_refl e))
same_after f g at e h p d (refused n q) m = refl

enough : (rd : Reading) (s : List ℕ) (n m p st at e d : ℕ) (c : Counts) → e - at < n → e - at < m → walk n rd s p st at e d c ≡ walk m rd s p st at e d c
unfolding walk
enough rd s zero m p st at e d c h k = absurd (not-suc-le-zero h)
enough rd s (suc n) zero p st at e d c h k = absurd (not-suc-le-zero k)
enough rd s (suc n) (suc m) p st at e d c h k =
    same_after (walk n rd s) (walk m rd s) at e (λ p' st' a b d' c' i j l. enough rd s n m p' st' a b d' c' (omega arith) (omega arith)) p d (step_at rd s p st at e d c) (moves rd s p st at e d c)

module _ (rd : Reading) (s : List ℕ) (p st at e d : ℕ) (c : Counts) where
  pub walk_eq : walk_at rd s p st at e d c ≡ (step_at rd s p st at e d c >>= after (walk_at rd s) p e d)
  unfolding walk_at walk
  walk_eq =
      same_after (walk (e - at) rd s) (walk_at rd s) at e (λ p' st' a b d' c' i j l. enough rd s (e - at) (suc (b - a)) p' st' a b d' c' (omega arith) (omega arith)) p d (step_at rd s p st at e d c)
      (moves rd s p st at e d c)

-- ---- the loop

-- what is left of the value decides the answer r
pub record Walking (rd : Reading) (s : List ℕ) (p at e d from st : ℕ) (c : Counts) (r : Answer Counts) : Type 0 where
  pub begun : at ≤ from
  pub inside_it : from ≤ e
  pub fitting : e ≤ length s
  pub rest : walk_at rd s p st from e d c ≡ r

pub walk_start : (rd : Reading) (s : List ℕ) (p at e d st : ℕ) (c : Counts) → at ≤ e → e ≤ length s → Walking rd s p at e d at st c (walk_at rd s p st at e d c)
walk_start rd s p at e d st c h k = record { begun = le_refl at; inside_it = h; fitting = k; rest = refl }

module _ (rd : Reading) (s : List ℕ) (p at e d from st : ℕ) (c : Counts) (r : Answer Counts) (f : Walking rd s p at e d from st c r) (x : Result Step Reason) (q : told_at from x ≡ step_at rd s p st from e d c) where
  moved : MovesIf from e (told_at from x)
  moved = subst (MovesIf from e) (sym q) (moves rd s p st from e d c)

  stepped : (told_at from x >>= after (walk_at rd s) p e d) ≡ r
  stepped = rw q (sym (walk_eq rd s p st from e d c) ∙ f.rest)

  pub walk_stop : (y : Reason) → x ≡ Err y → (p : ℕ) → p ≡ from → (z : Refusal) → z ≡ record { reason = y; place = p } → told_refusal z ≡ r
  walk_stop y h p i z w = let v = stepped in rw w (rw i (rw h at v))

  pub walk_done : (y : Step) → x ≡ Ok y → (k : Counts) → y ≡ Done k → done k ≡ r
  unfolding after
  walk_done y g k h = let z = stepped in rw (g ∙ ap Ok h) at z

  module _ (y : Step) (g : x ≡ Ok y) (b st' : ℕ) (k : Counts) (i : y ≡ Past k st' b) where
    past : x ≡ Ok (Past k st' b)
    past = g ∙ ap Ok i

    passes_on : (from < b) × (b ≤ e)
    passes_on = let m = moved in rw past at m

    pub walk_less : e - b < e - from
    walk_less = let m = passes_on in omega arith

    pub walk_past : Walking rd s p at e d b st' k r
    unfolding after
    walk_past =
        let m = passes_on in
        let z = stepped in
        record { begun = omega (arith, f.begun); inside_it = m.1; fitting = f.fitting; rest = rw past at z }

  module _ (y : Step) (g : x ≡ Ok y) (t a b st' d' : ℕ) (k : Counts) (l : y ≡ Into k st' t d' a b) where
    into : x ≡ Ok (Into k st' t d' a b)
    into = g ∙ ap Ok l

    goes_in : (from < a) × (a ≤ b) × (b ≤ e)
    goes_in = let m = moved in rw into at m

    pub enter_less : (n : ℕ) → e - at ≡ n → b - a < n
    enter_less n z = let m = goes_in in omega (arith, f.begun)

    pub enter_order : a ≤ b
    enter_order = goes_in.1

    pub enter_in : b ≤ length s
    enter_in = let m = goes_in in omega (arith, f.fitting)

    pub enter_on : e - b < e - from
    enter_on = let m = goes_in in omega arith

    module _ (v : ℕ) (o : v ≡ t) (u : Result Counts Refusal) (i : told u ≡ walk_at rd s v 0 a b d' k) where
      entered : (told u >>= λ j. walk_at rd s p st' b e d j) ≡ r
      unfolding after
      entered = let z = stepped in rw (i, o) (rw into at z)

      -- "hands it up unaltered"
      pub walk_up : (z : Refusal) → u ≡ Err z → (y : Result Counts Refusal) → y ≡ Err z → told y ≡ r
      walk_up z j y k = let w = entered in rw k (rw j at w)

      pub walk_on : (j : Counts) → u ≡ Ok j → Walking rd s p at e d b st' j r
      walk_on j l =
          let m = goes_in in
          let w = entered in
          record { begun = omega (arith, f.begun); inside_it = m.2; fitting = f.fitting; rest = rw l at w }

pub ruleset walking = (walk_start, walk_done, walk_less, walk_past, enter_less, enter_order, enter_in, enter_on, walk_up, walk_on)
