-- A value is accepted exactly where it is the encoding of fields that fit, row by row and count by count.
use mathlib.Core.Path.{◌≡◌, refl, sym, ap, ap₂, ◌∙◌}
use mathlib.Core.List.{List, ◌++◌}
use mathlib.Core.Logic.{◌↔◌}
use mathlib.Core.Bool.{Bool, true, false, cond, ◌&&◌, not}
use Prim.Native.Nat.{ℕ, zero, suc, ◌+◌, ◌-◌, ◌<◌, ◌≤◌}
use native.Mathlib.Omega.{arith}
use borrow.Author.Tests.{eqb-true, eq-eqb, ne_eqb, not-true}
use lib.Dec.{ltb, eqb}
use lib.ListN.{length}
use Rattle.std.specs.Prelude.{Option, Some, None}
use Rattle.refusal.specs.MeaningAnswer.{Answer, done, refused, ◌>>=◌}
use Rattle.grammar.specs.MeaningReading.{Reading}
use Rattle.sheet.specs.Claims.{AllBytes}
use Rattle.grammar.specs.MirrorTable.{row_count, cell_at, row_of}
use Rattle.sheet.specs.MirrorField.{field_at}
use Rattle.sheet.specs.MirrorCheck.{field_fault, count_up, at_end, go_on, on_count, on_fault, on_field, step_at, after, walk, walk_at}
use Rattle.sheet.specs.declared.Field.{Field}
use Rattle.sheet.specs.declared.Counts.{Counts}
use Rattle.sheet.specs.declared.Step.{Step}
use Rattle.sheet.specs.declared.Step.TheVariants.{Done, Past, Into}
use Rattle.grammar.proofs.Choosing.{either, clash, both}
use Rattle.sheet.proofs.Onward.{walk_eq}
use Rattle.forest.specs.MeaningForest.{Forest, field, encode}
use Rattle.forest.specs.MeaningForest.Forest.{nil, leaf, node}
use Rattle.forest.proofs.Laying.{part, length_part, part_split, field_part, read}

-- ---- fields that fit: the check of a value, said of a forest

unfoldable pub then_count : Option Counts → (Counts → Option Counts) → Option Counts
then_count (Some c) k = k c
then_count None k = None

-- in the parent p from its state st on, where d levels of depth are left and c is counted before: the counts after them
unfoldable pub fits : Reading → ℕ → ℕ → ℕ → Counts → Forest → Option Counts
fits rd p st d c nil = cond (ltb (row_of p st 256) row_count) (Some c) None
fits rd p st d c (leaf t v f) =
    cond (eqb (field_fault rd v (row_of p st t) d) 0 && not (eqb (cell_at (row_of p st t) 7) 0))
    (then_count (count_up (cell_at (row_of p st t) 8) c) (λ c1. fits rd p (cell_at (row_of p st t) 4) d c1 f)) None
fits rd p st d c (node t g f) =
    cond (eqb (field_fault rd (encode g) (row_of p st t) d) 0 && eqb (cell_at (row_of p st t) 7) 0)
    (then_count (count_up (cell_at (row_of p st t) 8) c) (λ c1. then_count (fits rd t 0 (d - cell_at (row_of p st t) 9) c1 g) (λ c2. fits rd p (cell_at (row_of p st t) 4) d c2 f))) None

chosen : (b : Bool) (x : Option Counts) (c : Counts) → cond b x None ≡ Some c → (b ≡ true) × (x ≡ Some c)
chosen true x c q = (refl, q)
chosen false x c q = clash (cc)

counted : (k : Option Counts) (f : Counts → Option Counts) (c : Counts) → then_count k f ≡ Some c → (c1 : Counts) × (k ≡ Some c1) × (f c1 ≡ Some c)
unfolding then_count
counted (Some c1) f c q = (c1, refl, q)
counted None f c q = clash (cc)

-- what one more field says, and the other way round
module _ (rd : Reading) (p st d t : ℕ) (c c' : Counts) where
  pub record LeafFits (v : List ℕ) (f : Forest) : Type 0 where
    pub fault : field_fault rd v (row_of p st t) d ≡ 0
    pub plain : eqb (cell_at (row_of p st t) 7) 0 ≡ false
    pub with_it : Counts
    pub count : count_up (cell_at (row_of p st t) 8) c ≡ Some with_it
    pub rest : fits rd p (cell_at (row_of p st t) 4) d with_it f ≡ Some c'

  pub record NodeFits (g f : Forest) : Type 0 where
    pub fault : field_fault rd (encode g) (row_of p st t) d ≡ 0
    pub nested : eqb (cell_at (row_of p st t) 7) 0 ≡ true
    pub with_it : Counts
    pub count : count_up (cell_at (row_of p st t) 8) c ≡ Some with_it
    pub inside : Counts
    pub inner : fits rd t 0 (d - cell_at (row_of p st t) 9) with_it g ≡ Some inside
    pub rest : fits rd p (cell_at (row_of p st t) 4) d inside f ≡ Some c'

  pub fits_leaf : (v : List ℕ) (f : Forest) → LeafFits v f → fits rd p st d c (leaf t v f) ≡ Some c'
  unfolding fits then_count
  fits_leaf v f x = simp (eq-eqb _ 0 x.fault, x.plain, x.count, x.rest)

  pub fits_node : (g f : Forest) → NodeFits g f → fits rd p st d c (node t g f) ≡ Some c'
  unfolding fits then_count
  fits_node g f x = simp (eq-eqb _ 0 x.fault, x.nested, x.count, x.inner, x.rest)

  pub leaf_fits : (v : List ℕ) (f : Forest) → fits rd p st d c (leaf t v f) ≡ Some c' → LeafFits v f
  unfolding fits
  leaf_fits v f q =
      let z = chosen (eqb (field_fault rd v (row_of p st t) d) 0 && not (eqb (cell_at (row_of p st t) 7) 0)) _ c' q in
      let y = both (eqb (field_fault rd v (row_of p st t) d) 0) (not (eqb (cell_at (row_of p st t) 7) 0)) z.0 in
      let n = counted (count_up (cell_at (row_of p st t) 8) c) _ c' z.1 in
      record { fault = eqb-true _ 0 y.0; plain = not-true _ y.1; with_it = n.0; count = n.1; rest = n.2 }

  pub node_fits : (g f : Forest) → fits rd p st d c (node t g f) ≡ Some c' → NodeFits g f
  unfolding fits
  node_fits g f q =
      let z = chosen (eqb (field_fault rd (encode g) (row_of p st t) d) 0 && eqb (cell_at (row_of p st t) 7) 0) _ c' q in
      let y = both (eqb (field_fault rd (encode g) (row_of p st t) d) 0) (eqb (cell_at (row_of p st t) 7) 0) z.0 in
      let n = counted (count_up (cell_at (row_of p st t) 8) c) _ c' z.1 in
      let m = counted (fits rd t 0 (d - cell_at (row_of p st t) 9) n.0 g) _ c' n.2 in
      record { fault = eqb-true _ 0 y.0; nested = y.1; with_it = n.0; count = n.1; inside = m.0; inner = m.1; rest = m.2 }

pub nil_fits : (rd : Reading) (p st d : ℕ) (c c' : Counts) → fits rd p st d c nil ≡ Some c' → (ltb (row_of p st 256) row_count ≡ true) × (c ≡ c')
unfolding fits
nil_fits rd p st d c c' q = let z = chosen (ltb (row_of p st 256) row_count) (Some c) c' q in (z.0, let y = z.1 in cc)

pub fits_nil : (rd : Reading) (p st d : ℕ) (c : Counts) → ltb (row_of p st 256) row_count ≡ true → fits rd p st d c nil ≡ Some c
unfolding fits
fits_nil rd p st d c q = simp q

-- ---- accepted, so fits

module _ (rd : Reading) (s : List ℕ) (p st at e d : ℕ) (c : Counts) where
  -- the field t from a to b stands there without a fault, and c1 is counted with it
  record Stands (t a b : ℕ) (c1 : Counts) : Type 0 where
    there : field_at s at e ≡ Some (record { tag = t; start = a; stop = b })
    fault : field_fault rd (part s a b) (row_of p st t) d ≡ 0
    count : count_up (cell_at (row_of p st t) 8) c ≡ Some c1

  -- what a step tells
  abbrev Tells : Step → Type 0
  Tells (Done c1) = (at ≡ e) × (c ≡ c1) × (ltb (row_of p st 256) row_count ≡ true)
  Tells (Past c1 st' b) = (t : ℕ) × (a : ℕ) × Stands t a b c1 × (eqb (cell_at (row_of p st t) 7) 0 ≡ false) × (cell_at (row_of p st t) 4 ≡ st')
  Tells (Into c1 st' t d' a b) = Stands t a b c1 × (eqb (cell_at (row_of p st t) 7) 0 ≡ true) × (cell_at (row_of p st t) 4 ≡ st') × (d - cell_at (row_of p st t) 9 ≡ d')

  abbrev TellsIf : Answer Step → Type 0
  TellsIf (done x) = Tells x
  TellsIf (refused n q) = Unit {0}

  tells_count : (t a b : ℕ) → field_at s at e ≡ Some (record { tag = t; start = a; stop = b }) → field_fault rd (part s a b) (row_of p st t) d ≡ 0 → (k : Option Counts) → count_up (cell_at (row_of p st t) 8) c ≡ k → TellsIf (on_count at d t a b (row_of p st t) k)
  unfolding on_count go_on
  tells_count t a b f v None k = tt
  tells_count t a b f v (Some c1) k =
      either Tells (eqb (cell_at (row_of p st t) 7) 0) _ _
      (λ h. (record { there = f; fault = v; count = k }, h, refl, refl))
      (λ h. (t, a, record { there = f; fault = v; count = k }, h, refl))

  tells_field : (h : Option Field) → field_at s at e ≡ h → TellsIf (on_field rd s p st at d c h)
  unfolding on_field on_fault
  tells_field None f = tt
  tells_field (Some x) f =
      either TellsIf (eqb (field_fault rd (part s x.start x.stop) (row_of p st x.tag) d) 0) _ _ (λ v. tells_count x.tag x.start x.stop f (eqb-true _ 0 v) (count_up (cell_at (row_of p st x.tag) 8) c) refl) (λ _. tt)

  tells : TellsIf (step_at rd s p st at e d c)
  unfolding step_at at_end
  tells =
      either TellsIf (eqb at e) _ _
      (λ h. either TellsIf (ltb (row_of p st 256) row_count) (done (Done c)) (refused 3 e) (λ r. (eqb-true at e h, refl, r)) (λ _. tt))
      (λ _. tells_field (field_at s at e) refl)

abbrev pub Encoded : Reading → List ℕ → ℕ → ℕ → ℕ → ℕ → ℕ → Counts → Counts → Type 0
Encoded rd s p st at e d c c' = (f : Forest) × (encode f ≡ part s at e) × (fits rd p st d c f ≡ Some c')

never : {A : Type 0} (n p : ℕ) (c : Counts) → refused n p ≡ done c → A
never n p c q = clash (cc)

module _ (rd : Reading) (s : List ℕ) (bs : AllBytes s) where
  -- what the check says of shorter walks, it says after a step
  abbrev Below : ℕ → Type 0
  Below n = (p st at e d : ℕ) (c c' : Counts) → e ≤ length s → walk n rd s p st at e d c ≡ done c' → Encoded rd s p st at e d c c'

  module _ (n : ℕ) (below : Below n) (p st at e d : ℕ) (c c' : Counts) (h : e ≤ length s) where
    entered : (t a b st' d' : ℕ) (c1 : Counts) → Stands rd s p st at e d c t a b c1 → eqb (cell_at (row_of p st t) 7) 0 ≡ true → cell_at (row_of p st t) 4 ≡ st' → d - cell_at (row_of p st t) 9 ≡ d'
        → (r : Answer Counts) → walk n rd s t 0 a b d' c1 ≡ r → (r >>= λ c2. walk n rd s p st' b e d c2) ≡ done c' → Encoded rd s p st at e d c c'
    unfolding encode
    entered t a b st' d' c1 S k q4 qd (refused m z) w q = never m z c' q
    entered t a b st' d' c1 S k q4 qd (done c2) w q =
        let F = field_part s bs at e t a b h S.there in
        let g = below t 0 a b d' c1 c2 (omega arith) w in
        let f = below p st' b e d c2 c' h q in (
          node t g.0 f.0,
          ap₂ ◌++◌ (ap (field t) g.1 ∙ F.0) f.1 ∙ sym (part_split s at b e F.1 F.2),
          fits_node rd p st d t c c' g.0 f.0 (record { fault = rw g.1 S.fault; nested = k; with_it = c1; count = S.count; inside = c2; inner = rw qd g.2; rest = rw q4 f.2 }),
        )

    stepped : (x : Answer Step) → TellsIf rd s p st at e d c x → (x >>= after (walk n rd s) p e d) ≡ done c' → Encoded rd s p st at e d c c'
    unfolding after encode
    stepped (refused m z) x q = never m z c' q
    stepped (done (Done c1)) x q =
        let z : e - at ≡ 0 = omega arith in
        let y : c1 ≡ c' = cc in
        (nil, rw z, fits_nil rd p st d c x.2 ∙ ap Some (x.1 ∙ y))
    stepped (done (Past c1 st' b)) x q =
        let F = field_part s bs at e x.0 x.1 b h x.2.there in
        let f = below p st' b e d c1 c' h q in (
          leaf x.0 (part s x.1 b) f.0,
          ap₂ ◌++◌ F.0 f.1 ∙ sym (part_split s at b e F.1 F.2),
          fits_leaf rd p st d x.0 c c' (part s x.1 b) f.0 (record { fault = x.2.fault; plain = x.3; with_it = c1; count = x.2.count; rest = rw x.4 f.2 }),
        )
    stepped (done (Into c1 st' t d' a b)) x q = entered t a b st' d' c1 x.0 x.1 x.2 x.3 (walk n rd s t 0 a b d' c1) refl q

  sound : (n : ℕ) → Below n
  unfolding walk
  sound zero p st at e d c c' h q = never 3 at c' q
  sound (suc n) p st at e d c c' h q = stepped n (sound n) p st at e d c c' h (step_at rd s p st at e d c) (tells rd s p st at e d c) q

-- ---- fits, so accepted

module _ (rd : Reading) (s : List ℕ) (p st at e d t a b : ℕ) (c c1 : Counts) (lt : at < e) (there : field_at s at e ≡ Some (record { tag = t; start = a; stop = b }))
    (fault : field_fault rd (part s a b) (row_of p st t) d ≡ 0) (count : count_up (cell_at (row_of p st t) 8) c ≡ Some c1) where
  past : eqb (cell_at (row_of p st t) 7) 0 ≡ false → step_at rd s p st at e d c ≡ done (Past c1 (cell_at (row_of p st t) 4) b)
  unfolding step_at on_field on_fault on_count go_on
  past k = let z : eqb at e ≡ false = ne_eqb at e (λ q. omega arith) in simp (z, there, eq-eqb _ 0 fault, count, k)

  into : eqb (cell_at (row_of p st t) 7) 0 ≡ true → step_at rd s p st at e d c ≡ done (Into c1 (cell_at (row_of p st t) 4) t (d - cell_at (row_of p st t) 9) a b)
  unfolding step_at on_field on_fault on_count go_on
  into k = let z : eqb at e ≡ false = ne_eqb at e (λ q. omega arith) in simp (z, there, eq-eqb _ 0 fault, count, k)

ended : (rd : Reading) (s : List ℕ) (p st at e d : ℕ) (c : Counts) → at ≡ e → ltb (row_of p st 256) row_count ≡ true → step_at rd s p st at e d c ≡ done (Done c)
unfolding step_at at_end
ended rd s p st at e d c q r = simp (eq-eqb at e q, r)

complete : (f : Forest) (rd : Reading) (s : List ℕ) (p st at e d : ℕ) (c c' : Counts) → e ≤ length s → at ≤ e → encode f ≡ part s at e → fits rd p st d c f ≡ Some c' → walk_at rd s p st at e d c ≡ done c'
unfolding encode after
complete nil rd s p st at e d c c' h k q w =
    let z = nil_fits rd p st d c c' w in
    let i : at ≡ e = omega (arith, ap length q, length_part s at e h) in
    walk_eq rd s p st at e d c ∙ ap (λ (x : Answer Step). x >>= after (walk_at rd s) p e d) (ended rd s p st at e d c i z.0) ∙ ap (λ (c : Counts). done c) z.1
complete (leaf t v f) rd s p st at e d c c' h k q w =
    let r = read s at e t v (encode f) h q in
    let x = leaf_fits rd p st d t c c' v f w in
    walk_eq rd s p st at e d c
    ∙ ap (λ (x : Answer Step). x >>= after (walk_at rd s) p e d) (past rd s p st at e d t (at + 3) (at + 3 + length v) c x.with_it (omega (arith, r.within)) r.there (rw r.body x.fault) x.count x.plain)
    ∙ complete f rd s p (cell_at (row_of p st t) 4) (at + 3 + length v) e d x.with_it c' h r.within r.left x.rest
complete (node t g f) rd s p st at e d c c' h k q w =
    let r = read s at e t (encode g) (encode f) h q in
    let x = node_fits rd p st d t c c' g f w in
    let ih = complete g rd s t 0 (at + 3) (at + 3 + length (encode g)) (d - cell_at (row_of p st t) 9) x.with_it x.inside (omega (arith, r.within)) (omega arith) (sym r.body) x.inner in
    walk_eq rd s p st at e d c
    ∙ ap (λ (x : Answer Step). x >>= after (walk_at rd s) p e d) (into rd s p st at e d t (at + 3) (at + 3 + length (encode g)) c x.with_it (omega (arith, r.within)) r.there (rw r.body x.fault) x.count x.nested)
    ∙ ap (λ (y : Answer Counts). y >>= (λ c2. walk_at rd s p (cell_at (row_of p st t) 4) (at + 3 + length (encode g)) e d c2)) ih
    ∙ complete f rd s p (cell_at (row_of p st t) 4) (at + 3 + length (encode g)) e d x.inside c' h r.within r.left x.rest

-- a value's bytes are accepted exactly where they are the encoding of fields that fit
pub exactly : (rd : Reading) (s : List ℕ) → AllBytes s → (p st at e d : ℕ) (c c' : Counts) → e ≤ length s → at ≤ e → (walk_at rd s p st at e d c ≡ done c') ↔ Encoded rd s p st at e d c c'
unfolding walk_at
exactly rd s bs p st at e d c c' h k = (λ q. sound rd s bs (suc (e - at)) p st at e d c c' h q, λ x. complete x.0 rd s p st at e d c c' h k x.1 x.2)
