-- One step says what is wrong at its place, the least number first, or that nothing is.
use mathlib.Core.Path.{◌≡◌, refl, sym, ◌∙◌}
use mathlib.Core.List.{List, [], ◌∷◌, ◌++◌}
use mathlib.Core.Bool.{Bool, true, false, cond}
use Prim.Native.Nat.{ℕ, zero, suc, ◌+◌, ◌-◌, ◌<◌, ◌≤◌}
use native.Mathlib.Omega.{arith}
use borrow.Author.Tests.{eqb-true, eqb-false, ltb-true, ltb-false}
use lib.Dec.{eqb, ltb}
use lib.ListN.{length, length-take, length-drop}
use Rattle.std.specs.Prelude.{Option, Some, None}
use Rattle.refusal.specs.MeaningAnswer.{Answer, done, refused}
use Rattle.grammar.specs.MeaningReading.{Reading, answers}
use Rattle.grammar.specs.MeaningReading.Reading.{rust}
use Rattle.sheet.specs.MeaningName.{is_name}
use Rattle.grammar.specs.MeaningGrammar.{one_of, expressions, slots_of, Fills, Kind, kind_of, holds_simple, most_bytes, most_depth, Limit, most, counts}
use Rattle.grammar.specs.MeaningGrammar.Kind.{name, simple, empty, fields}
use Rattle.grammar.specs.MeaningGrammar.Limit.{schemas, declarations, constraints, terms}
use Rattle.sheet.specs.MeaningSheet.{tag_of, size_of, end_of, value_of, Stood, how_many, Open, deep, Wrong}
use Rattle.sheet.specs.MeaningSheet.Open.{within}
use Rattle.sheet.specs.MeaningSheet.Wrong.{passes, bad_tag, bad_simple, full, missing, bad_name, limit, depth, forbidden}
use Rattle.grammar.specs.MirrorTable.{row_count, cell_at, row_of, answer_at}
use Rattle.sheet.specs.MirrorField.{field_at}
use Rattle.sheet.specs.MirrorCheck.{value_fault, depth_fault, or_next, field_fault, count_up, at_end, go_on, on_count, on_fault, on_field, step_at}
use Rattle.sheet.specs.declared.Field.{Field}
use Rattle.sheet.specs.declared.Counts.{Counts}
use Rattle.sheet.specs.declared.Step.{Step}
use Rattle.sheet.specs.declared.Step.TheVariants.{Done, Past, Into}
use Rattle.grammar.proofs.Choosing.{either, clash, opposed}
use Rattle.grammar.proofs.Tabulated.{Fit, no_row, end_row, no_end, next_fit, new_fit, goes_on, class_of, level_of, answer_of_law}
use Rattle.sheet.proofs.Valuing.{fault_kind, value_is, holds_fields_law, holds_none}
use Rattle.sheet.proofs.Counting.{of, AllTallied, all_tallied, same_counts}

-- in the base no reading refuses a tag of the table
none_forbidden : (rd : Reading) (p t : ℕ) → answers rd p t ≡ 0
unfolding answers
none_forbidden rust p t = refl

abbrev pub counts_of : List Stood → Counts
counts_of fs = record { schemas = how_many schemas fs; declarations = how_many declarations fs; constraints = how_many constraints fs; terms = how_many terms fs }

positive : (n : ℕ) → (n ≡ 0 → ⊥) → 0 < n
positive zero f = absurd (f refl)
positive (suc n) f = omega arith

less : {a b : ℕ} → a ≤ b → (a ≡ b → ⊥) → a < b
less {a} {b} h f = let z = positive (b - a) (λ q. f (omega arith)) in omega arith

cond_plus : (b : Bool) (x : ℕ) → cond b (x + 1) x ≡ x + cond b 1 0
cond_plus true x = refl
cond_plus false x = omega arith

cond_minus : (b : Bool) (x : ℕ) → most_depth - x - cond b 1 0 ≡ most_depth - cond b (x + 1) x
cond_minus true x = omega arith
cond_minus false x = omega arith

-- a field takes more levels than are left: it is an expression, and none is left; otherwise there is room
too_deep : (b : Bool) (m x : ℕ) → m ≡ cond b 1 0 → most_depth - x < m → (b ≡ true) × (most_depth ≤ x)
too_deep true m x q h = (refl, omega arith)
too_deep false m x q h = absurd (let y : ⊥ = omega arith in y)

room_for : (b : Bool) (m x : ℕ) → m ≡ cond b 1 0 → m ≤ most_depth - x → b ≡ true → x < most_depth
room_for true m x q h e = omega arith
room_for false m x q h e = clash (cc)

-- ---- at one place
module _ (rd : Reading) (s : List ℕ) (p e : ℕ) (es : List ℕ) (os : List Open) (at : ℕ) (fs : List Stood) where
  abbrev W : ℕ → Type 0
  W n = Wrong rd s p e es os at fs n

  abbrev t : ℕ
  t = tag_of s at

  abbrev v : List ℕ
  v = value_of s at

  abbrev D : ℕ
  D = deep (within p e es ∷ os)

  -- nothing is wrong with the number 3
  record Fine : Type 0 where
    before : at < e
    whole : end_of s at ≤ e
    allowed : (rest : List ℕ) × Fills (slots_of p) (es ++ (t ∷ rest))
    ok_simple : kind_of t ≡ simple → holds_simple v ≡ true
    ok_empty : kind_of t ≡ empty → size_of s at ≡ 0

  -- nor with the number 4
  abbrev Named : Type 0
  Named = kind_of t ≡ name → is_name v ≡ true

  -- nor with the number 5
  abbrev Shallow : Type 0
  Shallow = one_of expressions t ≡ true → D < most_depth

  abbrev Room : Type 0
  Room = (l : Limit) → counts l p t ≡ true → how_many l fs < most l

  never : {C : Type 0} → 0 < answers rd p t → C
  never h = absurd (let y : ⊥ = omega (arith, none_forbidden rd p t) in y)

  pub from3 : (m : ℕ) → W m → 3 ≤ m
  from3 m (passes a b) = omega arith
  from3 m (bad_tag a b) = omega arith
  from3 m (bad_simple a b c) = omega arith
  from3 m (full a b c) = omega arith
  from3 m (missing a b) = omega arith
  from3 m (bad_name a b c) = omega arith
  from3 m (limit a l b c) = omega arith
  from3 m (depth a b c) = omega arith
  from3 m (forbidden a b) = never b

  from4 : Fine → (m : ℕ) → W m → 4 ≤ m
  from4 F m (passes a b) = omega (arith, F.whole)
  from4 F m (bad_tag a b) = absurd (b F.allowed.0 F.allowed.1)
  from4 F m (bad_simple a b c) = opposed (F.ok_simple b) c
  from4 F m (full a b c) = omega (arith, F.ok_empty b)
  from4 F m (missing a b) = omega (arith, F.before)
  from4 F m (bad_name a b c) = omega arith
  from4 F m (limit a l b c) = omega arith
  from4 F m (depth a b c) = omega arith
  from4 F m (forbidden a b) = never b

  five : Fine → Named → (m : ℕ) → W m → (m ≡ 5) × ((Shallow → Room → ⊥))
  five F N m (passes a b) = absurd (let y : ⊥ = omega (arith, F.whole) in y)
  five F N m (bad_tag a b) = absurd (b F.allowed.0 F.allowed.1)
  five F N m (bad_simple a b c) = opposed (F.ok_simple b) c
  five F N m (full a b c) = absurd (let y : ⊥ = omega (arith, F.ok_empty b) in y)
  five F N m (missing a b) = absurd (let y : ⊥ = omega (arith, F.before) in y)
  five F N m (bad_name a b c) = opposed (N b) c
  five F N m (limit a l b c) = (refl, λ S R. omega (arith, R l b))
  five F N m (depth a b c) = (refl, λ S R. omega (arith, S b))
  five F N m (forbidden a b) = never b

  from5 : Fine → Named → (m : ℕ) → W m → 5 ≤ m
  from5 F N m w = let z = (five F N m w).0 in omega arith

  nothing : Fine → Named → Shallow → Room → (m : ℕ) → W m → ⊥
  nothing F N S R m w = (five F N m w).1 S R

  -- nothing stands at the end of a value
  at_end_law : at ≡ e → Fills (slots_of p) es → (m : ℕ) → W m → ⊥
  at_end_law z h m (passes a b) = omega arith
  at_end_law z h m (bad_tag a b) = omega arith
  at_end_law z h m (bad_simple a b c) = omega arith
  at_end_law z h m (full a b c) = omega arith
  at_end_law z h m (missing a b) = b h
  at_end_law z h m (bad_name a b c) = omega arith
  at_end_law z h m (limit a l b c) = omega arith
  at_end_law z h m (depth a b c) = omega arith
  at_end_law z h m (forbidden a b) = omega arith

  -- ---- the count

  many1 : (l : Limit) → of l (counts_of ((p, t) ∷ fs)) ≡ of l (counts_of fs) + cond (counts l p t) 1 0
  unfolding how_many
  many1 schemas = cond_plus (counts schemas p t) (how_many schemas fs)
  many1 declarations = cond_plus (counts declarations p t) (how_many declarations fs)
  many1 constraints = cond_plus (counts constraints p t) (how_many constraints fs)
  many1 terms = cond_plus (counts terms p t) (how_many terms fs)

  many : (l : Limit) → of l (counts_of fs) ≡ how_many l fs
  many schemas = refl
  many declarations = refl
  many constraints = refl
  many terms = refl

  abbrev CountSays : Option Counts → Type 0
  CountSays None = W 5
  CountSays (Some c1) = Room × (c1 ≡ counts_of ((p, t) ∷ fs))

  count_says : at < e → (x : Option Counts) → AllTallied p t (counts_of fs) x → CountSays x
  count_says b None (l, q) = limit b l q.0 (omega (arith, q.1, many l))
  count_says b (Some c1) x = ((λ l q. omega (arith, (x l).1 q, many l)), same_counts c1 (counts_of ((p, t) ∷ fs)) (λ l. (x l).0 ∙ sym (many1 l)))

  -- ---- the step

  pub record OverIt (b st1 : ℕ) (c1 : Counts) : Type 0 where
    pub before : at < e
    pub whole : end_of s at ≤ e
    pub ends : b ≡ end_of s at
    pub fit : Fit p (es ++ (t ∷ [])) st1
    pub count : c1 ≡ counts_of ((p, t) ∷ fs)
    pub right : (n : ℕ) → W n → ⊥

  abbrev pub Judged : Step → Type 0
  Judged (Done c1) = (at ≡ e) × (c1 ≡ counts_of fs) × ((n : ℕ) → W n → ⊥)
  Judged (Past c1 st1 b) = OverIt b st1 c1 × (kind_of t ≡ fields → ⊥)
  Judged (Into c1 st1 u d1 a b) = OverIt b st1 c1 × (kind_of t ≡ fields) × (u ≡ t) × (a ≡ at + 3) × Fit t [] 0 × (d1 ≡ most_depth - cond (one_of expressions t) (D + 1) D)

  abbrev pub JudgedIf : Answer Step → Type 0
  JudgedIf (done x) = Judged x
  JudgedIf (refused n q) = (q ≡ at) × W n × ((m : ℕ) → W m → n ≤ m)

  module _ (st : ℕ) (F : Fit p es st) (byte : t < 256) (small : length s ≤ most_bytes) (end : e ≤ length s) where
    abbrev R : ℕ
    R = row_of p st t

    -- what the step does where the field by itself has the fault n
    abbrev on_f : ℕ → Answer Step
    on_f n = on_fault at (most_depth - D) (counts_of fs) t (at + 3) (end_of s at) R n

    module _ (h : ltb R row_count ≡ true) where
      on_count_law : Fine → Named → Shallow → (k : Option Counts) → CountSays k → JudgedIf (on_count at (most_depth - D) t (at + 3) (end_of s at) R k)
      unfolding on_count go_on
      on_count_law G N S None x = (refl, x, from5 G N)
      on_count_law G N S (Some c1) x =
          let o : OverIt (end_of s at) (cell_at R 4) c1 = record { before = G.before; whole = G.whole; ends = refl; fit = next_fit p st t byte h es F; count = x.1; right = nothing G N S x.0 } in
          let d : most_depth - D - cell_at R 9 ≡ most_depth - cond (one_of expressions t) (D + 1) D = rw (level_of p st t byte h) (cond_minus (one_of expressions t) D) in
          either Judged (eqb (cell_at R 7) 0) _ _
          (λ q. (o, holds_fields_law p st t byte h q, refl, refl, new_fit p st t byte h (holds_fields_law p st t byte h q), d))
          (λ q. (o, holds_none p st t byte h q))

      on_depth : Fine → Named → JudgedIf (on_f (depth_fault (most_depth - D) R))
      unfolding depth_fault on_fault
      on_depth G N =
          either (λ (n : ℕ). JudgedIf (on_f n)) (ltb (most_depth - D) (cell_at R 9)) 5 0
          (λ q. let z = too_deep (one_of expressions t) (cell_at R 9) D (level_of p st t byte h) (ltb-true (most_depth - D) (cell_at R 9) q) in (refl, depth G.before z.0 z.1, from5 G N))
          (λ q.
          let S : Shallow = room_for (one_of expressions t) (cell_at R 9) D (level_of p st t byte h) (ltb-false (most_depth - D) (cell_at R 9) q) in
          on_count_law G N S (count_up (cell_at R 8) (counts_of fs)) (count_says G.before (count_up (cell_at R 8) (counts_of fs)) (all_tallied p t (counts_of fs) (cell_at R 8) (class_of p st t byte h))))

      on_value : at < e → end_of s at ≤ e → (k : Kind) → kind_of t ≡ k → length v ≡ size_of s at → JudgedIf (on_f (or_next (fault_kind k v) (depth_fault (most_depth - D) R)))
      unfolding or_next on_fault
      on_value b w name q l =
          let G : Fine = record { before = b; whole = w; allowed = goes_on p st t byte h es F; ok_simple = λ r. clash (cc); ok_empty = λ r. clash (cc) } in
          either (λ (n : ℕ). JudgedIf (on_f (or_next n (depth_fault (most_depth - D) R)))) (is_name v) 0 4 (λ r. on_depth G (λ _. r)) (λ r. (refl, bad_name b q r, from4 G))
      on_value b w simple q l =
          either (λ (n : ℕ). JudgedIf (on_f (or_next n (depth_fault (most_depth - D) R)))) (holds_simple v) 0 3
          (λ r. on_depth (record { before = b; whole = w; allowed = goes_on p st t byte h es F; ok_simple = λ _. r; ok_empty = λ r. clash (cc) }) (λ r. clash (cc)))
          (λ r. (refl, bad_simple b q r, from3))
      on_value b w empty q l =
          either (λ (n : ℕ). JudgedIf (on_f (or_next n (depth_fault (most_depth - D) R)))) (eqb (length v) 0) 0 3
          (λ r. on_depth (record { before = b; whole = w; allowed = goes_on p st t byte h es F; ok_simple = λ r. clash (cc); ok_empty = λ _. sym l ∙ eqb-true (length v) 0 r }) (λ r. clash (cc)))
          (λ r. (refl, full b q (positive (size_of s at) (λ z. eqb-false (length v) 0 r (l ∙ z))), from3))
      on_value b w fields q l =
          on_depth (record { before = b; whole = w; allowed = goes_on p st t byte h es F; ok_simple = λ r. clash (cc); ok_empty = λ r. clash (cc) }) (λ r. clash (cc))

    size_of_law : end_of s at ≤ e → length v ≡ size_of s at
    size_of_law w = simp (length-take, length-drop) (omega arith)

    field_law : at < e → end_of s at ≤ e → JudgedIf (on_f (field_fault rd v R (most_depth - D)))
    unfolding field_fault or_next on_fault
    field_law b w =
        either (λ (n : ℕ). JudgedIf (on_f n)) (ltb R row_count) (or_next (answer_at rd R) (or_next (value_fault v R) (depth_fault (most_depth - D) R))) 3
        (λ h.
        let l = size_of_law w in
        let y = value_is p st t byte h v (omega arith) in
        let z : answer_at rd R ≡ 0 = answer_of_law p st t byte h rd ∙ none_forbidden rd p t in
        rw (z, y) (on_value h b w (kind_of t) refl l))
        (λ h. (refl, bad_tag b (no_row p es st t F h), from3))

    pub judged : at ≤ e → JudgedIf (step_at rd s p st at e (most_depth - D) (counts_of fs))
    unfolding step_at at_end on_field field_at
    judged k =
        either JudgedIf (eqb at e) _ _
        (λ q.
        let z = eqb-true at e q in
        either JudgedIf (ltb (row_of p st 256) row_count) (done (Done (counts_of fs))) (refused 3 e)
        (λ h. (z, refl, at_end_law z (end_row p es st F h)))
        (λ h. (sym z, missing z (no_end p es st F h), from3)))
        (λ q.
        let b : at < e = less k (eqb-false at e q) in
        either (λ (x : Option Field). JudgedIf (on_field rd s p st at (most_depth - D) (counts_of fs) x)) (ltb (e - at) 3) None _
        (λ h. (refl, passes b (omega (arith, ltb-true (e - at) 3 h)), from3))
        (λ h. either (λ (x : Option Field). JudgedIf (on_field rd s p st at (most_depth - D) (counts_of fs) x)) (ltb (e - (at + 3)) (size_of s at)) None _
        (λ g. (refl, passes b (omega (arith, ltb-false (e - at) 3 h, ltb-true (e - (at + 3)) (size_of s at) g)), from3))
        (λ g.
        let w : end_of s at ≤ e = omega (arith, ltb-false (e - at) 3 h, ltb-false (e - (at + 3)) (size_of s at) g) in
        let y : end_of s at - (at + 3) ≡ size_of s at = omega arith in
        rw y (field_law b w))))
