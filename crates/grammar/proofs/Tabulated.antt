-- The table's rows say what the grammar says: tests of the whole table that antt computes, and the laws that they give at the row of a tag.
use mathlib.Core.Path.{◌≡◌, refl, sym, ap, subst}
use mathlib.Core.Logic.{◌↔◌}
use mathlib.Core.List.{List, [], ◌∷◌, ◌++◌, map, append_assoc, append-nil}
use mathlib.Core.Bool.{Bool, true, false, cond, ◌&&◌, not}
use Prim.Native.Nat.{ℕ, ◌<◌}
use native.Mathlib.Omega.{arith}
use borrow.Author.Tests.{ne_eqb, ltb-true, le-leb}
use lib.Dec.{eqb, ltb, leb}
use lib.ListN.{length, get_or, drop}
use Rattle.grammar.specs.MeaningReading.{Reading, answers}
use Rattle.grammar.specs.MeaningReading.Reading.{rust}
use Rattle.grammar.specs.MeaningGrammar.{Slot, grammar, expressions, slot, line, one_of, needed, again, slots_in, slots_of, Fills, kind_of, Limit, counts}
use Rattle.grammar.specs.MeaningGrammar.Kind.{fields}
use Rattle.grammar.specs.MeaningGrammar.Limit.{schemas, declarations, constraints, terms}
use Rattle.grammar.specs.MirrorRows.{rows, leaf_kind, levels_of}
use Rattle.grammar.specs.MirrorTable.{row_count, cell_at, row_of, belongs, serves, first, answer_at}
use Rattle.grammar.proofs.Choosing.{clash}
use Rattle.grammar.proofs.Serving.{Row, key, at_row}
use Rattle.grammar.proofs.Sequences.{may, after_tag, lacks, among, EachOf, each_of, tags_of, Nice, nice_drop, may_tags, fill_first, first_fill, fill_end, end_fill, some_fill}

-- ---- tests of the columns; the row of the end is left out

abbrev parents : List ℕ
parents = 0 ∷ 0x01 ∷ 0x20 ∷ 0x30 ∷ 0x31 ∷ 0x33 ∷ 0x34 ∷ 0x40 ∷ 0x51 ∷ 0x52 ∷ 0x53 ∷ []

abbrev states : List ℕ
states = 0 ∷ 1 ∷ 2 ∷ 3 ∷ 4 ∷ []

-- a count's class
abbrev pub own : Limit → ℕ
own schemas = 1
own declarations = 2
own constraints = 3
own terms = 4

abbrev by_tag : {Y : Type 0} → List ℕ → Y → Y → Y
by_tag r x y = cond (eqb (get_or r 1 0) 256) x y

leaf_test : map (λ (r : List ℕ). by_tag r [] (get_or r 5 0 ∷ get_or r 6 0 ∷ get_or r 7 0 ∷ [])) rows ≡ map (λ (r : List ℕ). by_tag r [] (leaf_kind (kind_of (get_or r 1 0)))) rows
unfolding rows kind_of one_of leaf_kind
leaf_test = refl

abbrev class_has : Limit → List ℕ → Bool
class_has l r = by_tag r true (eqb (get_or r 8 0) (own l))

abbrev class_owes : Limit → List ℕ → Bool
class_owes l r = by_tag r true (counts l (get_or r 0 0) (get_or r 1 0))

class_test : (l : Limit) → map (class_has l) rows ≡ map (class_owes l) rows
unfolding rows counts one_of expressions
class_test schemas = refl
class_test declarations = refl
class_test constraints = refl
class_test terms = refl

level_test : map (λ (r : List ℕ). by_tag r 0 (get_or r 9 0)) rows ≡ map (λ (r : List ℕ). by_tag r 0 (levels_of (get_or r 1 0))) rows
unfolding rows levels_of one_of expressions
level_test = refl

answer_has : Reading → List ℕ → ℕ
answer_has rust r = by_tag r 0 (get_or r 10 0)

answer_test : (rd : Reading) → map (answer_has rd) rows ≡ map (λ (r : List ℕ). by_tag r 0 (answers rd (get_or r 0 0) (get_or r 1 0))) rows
unfolding rows answers answer_has
answer_test rust = refl

-- a tag that holds fields has a line
line_test : map (λ (r : List ℕ). cond (eqb (get_or r 7 0) 0) (one_of parents (get_or r 1 0)) true) rows ≡ map (λ (r : List ℕ). true) rows
unfolding rows one_of
line_test = refl

-- ---- tests of the states

abbrev Slotted : Type 0
Slotted = Bool × List Slot × Bool × Bool

abbrev here : List ℕ → ℕ → Bool
here r st = leb (get_or r 2 0) st && leb st (get_or r 3 0)

-- in each state that the row allows, the slots allow its tag, and leave what its next state says
abbrev slot_has : List ℕ → ℕ → Slotted
slot_has r st = by_tag r (true, [], true, true) (cond (here r st) (may (drop st (slots_of (get_or r 0 0))) (get_or r 1 0), after_tag (drop st (slots_of (get_or r 0 0))) (get_or r 1 0), one_of states (get_or r 4 0), leb (get_or r 4 0) (length (slots_of (get_or r 0 0)))) (true, [], true, true))

abbrev slot_owes : List ℕ → ℕ → Slotted
slot_owes r st = by_tag r (true, [], true, true) (cond (here r st) (true, drop (get_or r 4 0) (slots_of (get_or r 0 0)), true, true) (true, [], true, true))

slot_test : map (λ (r : List ℕ). map (slot_has r) states) rows ≡ map (λ (r : List ℕ). map (slot_owes r) states) rows
unfolding rows slots_in grammar slot line expressions one_of needed again may after_tag
slot_test = refl

-- the row of the end serves where no slot that is left is needed
abbrev end_has : List ℕ → ℕ → Bool
end_has r st = by_tag r (cond (here r st) (lacks (drop st (slots_of (get_or r 0 0)))) false) false

end_test : map (λ (r : List ℕ). map (end_has r) states) rows ≡ map (λ (r : List ℕ). map (λ (st : ℕ). false) states) rows
unfolding rows slots_in grammar slot line expressions needed lacks
end_test = refl

-- and the other way: what the slots allow, a row allows
abbrev back_has : ℕ → ℕ → ℕ → Bool
back_has p st t = cond (may (drop st (slots_of p)) t) (ltb (row_of p st t) row_count) true

back_test : map (λ (p : ℕ). map (λ (st : ℕ). map (back_has p st) (tags_of (drop st (slots_of p)))) states) parents ≡ map (λ (p : ℕ). map (λ (st : ℕ). map (λ (t : ℕ). true) (tags_of (drop st (slots_of p)))) states) parents
unfolding rows row_of first serves belongs slots_in grammar slot line expressions one_of needed may
back_test = refl

abbrev back_end_has : ℕ → ℕ → Bool
back_end_has p st = cond (leb st (length (slots_of p)) && not (lacks (drop st (slots_of p)))) (ltb (row_of p st 256) row_count) true

back_end_test : map (λ (p : ℕ). map (back_end_has p) states) parents ≡ map (λ (p : ℕ). map (λ (st : ℕ). true) states) parents
unfolding rows row_of first serves belongs slots_in grammar slot line expressions needed lacks
back_end_test = refl

all_nice : EachOf (λ (p : ℕ). Nice (slots_of p)) parents
unfolding slots_in grammar slot line expressions one_of
all_nice = (
  ((λ _. refl), (0x01, refl), tt),
  (
    ((λ _. refl), (0x10, refl), ((λ _. refl), (0x20, refl), ((λ _. refl), (0x30, refl), ((λ _. refl), (0x40, refl), tt)))),
    (
      ((λ _. refl), (0x10, refl), ((λ _. refl), (0x21, refl), tt)),
      (
        ((λ _. refl), (0x10, refl), ((λ _. refl), (0x31, refl), ((λ _. refl), (0x34, refl), tt))),
        (
          ((λ _. refl), (0x50, refl), tt),
          (
            ((λ _. refl), (0x50, refl), tt),
            (((λ _. refl), (0x10, refl), tt), (((λ _. refl), (0x10, refl), ((λ _. refl), (0x50, refl), tt)), (((λ _. refl), (0x50, refl), tt), (((λ _. refl), (0x50, refl), tt), (((λ _. refl), (0x50, refl), tt), tt))))),
          ),
        ),
      ),
    ),
  ),
)

-- ---- the laws

-- the state st of the parent p says which tags may follow these
pub record Fit (p : ℕ) (es : List ℕ) (st : ℕ) : Type 0 where
  pub a_line : one_of parents p ≡ true
  pub a_state : one_of states st ≡ true
  pub low : leb st (length (slots_of p)) ≡ true
  pub says : (ts : List ℕ) → Fills (slots_of p) (es ++ ts) ↔ Fills (drop st (slots_of p)) ts

pub sheet_fit : Fit 0 [] 0
unfolding one_of slots_in grammar slot line expressions
sheet_fit = record { a_line = refl; a_state = refl; low = refl; says = λ ts. (λ r. r, λ r. r) }

module _ (p st t : ℕ) (b : t < 256) (h : ltb (row_of p st t) row_count ≡ true) where
  not256 : eqb t 256 ≡ false
  not256 = ne_eqb t 256 (λ e. omega arith)

  at_tag : {Y : Type 0} (f g : List ℕ → Y) → map f rows ≡ map g rows → f (Row p st t h) ≡ g (Row p st t h)
  at_tag f g q = at_row f g q (row_of p st t) (ltb-true (row_of p st t) row_count h)

  pub leafs : (cell_at (row_of p st t) 5 ∷ cell_at (row_of p st t) 6 ∷ cell_at (row_of p st t) 7 ∷ []) ≡ leaf_kind (kind_of t)
  unfolding cell_at
  leafs = rw ((key p st t h).tag_is, not256) at (at_tag _ _ leaf_test)

  pub class_of : (l : Limit) → eqb (cell_at (row_of p st t) 8) (own l) ≡ counts l p t
  unfolding cell_at
  class_of l = rw ((key p st t h).tag_is, (key p st t h).parent_is, not256) at (at_tag (class_has l) (class_owes l) (class_test l))

  pub level_of : cell_at (row_of p st t) 9 ≡ cond (one_of expressions t) 1 0
  unfolding cell_at levels_of
  level_of = rw ((key p st t h).tag_is, not256) at (at_tag _ _ level_test)

  pub answer_of_law : (rd : Reading) → answer_at rd (row_of p st t) ≡ answers rd p t
  unfolding cell_at answer_at answer_has
  answer_of_law rust = rw ((key p st t h).tag_is, (key p st t h).parent_is, not256) at (at_tag (answer_has rust) (λ (r : List ℕ). by_tag r 0 (answers rust (get_or r 0 0) (get_or r 1 0))) (answer_test rust))

  slotted : one_of states st ≡ true → ◌≡◌ {A = Slotted} (may (drop st (slots_of p)) t, after_tag (drop st (slots_of p)) t, one_of states (cell_at (row_of p st t) 4), leb (cell_at (row_of p st t) 4) (length (slots_of p))) (true, drop (cell_at (row_of p st t) 4) (slots_of p), true, true)
  unfolding cell_at
  slotted k =
      let q = at_tag (λ (r : List ℕ). map (slot_has r) states) (λ (r : List ℕ). map (slot_owes r) states) slot_test in
      let w = among (slot_has (Row p st t h)) (slot_owes (Row p st t h)) states q st k in
      rw ((key p st t h).tag_is, (key p st t h).parent_is, not256, (key p st t h).from, (key p st t h).upto) at w

  pub new_fit : kind_of t ≡ fields → Fit t [] 0
  unfolding cell_at one_of leaf_kind
  new_fit k =
      let l = leafs in
      let z : cell_at (row_of p st t) 7 ≡ 0 = (let w = rw k at l in cc) in
      let q = at_tag (λ (r : List ℕ). cond (eqb (get_or r 7 0) 0) (one_of parents (get_or r 1 0)) true) (λ (r : List ℕ). true) line_test in
      let y : one_of parents t ≡ true = rw ((key p st t h).tag_is, z) at q in
      record { a_line = y; a_state = refl; low = le-leb 0 (length (slots_of t)) (omega arith); says = λ ts. (λ r. r, λ r. r) }

  module _ (es : List ℕ) (F : Fit p es st) where
    nice : (k : ℕ) → Nice (drop k (slots_of p))
    nice k = nice_drop k (slots_of p) (each_of (λ (p : ℕ). Nice (slots_of p)) parents all_nice p F.a_line)

    left_are : after_tag (drop st (slots_of p)) t ≡ drop (cell_at (row_of p st t) 4) (slots_of p)
    left_are = ap (λ (x : Slotted). x.1) (slotted F.a_state)

    can : may (drop st (slots_of p)) t ≡ true
    can = ap (λ (x : Slotted). x.0) (slotted F.a_state)

    one_on : (ts : List ℕ) → Fills (slots_of p) ((es ++ (t ∷ [])) ++ ts) ↔ Fills (drop (cell_at (row_of p st t) 4) (slots_of p)) ts
    one_on ts = (
      λ r. subst (λ (xs : List Slot). Fills xs ts) left_are (fill_first (drop st (slots_of p)) t ts (nice st) ((F.says (t ∷ ts)).0 (subst (Fills (slots_of p)) (append_assoc es (t ∷ []) ts) r))).1,
      λ r. subst (Fills (slots_of p)) (sym (append_assoc es (t ∷ []) ts)) ((F.says (t ∷ ts)).1 (first_fill (drop st (slots_of p)) t ts can (subst (λ (xs : List Slot). Fills xs ts) (sym left_are) r))),
    )

    pub next_fit : Fit p (es ++ (t ∷ [])) (cell_at (row_of p st t) 4)
    next_fit =
        let w = slotted F.a_state in
        record { a_line = F.a_line; a_state = ap (λ (x : Slotted). x.2) w; low = ap (λ (x : Slotted). x.3) w; says = one_on }

    -- where a row serves, some whole value goes on with the tag
    pub goes_on : (rest : List ℕ) × Fills (slots_of p) (es ++ (t ∷ rest))
    goes_on =
        let r = some_fill (drop (cell_at (row_of p st t) 4) (slots_of p)) (nice (cell_at (row_of p st t) 4)) in
        (r.0, (F.says (t ∷ r.0)).1 (first_fill (drop st (slots_of p)) t r.0 can (subst (λ (xs : List Slot). Fills xs r.0) (sym left_are) r.1)))

-- and where none serves, none does
pub no_row : (p : ℕ) (es : List ℕ) (st t : ℕ) → Fit p es st → ltb (row_of p st t) row_count ≡ false → (rest : List ℕ) → Fills (slots_of p) (es ++ (t ∷ rest)) → ⊥
no_row p es st t F h rest r = clash (let z = back (fill_first (drop st (slots_of p)) t rest (nice_drop st (slots_of p) (each_of (λ (p : ℕ). Nice (slots_of p)) parents all_nice p F.a_line)) ((F.says (t ∷ rest)).0 r)).0 in cc)
  where
    back : may (drop st (slots_of p)) t ≡ true → ltb (row_of p st t) row_count ≡ true
    back m =
        let q = among (λ (p : ℕ). map (λ (st : ℕ). map (back_has p st) (tags_of (drop st (slots_of p)))) states) (λ (p : ℕ). map (λ (st : ℕ). map (λ (t : ℕ). true) (tags_of (drop st (slots_of p)))) states) parents back_test p F.a_line in
        let w = among (λ (st : ℕ). map (back_has p st) (tags_of (drop st (slots_of p)))) (λ (st : ℕ). map (λ (t : ℕ). true) (tags_of (drop st (slots_of p)))) states q st F.a_state in
        rw m at (among (back_has p st) (λ (t : ℕ). true) (tags_of (drop st (slots_of p))) w t (may_tags (drop st (slots_of p)) t m))

-- the row of the end serves exactly where the value may end
pub end_row : (p : ℕ) (es : List ℕ) (st : ℕ) → Fit p es st → ltb (row_of p st 256) row_count ≡ true → Fills (slots_of p) es
end_row p es st F h =
    let q = at_row (λ (r : List ℕ). map (end_has r) states) (λ (r : List ℕ). map (λ (st : ℕ). false) states) end_test (row_of p st 256) (ltb-true (row_of p st 256) row_count h) in
    let w = among (end_has (Row p st 256 h)) (λ (st : ℕ). false) states q st F.a_state in
    let v : lacks (drop st (slots_of p)) ≡ false = rw ((key p st 256 h).tag_is, (key p st 256 h).parent_is, (key p st 256 h).from, (key p st 256 h).upto) at w in
    subst (Fills (slots_of p)) (append-nil es) ((F.says []).1 (end_fill (drop st (slots_of p)) v))

pub no_end : (p : ℕ) (es : List ℕ) (st : ℕ) → Fit p es st → ltb (row_of p st 256) row_count ≡ false → Fills (slots_of p) es → ⊥
no_end p es st F h r =
    let v = fill_end ((F.says []).0 (subst (Fills (slots_of p)) (sym (append-nil es)) r)) in
    let w = among (back_end_has p) (λ (st : ℕ). true) states (among (λ (p : ℕ). map (back_end_has p) states) (λ (p : ℕ). map (λ (st : ℕ). true) states) parents back_end_test p F.a_line) st F.a_state in
    clash (let z : ltb (row_of p st 256) row_count ≡ true = rw (F.low, v) at w in cc)
