-- `next_part`: the rows of a list that stands behind the records, one after the other.
use mathlib.Core.Path.{◌≡◌, refl, sym, ap, ◌∙◌}
use mathlib.Core.List.{List, [], ◌∷◌, ◌++◌, append_assoc}
use Prim.Native.Nat.{ℕ, ◌+◌, ◌*◌, ◌-◌, ◌≤◌, ◌<◌}
use native.Mathlib.Numerals.{add-one}
use native.Mathlib.Omega.{arith}
use lib.ListN.{length, take, drop, length-append, length-drop, take-append-drop, drop_of_length-le}
use lib.Seq.{drop-cons, drop-drop, drop-append-le, take_all}
use mir.Syntax.{w64}
use mir.Val.{Fits}
use borrow.Author.Rules.{Fits-under}
use Rattle.std.specs.Prelude.{Option, Some, None}
use Rattle.complex_entity.specs.MeaningParts.{Part}
use Rattle.complex_entity.specs.MeaningRows.{row_of, flat}
use Rattle.complex_entity.specs.MirrorParts.{part_at}
use Rattle.complex_entity.proofs.Rows.{part_at_few}
use Rattle.rows.specs.MirrorRows.{parts_at, Stands}
use Rattle.rows.proofs.Flats.{parts_narrow, parts_length, parts_at_law, flat_cons, flat_length, flat_drop}
use Rattle.grammar.specs.MeaningReading.{Reading}
use Rattle.declarations.specs.MeaningNamespace.{schemas_in}
use Rattle.text.specs.MeaningText.{part_line}
use Rattle.text.specs.MirrorText.{Puts}
use Rattle.noting.specs.MirrorNoted.{Noted}
use Rattle.listing.specs.MeaningLines.{line_of_part, part_lines}
use Rattle.listing.specs.MirrorLines.{Short, RowStands}
use Rattle.listing.proofs.Proved.{parts_stand}
use Rattle.lister.specs.MirrorRest.{PartsLeft, supertypes_from, owners, Rest, Gives, AtCursor, GivesFirst, left, Falls}
use Rattle.lister.specs.declared.Cursor.TheVariants as on
use Rattle.lister.specs.declared.Line.{Line}
use Rattle.lister.specs.declared.Parts.{Parts}

-- ---- the row of a number

module _ (rows : List ℕ) (count : ℕ) (S : Stands rows count) (i : ℕ) (h : i < count) where
  abbrev list : List Part
  list = parts_at count rows

  part_here : drop i list ≡ part_at (drop (13 * i) rows) ∷ drop (i + 1) list
  part_here = drop-cons list i [] (omega (arith, parts_length count rows)) ∙ rw (parts_at_law count i rows [] h, add-one i) refl

  row_here : drop (13 * i) rows ≡ row_of (part_at (drop (13 * i) rows)) ++ (flat (drop (i + 1) list) ++ drop (13 * count) rows)
  row_here =
      let n = parts_narrow count rows in
      let l = parts_length count rows in
      let whole : rows ≡ flat list ++ drop (13 * count) rows = sym (take-append-drop (13 * count) rows) ∙ ap (λ (k : List ℕ). k ++ drop (13 * count) rows) S.clean in
      ap (drop (13 * i)) whole
      ∙ drop-append-le (13 * i) (flat list) (drop (13 * count) rows) (omega (arith, flat_length list n))
      ∙ ap (λ (k : List ℕ). k ++ drop (13 * count) rows) (flat_drop list i n (omega arith) ∙ ap flat part_here ∙ flat_cons (part_at (drop (13 * i) rows)) (drop (i + 1) list))
      ∙ append_assoc (row_of (part_at (drop (13 * i) rows))) (flat (drop (i + 1) list)) (drop (13 * count) rows)

  row_stands : RowStands (drop (13 * i) rows)
  row_stands = rw row_here (parts_stand (part_at (drop (13 * i) rows)) (flat (drop (i + 1) list) ++ drop (13 * count) rows) (part_at_few (drop (13 * i) rows))).0

-- what is lent from there on is all that is there
abbrev row_from : List ℕ → Parts → List ℕ
row_from work p = take (length work - (2048 + 13 * p.number)) (drop (2048 + 13 * p.number) work)

whole_row : (work : List ℕ) (p : Parts) → row_from work p ≡ drop (2048 + 13 * p.number) work
whole_row work p = take_all (length work - (2048 + 13 * p.number)) (drop (2048 + 13 * p.number) work) (omega (arith, length-drop (2048 + 13 * p.number) work))

-- ---- what is required

module _ (rd : Reading) (s names work : List ℕ) (p : Parts) (A : AtCursor rd s names work (on.Parts p)) where
  parts_left : PartsLeft rd s A.walked names work p A.lines
  unfolding Rest
  parts_left = A.rest

  -- the supertypes behind the parts are left too
  pub part_on : AtCursor rd s names work (on.Supertypes p.then)
  unfolding Rest
  part_on =
      let q = parts_left in
      record {
        walked = A.walked;
        walks = A.walks;
        lines = supertypes_from rd s A.walked q.both (owners q.from);
        rest = record { ready = q.ready; both = q.both; from = q.from; lines = refl };
      }

  pub part_short : Short s
  part_short = parts_left.ready.short

  pub part_noted : Noted s names
  part_noted = parts_left.ready.noted

  module _ (h : p.number < p.count) where
    pub part_small : p.number ≤ 65535
    part_small = omega (arith, parts_left.rows.small)

    pub part_inside : 2048 + 13 * p.number ≤ length work
    part_inside = omega (arith, parts_left.rows.small, parts_left.from.stands.roomy)

    -- where the row begins fits a place, and so does its place in bytes
    pub part_fits : Fits w64 (13 * p.number)
    part_fits = Fits-under w64 (13 * p.number) 65536 (omega (arith, parts_left.rows.small)) tt

    pub part_place : Fits w64 (2048 + 13 * p.number)
    part_place = Fits-under w64 (2048 + 13 * p.number) 65536 (omega (arith, parts_left.rows.small)) tt

    pub part_bytes : Fits w64 ((2048 + 13 * p.number) * 2)
    part_bytes = Fits-under w64 ((2048 + 13 * p.number) * 2) 65536 (omega (arith, parts_left.rows.small)) tt

    pub part_row : RowStands (row_from work p)
    part_row = rw (whole_row work p, ← drop-drop (13 * p.number) 2048 work) (row_stands (drop 2048 work) p.count parts_left.rows p.number h)

-- ---- what is given

line_some : (s : List ℕ) (i : ℕ) (q : Part) (r : ℕ) (before after : List ℕ) → Puts (line_of_part (schemas_in s) i q) 0 r before after → 0 < r
unfolding line_of_part part_line
line_some s i q r before after P = omega (arith, P.end, simp (length-append) at P.end)

module _ (rd : Reading) (s names work : List ℕ) (p : Parts) where
  pub part_none : p.count ≤ p.number → (work' before after : List ℕ) (r : Option Line) → GivesFirst rd s names work (on.Supertypes p.then) work' before after r → GivesFirst rd s names work (on.Parts p) work' before after r
  unfolding Rest part_lines
  part_none h work' before after r f =
      let z : drop p.number (parts_at p.count (drop 2048 work)) ≡ [] = drop_of_length-le (parts_at p.count (drop 2048 work)) {i = p.number} (omega (arith, parts_length p.count (drop 2048 work))) in
      record { first = λ walked W ls q. f.first walked W ls (record { ready = q.ready; both = q.both; from = q.from; lines = q.lines ∙ rw z refl }) }

  pub part_given : p.number < p.count → (before after : List ℕ) (stop : ℕ) → Puts (line_of_part (schemas_in s) p.number (part_at (row_from work p))) 0 stop before after
      → GivesFirst rd s names work (on.Parts p) work before after (Some (record { stop = stop; next = on.Parts (record { number = p.number + 1; count = p.count; then = p.then }) }))
  unfolding Rest Gives part_lines
  part_given h before after stop P =
      record {
        first = λ walked W ls q.
            let e = part_here (drop 2048 work) p.count q.rows p.number h in
            rw (q.lines, e, drop-drop (13 * p.number) 2048 work, ← whole_row work p, ← add-one p.number) (
              line_some s p.number (part_at (row_from work p)) stop before after P,
              P,
              record { ready = q.ready; both = q.both; from = q.from; rows = q.rows; lines = refl },
            );
      }

module _ (p : Parts) where
  pub part_falls : p.count ≤ p.number → (r : Option Line) → Falls (on.Supertypes p.then) r → Falls (on.Parts p) r
  unfolding left
  part_falls h None f = tt
  part_falls h (Some r) f = omega arith

  pub part_less : p.number < p.count → left (on.Parts (record { number = p.number + 1; count = p.count; then = p.then })) < left (on.Parts p)
  unfolding left
  part_less h = omega arith

pub ruleset printing = (part_on, part_short, part_noted, part_small, part_inside, part_fits, part_place, part_bytes, part_row, part_none, part_falls, part_given, part_less)
