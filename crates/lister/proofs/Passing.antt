-- `next_supertype`: the records, one owner after the other.
use mathlib.Core.Path.{◌≡◌, refl, sym, ap, ◌∙◌}
use mathlib.Core.List.{List, [], ◌∷◌, ◌++◌, append_assoc}
use mathlib.Core.Bool.{Bool}
use Prim.Native.Nat.{ℕ, ◌≤◌, ◌<◌}
use native.Mathlib.Omega.{arith}
use lib.ListN.{length, take, drop, length-take}
use Rattle.refusal.specs.MeaningAnswer.{Answer, done, mapped}
use Rattle.refusal.specs.Told.{told, told_refusal}
use Rattle.refusal.specs.declared.Refusal.{Refusal}
use Rattle.std.specs.Prelude.{Option, Some, None, Result, Ok, Err}
use Rattle.instantiables.specs.declared.Instantiables.{Instantiables}
use Rattle.complex_entity.specs.MeaningParts.{Part}
use Rattle.rows.specs.MirrorRows.{parts_at, Stands}
use Rattle.rows.proofs.Flats.{parts_length}
use Rattle.grammar.specs.MeaningReading.{Reading}
use Rattle.scope.specs.MeaningScope.{Path}
use Rattle.declarations.specs.MeaningNamespace.{schemas_in}
use Rattle.merging.specs.MeaningMerging.{Combined}
use Rattle.merging.specs.MirrorStream.{stream_of, RecordsFrom, owners_from, EntryAt, EntryIs}
use Rattle.merging.specs.declared.Entry.{Entry}
use Rattle.supertypes.specs.MirrorStanding.{Both, Standing, Stood, list_by, list_at, StandsIf, ListedAs}
use Rattle.supertypes.proofs.Standing.{standing_all}
use Rattle.text.specs.MeaningText.{supertype_line}
use Rattle.text.specs.MirrorText.{Puts}
use Rattle.noting.specs.MirrorNoted.{Noted}
use Rattle.listing.specs.MeaningLines.{parts_of}
use Rattle.listing.specs.MirrorLines.{Short, line_of_supertype}
use Rattle.lister.specs.MirrorRest.{Lines, Ready, From, SupertypesLeft, owner_lines, types_from, supertypes_from, Rest, Gives, AtCursor, GivesFirst, left, Falls}
use Rattle.lister.specs.declared.Cursor.TheVariants as on
use Rattle.lister.specs.declared.Line.{Line}
use Rattle.lister.specs.declared.Records.{Records}

-- ---- the lines of an owner come first

some_bytes : (s : List ℕ) (o : ℕ) (n : Answer ℕ) (r : ℕ) (before after : List ℕ) → Puts (line_of_supertype (schemas_in s) o n) 0 r before after → 0 < r
unfolding line_of_supertype supertype_line
some_bytes s o n r before after P = omega (arith, P.end)

first_owner : (rd : Reading) (s : List ℕ) (walked : Path → Answer Bool) (b : Both) (o : ℕ) (os : List ℕ) (a : Answer (List Part)) → list_by o b ≡ a
    → supertypes_from rd s walked b (o ∷ os) ≡ line_of_supertype (schemas_in s) o (mapped length a) ∷ (parts_of (schemas_in s) a ++ supertypes_from rd s walked b os)
unfolding supertypes_from owner_lines
first_owner rd s walked b o os a e = rw e (ap (λ (ls : Lines). line_of_supertype (schemas_in s) o (mapped length a) ∷ ls) (append_assoc (parts_of (schemas_in s) a) (owner_lines (schemas_in s) b os) (types_from rd s walked 0)))

-- ---- what is required

module _ (rd : Reading) (s names work : List ℕ) (x : Records) (A : AtCursor rd s names work (on.Supertypes x)) where
  supertypes_left : SupertypesLeft rd s A.walked names work x A.lines
  unfolding Rest
  supertypes_left = A.rest

  pub pass_stood : Stood x.streams work
  pass_stood = let q = supertypes_left in record { both = q.both; stands = q.from.stands }

  pub pass_ready : Ready s names
  pass_ready = supertypes_left.ready

  pub pass_short : Short s
  pass_short = supertypes_left.ready.short

  pub pass_noted : Noted s names
  pass_noted = supertypes_left.ready.noted

  pub pass_records : RecordsFrom (take x.streams.used work) x.at
  pass_records =
      let f = supertypes_left.from in
      record { passed = f.passed; coming = f.coming; is = standing_all f.stands ∙ ap stream_of f.all; place = f.there }

  -- a list that is valued has at most 128 parts
  pub pass_small : (o : ℕ) (v : Result Instantiables Refusal) (work' : List ℕ) → ((b : Both) → Standing b x.streams work → ListedAs (list_by o b) v work') → (l : Instantiables) → v ≡ Ok l → l.count ≤ 65535
  pass_small o v work' L l j =
      let q = supertypes_left in
      let h : Stands (drop 2048 work') l.count = rw j at (L q.both q.from.stands).stands in
      omega (arith, h.small)

-- ---- what comes next among the records

module _ (work : List ℕ) (x : Records) (e : Option Entry) (E : (cs ds : List (Combined ℕ)) → take x.streams.used work ≡ stream_of (cs ++ ds) → x.at ≡ length (stream_of cs) → EntryIs cs ds e) where
  entered : {b : Both} (f : From b x work) → EntryIs f.passed f.coming e
  entered f = E f.passed f.coming (standing_all f.stands ∙ ap stream_of f.all) f.there

  module _ (rd : Reading) (s names : List ℕ) where
    -- ---- no owner comes
    pub pass_none : e ≡ None → (before after : List ℕ) (r : Option Line) → ((work : List ℕ) → GivesFirst rd s names work (on.Types 0) work before after r) → GivesFirst rd s names work (on.Supertypes x) work before after r
    unfolding Rest EntryIs supertypes_from owner_lines
    pass_none i before after r f =
        record {
          first = λ walked W ls q.
              let n : owners_from q.from.passed q.from.coming ≡ [] = rw i at (entered q.from) in
              (f work).first walked W ls (record { ready = q.ready; lines = q.lines ∙ rw n refl });
        }

    -- ---- an owner comes, and its list is valued
    module _ (o n : ℕ) (i : e ≡ Some (record { owner = o; next = n })) where
      coming : {b : Both} (f : From b x work) → EntryAt f.passed f.coming o n
      unfolding EntryIs
      coming f = rw i at (entered f)

      next_there : {b : Both} (f : From b x work) → (x.at < n) × (n ≤ x.streams.used)
      next_there f =
          let c = coming f in
          let l : length (stream_of (f.passed ++ f.coming)) ≡ length (take x.streams.used work) = ap length (sym (standing_all f.stands ∙ ap stream_of f.all)) in
          let m : length (take x.streams.used work) ≤ x.streams.used = simp length-take (omega arith) in
          (omega (arith, f.there, c.further), omega (arith, c.within))

      module _ (v : Result Instantiables Refusal) (work' : List ℕ) (L : (b : Both) → Standing b x.streams work → ListedAs (list_by o b) v work') where
        module _ (K : (b : Both) → Standing b x.streams work → Standing b x.streams work') where
          on_from : {b : Both} (f : From b x work) → From b (record { streams = x.streams; at = n }) work'
          on_from {b} f = let c = coming f in record { stands = K b f.stands; passed = c.passed; coming = c.coming; all = f.all ∙ c.same; there = c.place }

          pub pass_refused : (why : Refusal) → v ≡ Err why → (before after : List ℕ) (stop : ℕ) → Puts (line_of_supertype (schemas_in s) o (told {A = ℕ} (Err why))) 0 stop before after
              → GivesFirst rd s names work (on.Supertypes x) work' before after (Some (record { stop = stop; next = on.Supertypes (record { streams = x.streams; at = n }) }))
          unfolding Rest Gives parts_of on_from coming
          pass_refused why j before after stop P =
              record {
                first = λ walked W ls q.
                    let b = q.both in
                    let c = coming q.from in
                    let a : list_by o b ≡ told_refusal why = sym (L b q.from.stands).is ∙ rw j refl in
                    rw (q.lines, c.owners, first_owner rd s walked b o (owners_from c.passed c.coming) (told_refusal why) a) (
                      some_bytes s o (told_refusal why) stop before after P,
                      P,
                      record { ready = q.ready; both = b; from = on_from q.from; lines = refl },
                    );
              }

          pub pass_listed : (l : Instantiables) → v ≡ Ok l → (before after : List ℕ) (stop : ℕ) → Puts (line_of_supertype (schemas_in s) o (told (Ok l.count))) 0 stop before after
              → GivesFirst rd s names work (on.Supertypes x) work' before after (Some (record { stop = stop; next = on.Parts (record { number = 0; count = l.count; then = record { streams = x.streams; at = n } }) }))
          unfolding Rest Gives parts_of on_from coming
          pass_listed l j before after stop P =
              record {
                first = λ walked W ls q.
                    let b = q.both in
                    let c = coming q.from in
                    let g = L b q.from.stands in
                    let a : list_by o b ≡ done (parts_at l.count (drop 2048 work')) = sym g.is ∙ rw j refl in
                    rw (q.lines, c.owners, first_owner rd s walked b o (owners_from c.passed c.coming) (done (parts_at l.count (drop 2048 work'))) a, parts_length l.count (drop 2048 work')) (
                      some_bytes s o (done l.count) stop before after P,
                      P,
                      record { ready = q.ready; both = b; from = on_from q.from; rows = rw j at g.stands; lines = refl },
                    );
              }

  -- ---- what is left falls
  module _ (rd : Reading) (s names : List ℕ) (A : AtCursor rd s names work (on.Supertypes x)) (f : Entry) (i : e ≡ Some f) where
    beyond : (x.at < f.next) × (f.next ≤ x.streams.used)
    beyond = next_there rd s names f.owner f.next i (supertypes_left rd s names work x A).from

    pub pass_on : left (on.Supertypes (record { streams = x.streams; at = f.next })) < left (on.Supertypes x)
    unfolding left
    pass_on = let z = beyond in omega arith

    pub pass_in : (count : ℕ) → count ≤ 65535 → left (on.Parts (record { number = 0; count = count; then = record { streams = x.streams; at = f.next } })) < left (on.Supertypes x)
    unfolding left
    pass_in count h = let z = beyond in omega arith

pub pass_over : (x : Records) (r : Option Line) → Falls (on.Types 0) r → Falls (on.Supertypes x) r
unfolding left
pass_over x None f = tt
pass_over x (Some r) f = omega arith

pub ruleset passing = (pass_stood, pass_ready, pass_short, pass_noted, pass_records, pass_none, pass_over, pass_refused, pass_listed, pass_small, pass_on, pass_in)
