-- A law for each way through the walks: in one schema, and over the schemas of a sheet.
use mathlib.Core.Path.{◌≡◌, refl, sym, ap, ap₂, ◌∙◌, subst}
use mathlib.Core.List.{List, [], ◌∷◌}
use mathlib.Core.Option.{Option, none, some}
use mathlib.Core.Bool.{Bool, true, false, cond, not}
use Prim.Native.Nat.{ℕ, suc, ◌+◌, ◌-◌, ◌<◌, ◌≤◌}
use native.Mathlib.Nat.{le_refl}
use native.Mathlib.Omega.{arith}
use borrow.Author.Tests.{ne_eqb}
use lib.Dec.{eqb}
use lib.ListN.{length}
use Rattle.std.specs.Prelude as prelude
use Rattle.std.specs.Prelude.{Some, None, Result, Ok, Err}
use Rattle.std.specs.Option.{is_some}
use Rattle.std.specs.Result.{result_ok}
use Rattle.grammar.specs.MeaningReading.{Reading}
use Rattle.sheet.specs.MirrorField.{field_at}
use Rattle.sheet.specs.declared.Field.{Field}
use Rattle.grammar.proofs.Choosing.{clash}
use Rattle.schemas.specs.MeaningTree.{Tree, tree_at, tree_of}
use Rattle.schemas.specs.MeaningSchemas.{Schema, name_of, each, schema_of, schemas_of}
use Rattle.schemas.proofs.Trees.{nests_schema}
use Rattle.scope.specs.MeaningNames.{same_name}
use Rattle.scope.specs.MeaningScope.{ScopeType, same_scope}
use Rattle.scope.specs.MeaningScope.ScopeType.{entity, type}
use Rattle.scope.specs.Told.{told_kind}
use Rattle.scope.specs.declared.ScopeType as code
use Rattle.lookup.specs.MirrorLookup.{its_name, itself, look_in}
use Rattle.lookup.proofs.Fields.{none_left, one_here, other_here, field_start, field_order, field_in, field_on, each_length, nests_type, nests_entity}
use Rattle.declarations.specs.MeaningNamespace.{schemas_in, Declaration, scope_in, declared_by, numbered, Entry, entries_from, all_of, declarations, first, or, last, declaration_for}
use Rattle.declarations.specs.MirrorNamespace.{schema_scope, path_to, sought_of, types_in, size_in, type_in, entity_in, or_sought, in_schema, in_kind, numbers_at, NumbersIn, entry_of, LastIs, SmallNumbers, namesakes, Alone, LastSchemaOf}
use Rattle.declarations.specs.declared.Numbers.{Numbers}
use Rattle.declarations.specs.declared.LastSchema.{LastSchema}
use Rattle.declarations.proofs.Picking.{or_none, or_assoc, first_append}
use Rattle.declarations.proofs.Schemas.{size_is, size_few, one_scope, led_to, other_schema, in_kind_means}

-- ---- the numbers of a schema

-- m and k are the numbers of its first entity and behind its last declaration, once the fields left are counted
pub record Counting (s : List ℕ) (at e n m k from : ℕ) : Type 0 where
  pub begun : at ≤ from
  pub inside : from ≤ e
  pub fits_in : e ≤ length s
  pub fewer : m ≤ k
  pub small : k + at ≤ n + from
  pub room : n + (e - at) ≤ 65535
  pub types : m + length (each 0x20 itself (tree_at s from e)) ≡ n + length (each 0x20 itself (tree_at s at e))
  pub all : k + (length (each 0x20 itself (tree_at s from e)) + length (each 0x30 itself (tree_at s from e))) ≡ n + (length (each 0x20 itself (tree_at s at e)) + length (each 0x30 itself (tree_at s at e)))

pub count_start : (s : List ℕ) (at e n : ℕ) → at ≤ e → e ≤ length s → n + (e - at) ≤ 65535 → Counting s at e n n n at
count_start s at e n i j l = record { begun = le_refl at; inside = i; fits_in = j; fewer = le_refl n; small = le_refl (n + at); room = l; types = refl; all = refl }

module _ (s : List ℕ) (at e n m k from : ℕ) (f : Counting s at e n m k from) (h : prelude.Option Field) (y : h ≡ field_at s from e) where
  pub count_end : h ≡ None → record { first = n; entities = m; past = k; start = at; stop = e } ≡ numbers_at s at e n
  unfolding numbers_at size_in types_in
  count_end q =
      let v : length (each 0x20 itself (tree_at s from e)) ≡ 0 = ap length (none_left s from e h y 0x20 itself q) in
      let w : length (each 0x30 itself (tree_at s from e)) ≡ 0 = ap length (none_left s from e h y 0x30 itself q) in
      let i : m ≡ n + length (each 0x20 itself (tree_at s at e)) = omega (arith, f.types) in
      let j : k ≡ n + (length (each 0x20 itself (tree_at s at e)) + length (each 0x30 itself (tree_at s at e))) = omega (arith, f.all) in
      rw (i, j) refl

  module _ (fd : Field) (q : h ≡ Some fd) where
    -- one more has room
    pub count_room : k + 1 < 65536
    count_room = let i = field_on s from e h y fd q in let j = field_in s from e h y fd q in omega (arith, f.begun, f.small, f.room)

    pub count_fewer : m + 1 < 65536
    count_fewer = omega (arith, count_room, f.fewer)

    on : (m k : ℕ) → m ≤ k → k + at ≤ n + fd.stop → m + length (each 0x20 itself (tree_at s fd.stop e)) ≡ n + length (each 0x20 itself (tree_at s at e))
        → k + (length (each 0x20 itself (tree_at s fd.stop e)) + length (each 0x30 itself (tree_at s fd.stop e))) ≡ n + (length (each 0x20 itself (tree_at s at e)) + length (each 0x30 itself (tree_at s at e)))
        → Counting s at e n m k fd.stop
    on m k i j v w =
        record { begun = (let z = field_on s from e h y fd q in omega (arith, f.begun)); inside = field_in s from e h y fd q; fits_in = f.fits_in; fewer = i; small = j; room = f.room; types = v; all = w }

    pub count_type : fd.tag ≡ 0x20 → (b : ℕ) → b ≡ fd.stop → Counting s at e n (m + 1) (k + 1) b
    count_type z b p =
        let i = field_on s from e h y fd q in
        let v : length (each 0x20 itself (tree_at s from e)) ≡ suc (length (each 0x20 itself (tree_at s fd.stop e))) = ap length (one_here s from e h y fd q itself 0x20 z nests_type) in
        let w : length (each 0x30 itself (tree_at s from e)) ≡ length (each 0x30 itself (tree_at s fd.stop e)) = ap length (other_here s from e h y fd q itself 0x30 (λ u. omega (arith, z, u))) in
        rw p (on (m + 1) (k + 1) (omega (arith, f.fewer)) (omega (arith, f.small)) (omega (arith, f.types)) (omega (arith, f.all)))

    no_type : (fd.tag ≡ 0x20 → ⊥) → length (each 0x20 itself (tree_at s from e)) ≡ length (each 0x20 itself (tree_at s fd.stop e))
    no_type d = ap length (other_here s from e h y fd q itself 0x20 d)

    pub count_entity : fd.tag ≡ 0x30 → (b : ℕ) → b ≡ fd.stop → Counting s at e n m (k + 1) b
    count_entity z b p =
        let i = field_on s from e h y fd q in
        let v = no_type (λ u. omega (arith, z, u)) in
        let w : length (each 0x30 itself (tree_at s from e)) ≡ suc (length (each 0x30 itself (tree_at s fd.stop e))) = ap length (one_here s from e h y fd q itself 0x30 z nests_entity) in
        rw p (on m (k + 1) (omega (arith, f.fewer)) (omega (arith, f.small)) (omega (arith, f.types)) (omega (arith, f.all)))

    pub count_other : (fd.tag ≡ 0x20 → ⊥) → (fd.tag ≡ 0x30 → ⊥) → (b : ℕ) → b ≡ fd.stop → Counting s at e n m k b
    count_other d c b p =
        let i = field_on s from e h y fd q in
        let v = no_type d in
        let w : length (each 0x30 itself (tree_at s from e)) ≡ length (each 0x30 itself (tree_at s fd.stop e)) = ap length (other_here s from e h y fd q itself 0x30 c) in
        rw p (on m k f.fewer (omega (arith, f.small)) (omega (arith, f.types)) (omega (arith, f.all)))

pub ruleset counting = (count_start, count_end, count_room, count_fewer, count_type, count_entity, count_other)

numbers_in : (s : List ℕ) (a b n : ℕ) → a ≤ b → b ≤ length s → NumbersIn s (numbers_at s a b n)
unfolding numbers_at
numbers_in s a b n i j = record { is = refl; order = i; inside = j }

-- ---- a search in one schema

module _ (s : List ℕ) (h : Numbers) (H : NumbersIn s h) where
  pub start_order : h.start ≤ h.stop
  start_order = H.order

  pub stop_inside : h.stop ≤ length s
  stop_inside = H.inside

  pub types_end : h.entities ≡ h.first + length (each 0x20 itself (tree_at s h.start h.stop))
  unfolding numbers_at types_in
  types_end = ap (λ (i : Numbers). i.entities) H.is

  pub entities_end : h.past ≡ h.entities + length (each 0x30 itself (tree_at s h.start h.stop))
  unfolding numbers_at size_in types_in
  entities_end =
      let z : h.past ≡ h.first + (length (each 0x20 itself (tree_at s h.start h.stop)) + length (each 0x30 itself (tree_at s h.start h.stop))) = ap (λ (i : Numbers). i.past) H.is in
      omega (arith, types_end)

  module _ (rd : Reading) (w : List ℕ) (kind : code.ScopeType) (o : Result ℕ ℕ) where
    abbrev inside : Tree
    inside = tree_at s h.start h.stop

    pub kind_type : kind ≡ code.TheVariants.«Type» → o ≡ look_in rd w (each 0x20 its_name inside) h.first → o ≡ in_kind rd (told_kind kind) w inside h.first
    unfolding in_kind type_in
    kind_type k q = rw k q

    pub kind_entity : kind ≡ code.TheVariants.Entity → o ≡ look_in rd w (each 0x30 its_name inside) h.entities → o ≡ in_kind rd (told_kind kind) w inside h.first
    unfolding in_kind entity_in types_in
    kind_entity k q = rw k (q ∙ ap (look_in rd w (each 0x30 its_name inside)) types_end)

pub kind_other : (rd : Reading) (w : List ℕ) (g : Tree) (n : ℕ) (kind : code.ScopeType) → (kind ≡ code.TheVariants.«Type» → ⊥) → (kind ≡ code.TheVariants.Entity → ⊥) → Err 0 ≡ in_kind rd (told_kind kind) w g n
unfolding in_kind
kind_other rd w g n code.TheVariants.Entity d e = absurd (e refl)
kind_other rd w g n code.TheVariants.Alias d e = refl
kind_other rd w g n code.TheVariants.Function d e = refl
kind_other rd w g n code.TheVariants.Procedure d e = refl
kind_other rd w g n code.TheVariants.Query d e = refl
kind_other rd w g n code.TheVariants.Repeat d e = refl
kind_other rd w g n code.TheVariants.Rule d e = refl
kind_other rd w g n code.TheVariants.Schema d e = refl
kind_other rd w g n code.TheVariants.SubType d e = refl
kind_other rd w g n code.TheVariants.«Type» d e = absurd (d refl)

pub ruleset searching = (start_order, stop_inside, types_end, entities_end, kind_type, kind_entity, kind_other, nests_type, nests_entity)

module _ (rd : Reading) (w : List ℕ) (g : Tree) (n : ℕ) where
  pub in_type : (k : ℕ) → Ok k ≡ in_kind rd type w g n → Ok k ≡ in_schema rd w g n
  unfolding in_schema in_kind or_sought
  in_type k q = rw (← q) refl

  pub in_entity : (k : ℕ) (o : Result ℕ ℕ) → Err k ≡ in_kind rd type w g n → o ≡ in_kind rd entity w g n → o ≡ in_schema rd w g n
  unfolding in_schema in_kind or_sought
  in_entity k o q f = rw (← q) f

pub ruleset insides = (in_type, in_entity)

-- ---- from schema to schema, by what `field_at` answers

module _ (s : List ℕ) (from e : ℕ) (h : prelude.Option Field) (y : h ≡ field_at s from e) where
  pub no_schemas : h ≡ None → schemas_of (tree_at s from e) ≡ []
  unfolding schemas_of
  no_schemas q = none_left s from e h y 0x01 schema_of q

  module _ (fd : Field) (q : h ≡ Some fd) where
    pub schema_here : fd.tag ≡ 1 → schemas_of (tree_at s from e) ≡ schema_of from (tree_at s fd.start fd.stop) ∷ schemas_of (tree_at s fd.stop e)
    unfolding schemas_of
    schema_here k = one_here s from e h y fd q schema_of 0x01 k nests_schema

    pub no_schema_here : (fd.tag ≡ 1 → ⊥) → schemas_of (tree_at s from e) ≡ schemas_of (tree_at s fd.stop e)
    unfolding schemas_of
    no_schema_here d = other_here s from e h y fd q schema_of 0x01 d

    -- numbers stay behind places
    pub still_few : (n : ℕ) → n ≤ from → n + size_in (tree_at s fd.start fd.stop) ≤ fd.stop
    still_few n k = let i = field_order s from e h y fd q in let j = field_start s from e h y fd q in let z = size_few s fd.start fd.stop in omega arith

    pub room_for : (n : ℕ) → n ≤ from → e ≤ 65535 → n + (fd.stop - fd.start) ≤ 65535
    room_for n k l = let i = field_in s from e h y fd q in let j = field_order s from e h y fd q in let m = field_start s from e h y fd q in omega arith

-- ---- the last schema of a name

abbrev pub so_named : Reading → List ℕ → Entry → Bool
so_named rd sc e = same_scope rd e.scope (schema_scope sc)

-- whether one was met
abbrev Fresh : ℕ → prelude.Option LastSchema → Type 0
Fresh k None = k ≡ 0
Fresh k (Some l) = k ≡ 0 → ⊥

pub record Seeking (rd : Reading) (s sc : List ℕ) (e n from : ℕ) (best : prelude.Option LastSchema) : Type 0 where
  pub within : from ≤ e
  pub whole : e ≡ length s
  pub short : e ≤ 65535
  pub small : n ≤ from
  pub entry : Option Entry
  pub holds : LastIs s best entry
  pub few : SmallNumbers best
  pub rest : or (last (so_named rd sc) (entries_from n (schemas_of (tree_at s from e)))) entry ≡ last (so_named rd sc) (entries_from 0 (schemas_in s))
  -- how many had the name
  pub tally : ℕ
  pub fresh : Fresh tally best
  pub only : Alone tally best
  pub left : tally + namesakes rd sc (schemas_of (tree_at s from e)) ≡ namesakes rd sc (schemas_in s)

pub seek_start : (rd : Reading) (s sc : List ℕ) → length s ≤ 65535 → (b : ℕ) → b ≡ 0 → Seeking rd s sc (length s) 0 b None
unfolding schemas_in tree_of
seek_start rd s sc h b p =
    rw p (record { within = omega arith; whole = refl; short = h; small = omega arith; entry = none; holds = refl; few = tt; rest = or_none (last (so_named rd sc) (entries_from 0 (schemas_of (tree_at s 0 (length s))))); tally = 0; fresh = refl; only = tt; left = omega arith })

-- the one that is met is alone, if none was met before
one_on : (k : ℕ) (best : prelude.Option LastSchema) → Fresh k best → (b : Bool) → is_some best ≡ not b → b ≡ eqb (suc k) 1
one_on k None f true e = rw f refl
one_on k None f false e = clash (cc)
one_on k (Some l) f true e = clash (cc)
one_on k (Some l) f false e = sym (ne_eqb (suc k) 1 (λ z. f (omega (arith, z))))

module _ (rd : Reading) (s sc : List ℕ) (e n from : ℕ) (best : prelude.Option LastSchema) (f : Seeking rd s sc e n from best) where
  pub seek_end : e ≤ length s
  seek_end = omega (arith, f.whole)

  pub seek_small : SmallNumbers best
  seek_small = f.few

  module _ (h : prelude.Option Field) (y : h ≡ field_at s from e) where
    pub seek_none : h ≡ None → LastSchemaOf rd s sc best
    unfolding last entries_from or namesakes
    seek_none q =
        let z : namesakes rd sc (schemas_of (tree_at s from e)) ≡ 0 = ap (namesakes rd sc) (no_schemas s from e h y q) in
        let k : f.tally ≡ namesakes rd sc (schemas_in s) = omega (arith, f.left) in
        record {
          holds = subst (LastIs s best) (sym (ap (λ (l : List Schema). or (last (so_named rd sc) (entries_from n l)) f.entry) (no_schemas s from e h y q)) ∙ f.rest) f.holds;
          only = subst (λ (i : ℕ). Alone i best) k f.only;
        }

    module _ (fd : Field) (q : h ≡ Some fd) where
      pub seek_there : fd.stop ≤ length s
      seek_there = let i = field_in s from e h y fd q in omega (arith, f.whole)

      pub seek_room : n + (fd.stop - fd.start) ≤ 65535
      seek_room = room_for s from e h y fd q n f.small f.short

      pub seek_skip : (fd.tag ≡ 1 → ⊥) → (b : ℕ) → b ≡ fd.stop → Seeking rd s sc e n b best
      seek_skip d b p =
          rw p (record {
            within = field_in s from e h y fd q;
            whole = f.whole;
            short = f.short;
            small = (let i = field_on s from e h y fd q in omega (arith, f.small));
            entry = f.entry;
            holds = f.holds;
            few = f.few;
            rest = sym (ap (λ (l : List Schema). or (last (so_named rd sc) (entries_from n l)) f.entry) (no_schema_here s from e h y fd q d)) ∙ f.rest;
            tally = f.tally;
            fresh = f.fresh;
            only = f.only;
            left = sym (ap (λ (l : List Schema). f.tally + namesakes rd sc l) (no_schema_here s from e h y fd q d)) ∙ f.left;
          })

      module _ (k : fd.tag ≡ 1) (hs : Numbers) (hh : hs ≡ numbers_at s fd.start fd.stop n) where
        abbrev x : Schema
        x = schema_of from (tree_at s fd.start fd.stop)

        abbrev later : ℕ → Option Entry
        later i = last (so_named rd sc) (entries_from i (schemas_of (tree_at s fd.stop e)))

        behind : hs.past ≡ n + length (declared_by x)
        unfolding numbers_at
        behind = ap (λ (i : Numbers). i.past) hh ∙ ap (λ (i : ℕ). n + i) (size_is from (tree_at s fd.start fd.stop))

        few_on : hs.past ≤ fd.stop
        few_on = let z = still_few s from e h y fd q n f.small in let v = size_is from (tree_at s fd.start fd.stop) in omega (arith, behind)

        turn : (o : Option Entry) → cond (same_scope rd (scope_in x) (schema_scope sc)) (some (entry_of n x)) none ≡ o → or (later hs.past) (or o f.entry) ≡ last (so_named rd sc) (entries_from 0 (schemas_in s))
        unfolding last entries_from entry_of
        turn o u =
            sym (or_assoc (later hs.past) o f.entry)
            ∙ ap₂ (λ (i : ℕ) (v : Option Entry). or (or (later i) v) f.entry) behind (sym u)
            ∙ sym (ap (λ (l : List Schema). or (last (so_named rd sc) (entries_from n l)) f.entry) (schema_here s from e h y fd q k)) ∙ f.rest

        module _ (z : Bool) (zz : z ≡ same_name rd (name_of (tree_at s fd.start fd.stop)).bytes sc) where
          same : same_scope rd (scope_in x) (schema_scope sc) ≡ z
          unfolding schema_of
          same = one_scope rd x sc ∙ sym zz

          counted : f.tally + cond z (suc (namesakes rd sc (schemas_of (tree_at s fd.stop e)))) (namesakes rd sc (schemas_of (tree_at s fd.stop e))) ≡ namesakes rd sc (schemas_in s)
          unfolding namesakes schema_of
          counted = rw zz (sym (ap (λ (l : List Schema). f.tally + namesakes rd sc l) (schema_here s from e h y fd q k)) ∙ f.left)

          pub seek_miss : z ≡ false → (b : ℕ) → b ≡ fd.stop → Seeking rd s sc e hs.past b best
          unfolding or
          seek_miss o b p = rw p (record { within = field_in s from e h y fd q; whole = f.whole; short = f.short; small = few_on; entry = f.entry; holds = f.holds; few = f.few; rest = turn none (rw (same ∙ o) refl); tally = f.tally; fresh = f.fresh; only = f.only; left = rw o at counted })

          last_here : (alone : Bool) → LastIs s (Some (record { numbers = hs; alone = alone })) (some (entry_of n x))
          unfolding numbers_at
          last_here alone = subst (λ (i : Numbers). LastIs s (Some (record { numbers = i; alone = alone })) (some (entry_of n x))) (sym hh) (from, refl, numbers_in s fd.start fd.stop n (field_order s from e h y fd q) seek_there)

          few_here : hs.first + (hs.stop - hs.start) ≤ 65535
          unfolding numbers_at
          few_here = subst (λ (i : Numbers). i.first + (i.stop - i.start) ≤ 65535) (sym hh) seek_room

          pub seek_hit : z ≡ true → (alone : Bool) → is_some best ≡ not alone → (b : ℕ) → b ≡ fd.stop → Seeking rd s sc e hs.past b (Some (record { numbers = hs; alone = alone }))
          unfolding or
          seek_hit o alone first_met b p =
              rw p (record {
                within = field_in s from e h y fd q;
                whole = f.whole;
                short = f.short;
                small = few_on;
                entry = some (entry_of n x);
                holds = last_here alone;
                few = few_here;
                rest = turn (some (entry_of n x)) (rw (same ∙ o) refl);
                tally = suc f.tally;
                fresh = (λ i. omega (arith, i));
                only = one_on f.tally best f.fresh alone first_met;
                left = (let v : f.tally + suc (namesakes rd sc (schemas_of (tree_at s fd.stop e))) ≡ namesakes rd sc (schemas_in s) = rw o at counted in omega arith);
              })

pub ruleset seeking = (seek_start, seek_end, seek_small, seek_none, seek_there, seek_room, seek_skip, seek_miss, seek_hit)

-- ---- the first declaration with a path

pub record Getting (rd : Reading) (s sc : List ℕ) (kind : ScopeType) (w : List ℕ) (e n from : ℕ) (r : prelude.Option ℕ) : Type 0 where
  pub within : from ≤ e
  pub whole : e ≡ length s
  pub short : e ≤ 65535
  pub small : n ≤ from
  pub rest : sought_of (first (led_to rd sc kind w) (all_of (entries_from n (schemas_of (tree_at s from e))))) ≡ r

pub get_start : (rd : Reading) (s sc : List ℕ) (kind : ScopeType) (w : List ℕ) → length s ≤ 65535 → Getting rd s sc kind w (length s) 0 0 (sought_of (declaration_for rd (schemas_in s) (path_to sc kind w)))
unfolding schemas_in tree_of declaration_for declarations
get_start rd s sc kind w h = record { within = omega arith; whole = refl; short = h; small = omega arith; rest = refl }

pub found_at : (v : Result ℕ ℕ) (m : Option Declaration) → result_ok v ≡ sought_of m → (j : ℕ) → v ≡ Ok j → (o : Option Declaration) → Some j ≡ sought_of (or m o)
unfolding or sought_of
found_at (Ok i) (some d) e j f o = let z : j ≡ d.number = cc in ap Some z
found_at (Ok i) none e j f o = clash (cc)
found_at (Err i) m e j f o = clash (cc)

pub lost_at : (v : Result ℕ ℕ) (m : Option Declaration) → result_ok v ≡ sought_of m → (j : ℕ) → v ≡ Err j → m ≡ none
unfolding sought_of
lost_at (Err i) none e j f = refl
lost_at (Err i) (some d) e j f = clash (cc)
lost_at (Ok i) m e j f = clash (cc)

module _ (rd : Reading) (s sc : List ℕ) (kind : ScopeType) (w : List ℕ) (e n from : ℕ) (r : prelude.Option ℕ) (f : Getting rd s sc kind w e n from r) where
  pub get_end : e ≤ length s
  get_end = omega (arith, f.whole)

  module _ (h : prelude.Option Field) (y : h ≡ field_at s from e) where
    pub get_none : h ≡ None → None ≡ r
    unfolding sought_of first all_of entries_from
    get_none q = sym (ap (λ (l : List Schema). sought_of (first (led_to rd sc kind w) (all_of (entries_from n l)))) (no_schemas s from e h y q)) ∙ f.rest

    module _ (fd : Field) (q : h ≡ Some fd) where
      pub get_there : fd.stop ≤ length s
      get_there = let i = field_in s from e h y fd q in omega (arith, f.whole)

      pub get_room : n + (fd.stop - fd.start) ≤ 65535
      get_room = room_for s from e h y fd q n f.small f.short

      pub get_skip : (fd.tag ≡ 1 → ⊥) → (b : ℕ) → b ≡ fd.stop → Getting rd s sc kind w e n b r
      get_skip d b p = rw p (record { within = field_in s from e h y fd q; whole = f.whole; short = f.short; small = (let i = field_on s from e h y fd q in omega (arith, f.small)); rest = sym (ap (λ (l : List Schema). sought_of (first (led_to rd sc kind w) (all_of (entries_from n l)))) (no_schema_here s from e h y fd q d)) ∙ f.rest })

      module _ (k : fd.tag ≡ 1) where
        abbrev this : Schema
        this = schema_of from (tree_at s fd.start fd.stop)

        abbrev those : ℕ → Option Declaration
        those i = first (led_to rd sc kind w) (all_of (entries_from i (schemas_of (tree_at s fd.stop e))))

        parted : sought_of (or (first (led_to rd sc kind w) (numbered this n (declared_by this))) (those (n + length (declared_by this)))) ≡ r
        unfolding all_of entries_from
        parted =
            ap sought_of (sym (first_append (led_to rd sc kind w) (numbered this n (declared_by this)) (all_of (entries_from (n + length (declared_by this)) (schemas_of (tree_at s fd.stop e))))))
            ∙ sym (ap (λ (l : List Schema). sought_of (first (led_to rd sc kind w) (all_of (entries_from n l)))) (schema_here s from e h y fd q k)) ∙ f.rest

        module _ (hs : Numbers) (hh : hs ≡ numbers_at s fd.start fd.stop n) where
          pub get_numbers : NumbersIn s hs
          get_numbers = subst (NumbersIn s) (sym hh) (numbers_in s fd.start fd.stop n (field_order s from e h y fd q) get_there)

          go_on : first (led_to rd sc kind w) (numbered this n (declared_by this)) ≡ none → Getting rd s sc kind w e hs.past fd.stop r
          unfolding or numbers_at
          go_on u =
              let i : hs.past ≡ n + length (declared_by this) = ap (λ (i : Numbers). i.past) hh ∙ ap (λ (i : ℕ). n + i) (size_is from (tree_at s fd.start fd.stop)) in
              record { within = field_in s from e h y fd q; whole = f.whole; short = f.short; small = (let v = still_few s from e h y fd q n f.small in let j = size_is from (tree_at s fd.start fd.stop) in omega arith); rest = ap (λ (i : ℕ). sought_of (those i)) i ∙ (rw u at parted) }

          module _ (z : Bool) (zz : z ≡ same_name rd (name_of (tree_at s fd.start fd.stop)).bytes sc) where
            pub get_miss : z ≡ false → (b : ℕ) → b ≡ fd.stop → Getting rd s sc kind w e hs.past b r
            unfolding schema_of
            get_miss o b p = rw p (go_on (other_schema rd sc kind w this n (sym zz ∙ o)))

            module _ (o : z ≡ true) (v : Result ℕ ℕ) (vv : v ≡ in_kind rd kind w (tree_at s hs.start hs.stop) hs.first) (j : ℕ) where
              means : result_ok v ≡ sought_of (first (led_to rd sc kind w) (numbered this n (declared_by this)))
              unfolding numbers_at
              means = ap result_ok (vv ∙ ap (λ (i : Numbers). in_kind rd kind w (tree_at s i.start i.stop) i.first) hh) ∙ in_kind_means rd sc kind w from (tree_at s fd.start fd.stop) n (sym zz ∙ o)

              pub get_found : v ≡ Ok j → Some j ≡ r
              get_found g = found_at v (first (led_to rd sc kind w) (numbered this n (declared_by this))) means j g (those (n + length (declared_by this))) ∙ parted

              pub get_next : v ≡ Err j → (b : ℕ) → b ≡ fd.stop → Getting rd s sc kind w e hs.past b r
              get_next g b p = rw p (go_on (lost_at v (first (led_to rd sc kind w) (numbered this n (declared_by this))) means j g))

pub ruleset getting = (get_start, get_end, get_none, get_there, get_room, get_skip, get_numbers, get_found, get_miss, get_next)
