-- Records put one after the other: laws for every loop over things that each add to the records, and for those of names in SUBTYPE OF.
use Rattle.std.specs.Prelude.{Some, None, Result, Ok, Err, is_some}
use Rattle.std.specs.Prelude as prelude
use Rattle.refusal.specs.Told.{number_of, told}
use mathlib.Core.Path.{◌≡◌, refl, sym, ap, ◌∙◌}
use mathlib.Core.List.{List, [], ◌∷◌, ◌++◌, append_assoc}
use mathlib.Core.Option.{none, some}
use Prim.Native.Nat.{ℕ, ◌+◌, ◌*◌, ◌<◌, ◌≤◌, max}
use native.Mathlib.Nat.{le_refl}
use native.Mathlib.Numerals.{add-one}
use native.Mathlib.Omega.{arith}
use lib.ListN.{length, take, drop, set, length-set, length-append}
use lib.Seq.{take_at, take-suc-set, length-take-le}
use Rattle.refusal.specs.MeaningAnswer.{Answer, done, refused, ◌>>=◌}
use Rattle.refusal.specs.declared.Refusal.{Refusal}
use Rattle.grammar.specs.MeaningReading.{Reading}
use Rattle.sheet.specs.MeaningName.{Name}
use Rattle.sheet.specs.declared.Field.{Field}
use Rattle.grammar.proofs.Choosing.{clash}
use Rattle.schemas.specs.MeaningTree.{tree_at}
use Rattle.schemas.specs.MeaningSchemas.{Schema, names_of, supertypes_of, entity_of}
use Rattle.scope.specs.MeaningScope.{Scope}
use Rattle.expression.specs.MeaningExpression.Expr.{reference}
use Rattle.expression.specs.MirrorNodes.{flat}
use Rattle.declarations.specs.MeaningNamespace.{scope_in}
use Rattle.lookup.specs.declared.Span.{Span}
use Rattle.declarations.specs.MirrorNamespace.{schema_scope}
use Rattle.merging.specs.MeaningMerging.{Combined}
use Rattle.merging.specs.MirrorStream.{stream_of}
use Rattle.gathering.specs.MeaningGathering.{through, supers_of}
use Rattle.declarations.specs.MeaningNamespace.{item_of, path_in}
use Rattle.records.specs.MeaningResolving.{own_path}
use Rattle.records.specs.MirrorRecords.{behind, number_meant, own_number, field_then, Meets, word_at, Stands, Kept, Within, Room, schema_named}
use Rattle.gathering.specs.MirrorGathering.{sum, highest}
use Rattle.gathering.specs.MirrorWalk.{super_kept, item_kept, item_size, item_level}
use Rattle.gathering.specs.MirrorWalk.Step.{Subtypes}
use Rattle.records.proofs.Seeking.{met, met_none, supers_sought, supers_front, names_sought, names_front}
use Rattle.records.proofs.Records.{kept_done, kept_refused, kept_none, kept_same, became, refused_so, behind_is, behind_length}
use Rattle.gathering.proofs.Records.{less_room}

-- ---- one after the other

-- what is left of all these, each of which adds to the records: they make of the records here what all make of those at the start
pub record Going {A : Type 0} (f : A → List (Combined ℕ) → Answer (List (Combined ℕ))) (c l : A → ℕ) (all rest : List A) (used : ℕ) (w₀ : List ℕ) (n : ℕ) (w₁ : List ℕ) : Type 0 where
  pub start : List (Combined ℕ)
  pub started : Stands start used w₀
  pub list : List (Combined ℕ)
  pub stands : Stands list n w₁
  pub room : n + 4 * sum c rest ≤ length w₁
  pub low : highest l rest ≤ 5
  pub long : length w₁ ≡ length w₀
  pub small : length w₁ < 65536
  pub same : through f all start ≡ through f rest list

-- each takes four numbers a term at most
abbrev pub Cheap : {A : Type 0} → (A → List (Combined ℕ) → Answer (List (Combined ℕ))) → (A → ℕ) → Type 0
Cheap {A} f c = (x : A) (cs ds : List (Combined ℕ)) → f x cs ≡ done ds → length (stream_of ds) ≤ length (stream_of cs) + 4 * c x

module _ {A : Type 0} (f : A → List (Combined ℕ) → Answer (List (Combined ℕ))) (c l : A → ℕ) (all : List A) (used : ℕ) (w₀ : List ℕ) where
  pub going_start : Room (sum c all) (highest l all) used w₀ → Going f c l all all used w₀ used w₀
  going_start R = record { start = R.front.list; started = R.front.stands; list = R.front.list; stands = R.front.stands; room = R.room; low = R.low; long = refl; small = R.small; same = refl }

  module _ (rest : List A) (n : ℕ) (w₁ : List ℕ) (G : Going f c l all rest used w₀ n w₁) where
    pub going_done : rest ≡ [] → Kept (through f all) (done n) used w₀ w₁
    unfolding through
    going_done q = kept_done G.start G.list G.started (G.same ∙ rw q refl) G.stands

    module _ (x : A) (later : List A) (q : rest ≡ x ∷ later) where
      summed : (sum c rest ≡ c x + sum c later) × (highest l rest ≡ max (l x) (highest l later))
      unfolding sum highest
      summed = rw q (refl, refl)

      pub going_room : Room (c x) (l x) n w₁
      going_room = let i = summed in record { front = record { list = G.list; stands = G.stands }; room = omega (arith, G.room); low = omega (arith, G.low); small = G.small }

      module _ (w₂ : List ℕ) (r : Answer ℕ) (K : Kept (f x) r n w₁ w₂) where
        pub going_refused : (m p : ℕ) → r ≡ refused m p → Kept (through f all) (refused m p) used w₀ w₂
        unfolding through
        going_refused m p e = kept_refused w₂ G.start m p G.started (G.same ∙ rw (q, refused_so K G.list G.stands m p e) refl)

        pub going_next : Cheap f c → (m : ℕ) → r ≡ done m → length w₂ ≡ length w₁ → Going f c l all later used w₀ m w₂
        unfolding through
        going_next C m e k =
            let i = summed in
            let b = became K G.list G.stands m e in
            let h = C x G.list b.list b.is in
            record {
              start = G.start;
              started = G.started;
              list = b.list;
              stands = b.stands;
              room = omega (arith, G.room, G.stands.long, b.stands.long);
              low = omega (arith, G.low);
              long = k ∙ G.long;
              small = omega (arith, G.small);
              same = G.same ∙ rw (q, b.is) refl;
            }

-- ---- `put_pair`

pub pair_put : (used n : ℕ) (w₀ w₁ : List ℕ) (p k : ℕ) → used + 4 ≤ length w₀ → w₁ ≡ take (used + 1) (set w₀ used p) ++ ((0 ∷ k ∷ 3 ∷ []) ++ drop (used + 1 + 3) (set w₀ used p)) → take (used + 4) w₁ ≡ take used w₀ ++ (p ∷ 0 ∷ k ∷ 3 ∷ [])
pair_put used n w₀ w₁ p k h e =
    let b : used < length w₀ = omega arith in
    let a : take (used + 1) (set w₀ used p) ≡ take used w₀ ++ (p ∷ []) = ap (λ (i : ℕ). take i (set w₀ used p)) (add-one used) ∙ take-suc-set w₀ used p b in
    let l : length (take used w₀ ++ (p ∷ 0 ∷ k ∷ 3 ∷ [])) ≡ used + 4 = length-append (take used w₀) (p ∷ 0 ∷ k ∷ 3 ∷ []) ∙ omega (arith, length-take-le used w₀ (let z : used ≤ length w₀ = omega arith in z)) in
    let y : w₁ ≡ (take used w₀ ++ (p ∷ 0 ∷ k ∷ 3 ∷ [])) ++ drop (used + 1 + 3) (set w₀ used p) = e ∙ ap (λ (x : List ℕ). x ++ ((0 ∷ k ∷ 3 ∷ []) ++ drop (used + 1 + 3) (set w₀ used p))) a ∙ append_assoc (take used w₀) (p ∷ []) _ ∙ sym (append_assoc (take used w₀) (p ∷ 0 ∷ k ∷ 3 ∷ []) (drop (used + 1 + 3) (set w₀ used p))) in
    rw y (take_at (take used w₀ ++ (p ∷ 0 ∷ k ∷ 3 ∷ [])) (drop (used + 1 + 3) (set w₀ used p)) (used + 4) l)

pub pair_room : (used p : ℕ) (w₀ : List ℕ) → used + 4 ≤ length w₀ → used + 1 + 3 ≤ length (set w₀ used p)
pair_room used p w₀ h = rw (length-set w₀ used p) (omega arith)

pub pair_ends : (used n : ℕ) → n ≡ used + 1 + 3 → n ≡ used + 4
pair_ends used n q = omega arith

pub ruleset pairing = (pair_put, pair_room, pair_ends)

-- ---- `put_pairs`

unfoldable pub one_each : Name → ℕ
one_each n = 1

unfoldable pub none_each : Name → ℕ
none_each n = 0

pub sum_ones : (ns : List Name) → (sum one_each ns ≡ length ns) × (highest none_each ns ≡ 0)
unfolding sum highest one_each none_each
sum_ones [] = (refl, refl)
sum_ones (n ∷ ns) = (omega (arith, (sum_ones ns).0), rw (sum_ones ns).1 refl)

module _ (rd : Reading) (xs : List Schema) (sc : Scope) (own : ℕ) where
  pub super_cheap : Cheap (super_kept rd xs sc own) one_each
  unfolding super_kept one_each flat
  super_cheap x cs ds q = by (number_meant rd xs sc x) q
    where
      by : (o : Answer ℕ) → (o >>= λ p. done (behind cs p (reference own))) ≡ done ds → length (stream_of ds) ≤ length (stream_of cs) + 4 * 1
      by (done p) k = let z : behind cs p (reference own) ≡ ds = cc in rw (← z) (omega (arith, behind_length cs p (reference own)))
      by (refused n p) k = clash (cc)

pub record Pairing (rd : Reading) (xs : List Schema) (w s : List ℕ) (own at e used : ℕ) (w₀ : List ℕ) (from n : ℕ) (w₁ : List ℕ) : Type 0 where
  pub inside : Within s from e
  pub going : Going (super_kept rd xs (schema_scope w) own) one_each none_each (names_of (tree_at s at e)) (names_of (tree_at s from e)) used w₀ n w₁

pub pairs_start : (rd : Reading) (xs : List Schema) (w s : List ℕ) (own at e used : ℕ) (w₀ : List ℕ) → Within s at e → Room (length (names_of (tree_at s at e))) 0 used w₀ → Pairing rd xs w s own at e used w₀ at used w₀
pairs_start rd xs w s own at e used w₀ W R =
    let i = sum_ones (names_of (tree_at s at e)) in
    record { inside = W; going = going_start _ one_each none_each (names_of (tree_at s at e)) used w₀ (record { front = R.front; room = rw i.0 R.room; low = omega arith; small = R.small }) }

module _ (rd : Reading) (xs : List Schema) (w s : List ℕ) (own at e used : ℕ) (w₀ : List ℕ) (from n : ℕ) (w₁ : List ℕ) (P : Pairing rd xs w s own at e used w₀ from n w₁) (h : prelude.Option Field) (m : Meets s from e 0x10 0x10 h) where
  pub pairs_none : h ≡ None → Kept (through (super_kept rd xs (schema_scope w) own) (names_of (tree_at s at e))) (told (Ok n)) used w₀ w₁
  unfolding names_of
  pairs_none q = going_done _ one_each none_each (names_of (tree_at s at e)) used w₀ (names_of (tree_at s from e)) n w₁ P.going (names_sought (tree_at s from e) ∙ ap names_of (met_none m q))

  module _ (d : Field) (q : h ≡ Some d) where
    parted : names_of (tree_at s from e) ≡ word_at s d.start d.stop ∷ names_of (tree_at s d.stop e)
    parted =
        let x = met m d q in
        let z : d.tag ≡ 0x10 = omega (arith, x.from, x.to) in
        names_sought (tree_at s from e) ∙ ap names_of (x.seeks ∙ ap (λ (u : ℕ). field_then s u d.start d.stop (tree_at s d.stop e)) z) ∙ names_front s d.start d.stop (omega (arith, x.behind)) (tree_at s d.stop e)

    pub pair_in : Within s d.start d.stop
    pair_in = let x = met m d q in record { short = P.inside.short; rising = x.rising; within = omega (arith, x.within, P.inside.within) }

    pub pair_fits : n + 4 ≤ length w₁
    unfolding one_each
    pair_fits = omega (arith, (going_room _ one_each none_each (names_of (tree_at s at e)) used w₀ (names_of (tree_at s from e)) n w₁ P.going (word_at s d.start d.stop) (names_of (tree_at s d.stop e)) parted).room)

    pub pair_small : length w₁ < 65536
    pair_small = P.going.small

    module _ (i : Span) (I : i ≡ record { start = d.start; stop = d.stop }) (f : Result ℕ Refusal) (Q : told f ≡ number_meant rd xs (schema_scope w) (word_at s i.start i.stop)) where
      F : told f ≡ number_meant rd xs (schema_scope w) (word_at s d.start d.stop)
      F = rw I at Q

      pub pair_lost : (why : Refusal) → f ≡ Err why → (k : Result ℕ Refusal) → k ≡ Err why → Kept (through (super_kept rd xs (schema_scope w) own) (names_of (tree_at s at e))) (told k) used w₀ w₁
      unfolding super_kept
      pair_lost why z k y =
          rw y (going_refused _ one_each none_each (names_of (tree_at s at e)) used w₀ (names_of (tree_at s from e)) n w₁ P.going (word_at s d.start d.stop) (names_of (tree_at s d.stop e)) parted w₁ (refused (number_of why.reason) why.place)
          (kept_refused w₁ P.going.list (number_of why.reason) why.place P.going.stands (rw (← F, z) refl)) (number_of why.reason) why.place refl)

      pub pair_next : (p : ℕ) → f ≡ Ok p → (j : ℕ) (w₂ : List ℕ) → j ≡ n + 4 → take (n + 4) w₂ ≡ take n w₁ ++ (p ∷ 0 ∷ own ∷ 3 ∷ []) → length w₂ ≡ length w₁ → Pairing rd xs w s own at e used w₀ d.stop j w₂
      unfolding super_kept flat
      pair_next p z j w₂ k y l =
          let x = met m d q in
          let cs = P.going.list in
          record {
            inside = record { short = P.inside.short; rising = x.within; within = P.inside.within };
            going = going_next _ one_each none_each (names_of (tree_at s at e)) used w₀ (names_of (tree_at s from e)) n w₁ P.going (word_at s d.start d.stop) (names_of (tree_at s d.stop e)) parted w₂ (done j)
                (kept_done cs (behind cs p (reference own)) P.going.stands (rw (← F, z) refl) (stood cs P.going.stands)) (super_cheap rd xs (schema_scope w) own) j refl l;
          }
        where
          stood : (cs : List (Combined ℕ)) → Stands cs n w₁ → Stands (behind cs p (reference own)) j w₂
          stood cs S =
              record {
                is = rw k (y ∙ ap (λ (x : List ℕ). x ++ (p ∷ 0 ∷ own ∷ 3 ∷ [])) S.is ∙ sym (behind_is cs p (reference own)));
                long = k ∙ ap (λ (x : ℕ). x + 4) S.long ∙ sym (behind_length cs p (reference own) ∙ omega arith);
              }

pub ruleset pairs = (pairs_start, pairs_none, pair_in, pair_fits, pair_small, pair_lost, pair_next)

-- ---- the names in SUBTYPE OF

module _ (s : List ℕ) (at e : ℕ) (h : prelude.Option Field) (m : Meets s at e 0x34 0x34 h) where
  pub no_names : h ≡ None → supertypes_of (tree_at s at e) ≡ none
  unfolding supertypes_of
  no_names q = supers_sought (tree_at s at e) ∙ ap supertypes_of (met_none m q)

  pub its_names : (d : Field) → h ≡ Some d → supertypes_of (tree_at s at e) ≡ some (names_of (tree_at s d.start d.stop))
  its_names d q =
      let x = met m d q in
      let z : d.tag ≡ 0x34 = omega (arith, x.from, x.to) in
      supers_sought (tree_at s at e) ∙ ap supertypes_of (x.seeks ∙ ap (λ (u : ℕ). field_then s u d.start d.stop (tree_at s d.stop e)) z) ∙ supers_front s d.start d.stop (omega (arith, x.behind)) (tree_at s d.stop e)

-- ---- the records of an entity

module _ (s : List ℕ) (at e used : ℕ) (w₀ : List ℕ) (R : Room (item_size Subtypes (tree_at s at e)) (item_level Subtypes (tree_at s at e)) used w₀) (h : prelude.Option Field) (m : Meets s at e 0x34 0x34 h) where
  pub sub_skip : (rd : Reading) (xs : List Schema) (w : List ℕ) (place : ℕ) → h ≡ None → Kept (item_kept rd xs Subtypes (schema_named w) place (tree_at s at e)) (told (Ok used)) used w₀ w₀
  unfolding item_kept supers_of through
  sub_skip rd xs w place q = let z = no_names s at e h m q in kept_none used w₀ R.front (λ cs. rw z refl)

  module _ (d : Field) (q : h ≡ Some d) where
    pub sub_in : Within s at e → Within s d.start d.stop
    sub_in W = let x = met m d q in record { short = W.short; rising = x.rising; within = omega (arith, x.within, W.within) }

    pub sub_room : Room (length (names_of (tree_at s d.start d.stop))) 0 used w₀
    unfolding item_size item_level supers_of
    sub_room = less_room R (rw (its_names s at e h m d q) (le_refl (length (names_of (tree_at s d.start d.stop))))) (le_refl 0)

    pub sub_made : (rd : Reading) (xs : List Schema) (w : List ℕ) (place own : ℕ) → own ≡ own_number rd xs (schema_named w) (entity_of 0 (tree_at s at e)) → (r : Answer ℕ) (w₁ : List ℕ)
        → Kept (through (super_kept rd xs (schema_scope w) own) (names_of (tree_at s d.start d.stop))) r used w₀ w₁ → Kept (item_kept rd xs Subtypes (schema_named w) place (tree_at s at e)) r used w₀ w₁
    unfolding item_kept supers_of scope_in schema_named schema_scope own_number own_path path_in item_of entity_of
    sub_made rd xs w place own O r w₁ K = kept_same _ (λ cs. sym (rw (its_names s at e h m d q, O) refl)) K

pub ruleset subtyping = (sub_skip, sub_in, sub_room, sub_made)
