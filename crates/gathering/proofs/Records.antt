-- The records of rules and constraints: laws for the passes over rules and over constraints.
use Rattle.std.specs.Prelude.{Some, None, Result, Ok, Err, is_some}
use Rattle.std.specs.Prelude as prelude
use Rattle.refusal.specs.Told.{number_of, told}
use Prim.Native.Nat.{ℕ, ◌≤◌}
use mathlib.Core.Path.{◌≡◌, refl, sym, ap, ◌∙◌, subst}
use mathlib.Core.List.{List}
use mathlib.Core.Bool.{Bool, true, false}
use mathlib.Core.Option.{Option, none, some}
use native.Mathlib.Nat.{le_refl}
use native.Mathlib.Omega.{arith}
use lib.Dec.{eqb}
use lib.ListN.{length, take}
use lib.Seq.{length-take-le}
use Rattle.refusal.specs.MeaningAnswer.{Answer, done, refused, ◌>>=◌}
use Rattle.refusal.specs.declared.Refusal.{Refusal}
use Rattle.refusal.specs.declared.Reason.TheVariants.{SecondRule}
use Rattle.expression.specs.MeaningExpression.{Expr}
use Rattle.merging.specs.MeaningMerging.{Combined, find, vacant}
use Rattle.merging.specs.MirrorStream.{stream_of, is_found, Records}
use Rattle.grammar.specs.MeaningReading.{Reading}
use Rattle.grammar.specs.MeaningReading.Reading.{rust}
use Rattle.sheet.specs.MeaningName.{Name}
use Rattle.sheet.specs.declared.Field.{Field}
use Rattle.grammar.proofs.Choosing.{clash}
use Rattle.schemas.specs.MeaningTree.{tree_at}
use Rattle.schemas.specs.MeaningSchemas.{Mark, Schema, name_of, expr_of, mark_of, entity_of, constraint_of}
use Rattle.schemas.specs.MeaningSchemas.Mark.{unmarked, rule, abstract_entity, abstract_supertype}
use Rattle.lookup.specs.MirrorLookup.{span_of, Lies}
use Rattle.lookup.specs.declared.Span.{Span}
use Rattle.lookup.proofs.Names.{span_bytes}
use Rattle.declarations.specs.MeaningNamespace.{scope_in, item_of, path_in}
use Rattle.declarations.specs.MirrorNamespace.{schema_scope}
use Rattle.records.proofs.Records.{Became, became, kept_done, kept_none, kept_refused, kept_same, refused_so, still_stands}
use Rattle.records.specs.MeaningResolving.{rule_of, resolved_expr, own_path}
use Rattle.records.specs.MirrorRecords.{size, level, behind, number_meant, own_number, word_at, expr_in, Spelt, SpellsExpr, no_expr, there, Stands, Kept, Within, Room, schema_named, record_kept}
use Rattle.gathering.specs.MirrorGathering.{given, marked_by, rule_kept, constraint_kept}
use Rattle.gathering.specs.MirrorWalk.{item_kept, item_size, item_level}
use Rattle.gathering.specs.MirrorWalk.Step.{Rules, Constraints}

-- ---- where the expression stands

spelt : {s : List ℕ} {o : Option (Expr Name)} {h : prelude.Option Field} → SpellsExpr s o h → (d : Field) → h ≡ Some d → Spelt s o d.tag d.start d.stop
spelt (no_expr z) d q = clash (cc)
spelt {s} {o} (there {f = c} m) d q = let x : c ≡ d = cc in subst (λ (c : Field). Spelt s o c.tag c.start c.stop) x m

unspelt : {s : List ℕ} {o : Option (Expr Name)} {h : prelude.Option Field} → SpellsExpr s o h → h ≡ None → o ≡ none
unspelt (no_expr z) q = z
unspelt (there m) q = clash (cc)

module _ (s : List ℕ) (o : Option (Expr Name)) (h : prelude.Option Field) (S : SpellsExpr s o h) (d : Field) (q : h ≡ Some d) where
  pub spelt_in : (at e : ℕ) → Within s at e → Within s d.start d.stop
  spelt_in at e W = let x = spelt S d q in record { short = W.short; rising = x.rising; within = x.within }

  pub spelt_from : 0x50 ≤ d.tag
  spelt_from = (spelt S d q).from

  pub spelt_to : d.tag ≤ 0x53
  spelt_to = (spelt S d q).to

-- room for what there is, is room for it alone
pub less_room : {n m l k used : ℕ} {w : List ℕ} → Room n l used w → m ≤ n → k ≤ l → Room m k used w
less_room R h j = record { front = R.front; room = omega (arith, R.room); low = omega (arith, R.low); small = R.small }

-- ---- the record of a rule

-- the part before the record, as long as it was
pub front_long : (n l used : ℕ) (w₀ w₁ : List ℕ) → Room n l used w₀ → length w₁ ≡ length w₀ → length (take used w₁) ≡ used
front_long n l used w₀ w₁ R k = length-take-le used w₁ (omega (arith, R.room))

pub rule_marked : (rd : Reading) (m : Mark) (x : Expr Name) → rule_of rd m ≡ some x → marked_by m ≡ some x
unfolding rule_of marked_by
rule_marked rust unmarked x q = q
rule_marked rust (rule e) x q = q
rule_marked rust abstract_entity x q = q
rule_marked rust (abstract_supertype o) x q = clash (cc)

vacant_not : (place : ℕ) (o : Option (Expr ℕ)) (g : List (Combined ℕ)) → is_found o ≡ true → vacant eqb place o g ≡ refused 8 place
unfolding vacant is_found
vacant_not place none g k = clash (cc)
vacant_not place (some d) g k = refl

vacant_so : (place : ℕ) (o : Option (Expr ℕ)) (g : List (Combined ℕ)) → is_found o ≡ false → vacant eqb place o g ≡ done g
unfolding vacant is_found
vacant_so place none g k = refl
vacant_so place (some d) g k = clash (cc)

module _ (rd : Reading) (s : List ℕ) (at e used : ℕ) (w₀ : List ℕ) (R : Room (item_size Rules (tree_at s at e)) (item_level Rules (tree_at s at e)) used w₀) (h : prelude.Option Field) (S : SpellsExpr s (rule_of rd (mark_of (tree_at s at e))) h) where
  pub rule_skip : (xs : List Schema) (w : List ℕ) (place : ℕ) → h ≡ None → Kept (item_kept rd xs Rules (schema_named w) place (tree_at s at e)) (told (Ok used)) used w₀ w₀
  unfolding item_kept rule_kept
  rule_skip xs w place q = kept_none used w₀ R.front (λ cs. rw (unspelt S q) refl)

  module _ (d : Field) (q : h ≡ Some d) where
    pub rule_room : Room (size (expr_in s d.tag d.start d.stop)) (level (expr_in s d.tag d.start d.stop)) used w₀
    unfolding item_size item_level given
    rule_room =
        let z = rule_marked rd (mark_of (tree_at s at e)) (expr_in s d.tag d.start d.stop) (spelt S d q).is in
        less_room R (rw z (le_refl (size (expr_in s d.tag d.start d.stop)))) (rw z (le_refl (level (expr_in s d.tag d.start d.stop))))

    module _ (xs : List Schema) (w : List ℕ) (place owner : ℕ) (O : owner ≡ own_number rd xs (schema_named w) (entity_of 0 (tree_at s at e))) (r : Result ℕ Refusal) (w₁ : List ℕ)
        (K : Kept (record_kept rd xs w owner (expr_in s d.tag d.start d.stop)) (told r) used w₀ w₁) where
      -- what is kept, once the expression is resolved
      resolved_first : (cs : List (Combined ℕ)) → item_kept rd xs Rules (schema_named w) place (tree_at s at e) cs
          ≡ (resolved_expr (number_meant rd xs) (schema_scope w) (expr_in s d.tag d.start d.stop) >>= λ d. vacant eqb place (find eqb owner cs) (behind cs owner d))
      unfolding item_kept rule_kept scope_in schema_named schema_scope own_number own_path path_in item_of entity_of
      resolved_first cs = rw ((spelt S d q).is, O) refl

      pub rule_handed : (why : Refusal) → r ≡ Err why → Kept (item_kept rd xs Rules (schema_named w) place (tree_at s at e)) (told r) used w₀ w₁
      unfolding record_kept
      rule_handed why z =
          let cs = R.front.list in
          let f = refused_so K cs R.front.stands (number_of why.reason) why.place (ap told z) in
          rw z (kept_refused w₁ cs (number_of why.reason) why.place R.front.stands (resolved_first cs ∙ by (resolved_expr (number_meant rd xs) (schema_scope w) (expr_in s d.tag d.start d.stop)) f))
        where
          by : {n p : ℕ} (o : Answer (Expr ℕ)) → (o >>= λ d. done (behind R.front.list owner d)) ≡ refused n p → (o >>= λ d. vacant eqb place (find eqb owner R.front.list) (behind R.front.list owner d)) ≡ refused n p
          by (done d) k = clash (cc)
          by (refused m j) k = k

      module _ (n : ℕ) (z : r ≡ Ok n) where
        made : Became (record_kept rd xs w owner (expr_in s d.tag d.start d.stop)) R.front.list n w₁
        made = became K R.front.list R.front.stands n (ap told z)

        -- the expression that was resolved
        taken : (x : Expr ℕ) × (resolved_expr (number_meant rd xs) (schema_scope w) (expr_in s d.tag d.start d.stop) ≡ done x) × (behind R.front.list owner x ≡ made.list)
        unfolding record_kept
        taken = by (resolved_expr (number_meant rd xs) (schema_scope w) (expr_in s d.tag d.start d.stop)) made.is
          where
            by : {ds : List (Combined ℕ)} (o : Answer (Expr ℕ)) → (o >>= λ x. done (behind R.front.list owner x)) ≡ done ds → (x : Expr ℕ) × (o ≡ done x) × (behind R.front.list owner x ≡ ds)
            by (done x) k = (x, refl, cc)
            by (refused m j) k = clash (cc)

        at_front : Stands R.front.list used w₁
        at_front = still_stands R.front.list owner taken.0 used n w₀ w₁ R.front.stands (subst (λ (ds : List (Combined ℕ)). Stands ds n w₁) (sym taken.2) made.stands)

        pub rule_records : Records (take used w₁)
        rule_records = record { list = R.front.list; is = at_front.is }

        module _ (x : Bool) (X : (cs : List (Combined ℕ)) → take used w₁ ≡ stream_of cs → x ≡ is_found (find eqb owner cs)) where
          pub rule_double : x ≡ true → (why : Refusal) → why ≡ record { reason = SecondRule; place = place } → Kept (item_kept rd xs Rules (schema_named w) place (tree_at s at e)) (told {A = ℕ} (Err why)) used w₀ w₁
          rule_double y why k = rw k (kept_refused w₁ R.front.list 8 place R.front.stands (resolved_first R.front.list ∙ rw taken.1 (vacant_not place (find eqb owner R.front.list) _ (sym (X R.front.list at_front.is) ∙ y))))

          pub rule_kept_law : x ≡ false → Kept (item_kept rd xs Rules (schema_named w) place (tree_at s at e)) (told (Ok n)) used w₀ w₁
          rule_kept_law y = kept_done R.front.list made.list R.front.stands (resolved_first R.front.list ∙ rw taken.1 (vacant_so place (find eqb owner R.front.list) _ (sym (X R.front.list at_front.is) ∙ y) ∙ ap done taken.2)) made.stands

pub ruleset ruling = (front_long, spelt_in, spelt_from, spelt_to, rule_skip, rule_room, rule_handed, rule_records, rule_double, rule_kept_law)

-- ---- the records of a constraint

module _ (s : List ℕ) (at e used : ℕ) (w₀ : List ℕ) (R : Room (item_size Constraints (tree_at s at e)) (item_level Constraints (tree_at s at e)) used w₀) (h : prelude.Option Field) (S : SpellsExpr s (expr_of (tree_at s at e)) h) where
  pub con_skip : (rd : Reading) (xs : List Schema) (w : List ℕ) (place : ℕ) → h ≡ None → Kept (item_kept rd xs Constraints (schema_named w) place (tree_at s at e)) (told (Ok used)) used w₀ w₀
  unfolding item_kept constraint_kept
  con_skip rd xs w place q = kept_none used w₀ R.front (λ cs. rw (unspelt S q) refl)

  module _ (d : Field) (q : h ≡ Some d) where
    pub con_room : Room (size (expr_in s d.tag d.start d.stop)) (level (expr_in s d.tag d.start d.stop)) used w₀
    unfolding item_size item_level given
    con_room = let z = (spelt S d q).is in less_room R (rw z (le_refl (size (expr_in s d.tag d.start d.stop)))) (rw z (le_refl (level (expr_in s d.tag d.start d.stop))))

    module _ (rd : Reading) (xs : List Schema) (w : List ℕ) (place : ℕ) (i : Span) (I : i ≡ span_of (name_of (tree_at s at e))) (L : Lies s (name_of (tree_at s at e))) (f : Result ℕ Refusal) (F : told f ≡ number_meant rd xs (schema_scope w) (word_at s i.start i.stop)) where
      the_name : word_at s i.start i.stop ≡ name_of (tree_at s at e)
      unfolding word_at span_of
      the_name = rw (span_bytes s (name_of (tree_at s at e)) i I L, I) refl

      owner_first : (cs : List (Combined ℕ)) → item_kept rd xs Constraints (schema_named w) place (tree_at s at e) cs ≡ (told f >>= λ p. record_kept rd xs w p (expr_in s d.tag d.start d.stop) cs)
      unfolding item_kept constraint_kept record_kept scope_in schema_named schema_scope constraint_of
      owner_first cs = rw ((spelt S d q).is, F, the_name) refl

      pub con_lost : (why : Refusal) → f ≡ Err why → (k : Result ℕ Refusal) → k ≡ Err why → Kept (item_kept rd xs Constraints (schema_named w) place (tree_at s at e)) (told k) used w₀ w₀
      con_lost why z k y = rw y (kept_refused w₀ R.front.list (number_of why.reason) why.place R.front.stands (owner_first R.front.list ∙ rw z refl))

      pub con_made : (p : ℕ) → f ≡ Ok p → (r : Answer ℕ) (w₁ : List ℕ) → Kept (record_kept rd xs w p (expr_in s d.tag d.start d.stop)) r used w₀ w₁ → Kept (item_kept rd xs Constraints (schema_named w) place (tree_at s at e)) r used w₀ w₁
      con_made p z r w₁ K = kept_same _ (λ cs. sym (owner_first cs ∙ rw z refl)) K

module _ (s : List ℕ) (x : Name) (i : Span) (I : i ≡ span_of x) (L : Lies s x) where
  pub span_within : (at e : ℕ) → Within s at e → Within s i.start i.stop
  unfolding span_of
  span_within at e W = record { short = W.short; rising = rw I (omega arith); within = rw I L.within }

pub ruleset constraining = (spelt_in, spelt_from, spelt_to, span_within, con_skip, con_room, con_lost, con_made)
