-- The three passes, one after the other, leave the streams.
use Rattle.std.specs.Prelude.{Result, Ok, Err}
use Rattle.refusal.specs.Told.{number_of, told}
use mathlib.Core.Path.{◌≡◌, refl, sym, ap, ap₂, ◌∙◌, subst}
use mathlib.Core.List.{List, [], ◌++◌, map}
use Prim.Native.Nat.{ℕ, ◌+◌, ◌*◌, ◌<◌, ◌≤◌}
use native.Mathlib.Omega.{arith}
use lib.Dec.{eqb}
use lib.ListN.{length, take, length-append}
use Rattle.refusal.specs.MeaningAnswer.{Answer, done, refused, mapped, ◌>>=◌}
use Rattle.refusal.specs.declared.Refusal.{Refusal}
use Rattle.grammar.specs.MeaningReading.{Reading}
use Rattle.grammar.proofs.Choosing.{clash}
use Rattle.schemas.specs.MeaningTree.{Tree, tree_of}
use Rattle.schemas.specs.MeaningSchemas.{Schema, each, schemas_of}
use Rattle.lookup.specs.MirrorLookup.{itself}
use Rattle.declarations.specs.MeaningNamespace.{schemas_in}
use Rattle.merging.specs.MeaningMerging.{Combined, Pair}
use Rattle.merging.specs.MirrorStream.{stream_of, paired, pairs_of}
use Rattle.merging.proofs.Streams.{stream_append}
use Rattle.gathering.specs.MeaningGathering.{through, step_c}
use Rattle.records.specs.MirrorRecords.{number_meant, own_number, Stands, Kept, Room}
use Rattle.gathering.specs.MirrorGathering.{Bounded, constraints_kept, streams_of, streams}
use Rattle.gathering.specs.MirrorWalk.{all_kept, items_size, all_size, all_level, told_gathered, Streamed}
use Rattle.gathering.specs.declared.Streams.{Streams}
use Rattle.gathering.specs.MirrorWalk.{Step}
use Rattle.gathering.specs.MirrorWalk.Step.{Rules, Constraints, Subtypes}
use Rattle.records.proofs.Records.{Became, became, refused_so}
use Rattle.gathering.proofs.Walking.{through_cheap, items_cheap}
use Rattle.gathering.proofs.Alike.{all_rules, all_constraints, all_pairs, rules_size_law, constraints_size_law, supers_size_law, all_level_law}

-- ---- `gather`

-- nothing stands at the front yet
none_yet : (w : List ℕ) → Stands [] 0 w
unfolding stream_of
none_yet w = record { is = refl; long = refl }

-- the last pass, by what it makes of the records before it
module _ (f : List (Combined ℕ) → Answer (List (Combined ℕ))) (ds : List (Combined ℕ)) (m : ℕ) (w₂ w₃ : List ℕ) (S : Stands ds m w₂) where
  at_last : (o : Answer (List (Pair ℕ))) → f ds ≡ mapped (λ ps. ds ++ map paired ps) o → (t : Answer ℕ) → Kept f t m w₂ w₃ → (g : Answer (ℕ × ℕ)) → g ≡ mapped (λ j. (m, j)) t → Streamed (o >>= λ ps. done (ds, ps)) g w₃
  at_last (done ps) e (done j) K g q =
      let b = became K ds S j refl in
      let z : b.list ≡ ds ++ map paired ps = cc b.is in
      let y : stream_of b.list ≡ stream_of ds ++ pairs_of ps = ap stream_of z ∙ stream_append ds (map paired ps) in
      let n : j ≡ length (stream_of ds) + length (pairs_of ps) = b.stands.long ∙ ap length y ∙ length-append (stream_of ds) (pairs_of ps) in
      record {
        says = q ∙ ap₂ (λ (a b : ℕ). done (a, b)) S.long n;
        holds = λ both k. (let x : (ds, ps) ≡ both = cc in subst (λ (c : List (Combined ℕ) × List (Pair ℕ)). take (length (stream_of c.0) + length (pairs_of c.1)) w₃ ≡ stream_of c.0 ++ pairs_of c.1) x (ap (λ (i : ℕ). take i w₃) (sym n) ∙ b.stands.is ∙ y));
      }
  at_last (done ps) e (refused n p) K g q = let z = refused_so K ds S n p refl in clash (cc)
  at_last (refused n p) e (done j) K g q = let b = became K ds S j refl in clash (cc b.is)
  at_last (refused n p) e (refused k i) K g q =
      let z : ◌≡◌ {A = Answer (List (Combined ℕ))} (refused n p) (refused k i) = sym e ∙ refused_so K ds S k i refl in
      let x : k ≡ n = cc in
      let y : i ≡ p = cc in
      record { says = q ∙ rw (x, y) refl; holds = λ both j. clash (cc) }

module _ (s : List ℕ) where
  -- how much all passes add
  enough : Bounded (schemas_in s) → all_size Rules (tree_of s) + (all_size Constraints (tree_of s) + all_size Subtypes (tree_of s)) ≤ 512
  unfolding schemas_in
  enough B = omega (arith, B.few, rules_size_law (tree_of s), constraints_size_law (tree_of s), supers_size_law (tree_of s))

  low : (k : Step) → Bounded (schemas_in s) → all_level k (tree_of s) ≤ 5
  unfolding schemas_in
  low k B = omega (arith, B.low, all_level_law k (tree_of s))

  room_for : (k : Step) → Bounded (schemas_in s) → all_size k (tree_of s) ≤ 512
  room_for Rules B = omega (arith, enough B)
  room_for Constraints B = omega (arith, enough B)
  room_for Subtypes B = omega (arith, enough B)

  pub first_room : (k : Step) → Bounded (schemas_in s) → (w₀ : List ℕ) → 2048 ≤ length w₀ → length w₀ < 65536 → Room (all_size k (tree_of s)) (all_level k (tree_of s)) 0 w₀
  first_room k B w₀ h l = record { front = record { list = []; stands = none_yet w₀ }; room = omega (arith, room_for k B); low = low k B; small = l }

module _ (rd : Reading) (s : List ℕ) where
  abbrev xs : List Schema
  xs = schemas_in s

  abbrev T : Tree
  T = tree_of s

  abbrev subtypes : Answer (List (Pair ℕ))
  subtypes = step_c eqb (number_meant rd xs) (own_number rd xs) xs []

  -- what is left once rules and constraints are read
  unfoldable ending : List (Combined ℕ) → Answer (List (Combined ℕ) × List (Pair ℕ))
  ending ds = subtypes >>= λ ps. done (ds, ps)

  -- the passes
  passes : streams rd xs ≡ (all_kept rd xs Rules T [] >>= λ cs. all_kept rd xs Constraints T cs >>= λ ds. ending ds)
  unfolding streams streams_of schemas_in ending
  passes = ap (λ (o : Answer (List (Combined ℕ))). o >>= λ cs. through (constraints_kept eqb (number_meant rd xs) (own_number rd xs)) (schemas_of T) cs >>= λ ds. ending ds) (all_rules rd xs T []) ∙ by (all_kept rd xs Rules T [])
    where
      by : (o : Answer (List (Combined ℕ))) → (o >>= λ cs. through (constraints_kept eqb (number_meant rd xs) (own_number rd xs)) (schemas_of T) cs >>= λ ds. ending ds) ≡ (o >>= λ cs. all_kept rd xs Constraints T cs >>= λ ds. ending ds)
      by (done cs) = ap (λ (o : Answer (List (Combined ℕ))). o >>= λ ds. ending ds) (all_constraints rd xs T cs)
      by (refused n p) = refl

  pass_cheap : (k : Step) (cs ds : List (Combined ℕ)) → all_kept rd xs k T cs ≡ done ds → length (stream_of ds) ≤ length (stream_of cs) + 4 * all_size k T
  unfolding all_size
  pass_cheap k cs ds q = through_cheap _ (λ (i : ℕ × Tree). items_size k i.1) (items_cheap rd xs k) (each 0x01 itself T) cs ds q

  module _ (B : Bounded xs) (w₀ : List ℕ) (h : 2048 ≤ length w₀) (l : length w₀ < 65536) where
    module _ (r : Result ℕ Refusal) (w₁ : List ℕ) (K : Kept (all_kept rd xs Rules T) (told r) 0 w₀ w₁) where
      pub first_refused : (why : Refusal) → r ≡ Err why → (k : Result Streams Refusal) → k ≡ Err why → Streamed (streams rd xs) (told_gathered k) w₁
      first_refused why q k y =
          let z : streams rd xs ≡ refused (number_of why.reason) why.place = passes ∙ ap (λ (o : Answer (List (Combined ℕ))). o >>= λ cs. all_kept rd xs Constraints T cs >>= λ ds. ending ds) (refused_so K [] (none_yet w₀) (number_of why.reason) why.place (ap told q)) in
          record { says = rw (y, z) refl; holds = λ both k. clash (cc) }

      module _ (n : ℕ) (q : r ≡ Ok n) where
        ruled : Became (all_kept rd xs Rules T) [] n w₁
        ruled = became K [] (none_yet w₀) n (ap told q)

        after : n ≤ 4 * all_size Rules T
        unfolding stream_of
        after = omega (arith, ruled.stands.long, pass_cheap Rules [] ruled.list ruled.is)

        pub second_room : length w₁ ≡ length w₀ → Room (all_size Constraints T) (all_level Constraints T) n w₁
        second_room k = record { front = record { list = ruled.list; stands = ruled.stands }; room = omega (arith, enough s B, after); low = low s Constraints B; small = omega arith }

        module _ (r' : Result ℕ Refusal) (w₂ : List ℕ) (K' : Kept (all_kept rd xs Constraints T) (told r') n w₁ w₂) where
          pub second_refused : (why : Refusal) → r' ≡ Err why → (k : Result Streams Refusal) → k ≡ Err why → Streamed (streams rd xs) (told_gathered k) w₂
          second_refused why q' k y =
              let z : streams rd xs ≡ refused (number_of why.reason) why.place = passes ∙ rw (ruled.is, refused_so K' ruled.list ruled.stands (number_of why.reason) why.place (ap told q')) refl in
              record { says = rw (y, z) refl; holds = λ both k. clash (cc) }

          module _ (m : ℕ) (q' : r' ≡ Ok m) where
            constrained : Became (all_kept rd xs Constraints T) ruled.list m w₂
            constrained = became K' ruled.list ruled.stands m (ap told q')

            pub third_room : length w₁ ≡ length w₀ → length w₂ ≡ length w₁ → Room (all_size Subtypes T) (all_level Subtypes T) m w₂
            third_room k j =
                record {
                  front = record { list = constrained.list; stands = constrained.stands };
                  room = omega (arith, enough s B, after, ruled.stands.long, constrained.stands.long, pass_cheap Constraints ruled.list constrained.list constrained.is);
                  low = low s Subtypes B;
                  small = omega arith;
                }

            both_passes : streams rd xs ≡ ending constrained.list
            both_passes = passes ∙ rw (ruled.is, constrained.is) refl

            module _ (r'' : Result ℕ Refusal) (w₃ : List ℕ) (K'' : Kept (all_kept rd xs Subtypes T) (told r'') m w₂ w₃) where
              third_done : (g : Answer (ℕ × ℕ)) → g ≡ mapped (λ j. (m, j)) (told r'') → Streamed (streams rd xs) g w₃
              unfolding schemas_in ending
              third_done g e = rw both_passes (at_last (all_kept rd xs Subtypes T) constrained.list m w₂ w₃ constrained.stands subtypes (all_pairs rd xs T constrained.list) (told r'') K'' g e)

              pub third_refused : (why : Refusal) → r'' ≡ Err why → (k : Result Streams Refusal) → k ≡ Err why → Streamed (streams rd xs) (told_gathered k) w₃
              third_refused why q'' k y = third_done (told_gathered k) (rw (y, q'') refl)

              pub third_made : (j : ℕ) → r'' ≡ Ok j → Streamed (streams rd xs) (told_gathered (Ok (record { rules = m; used = j }))) w₃
              third_made j q'' = third_done (told_gathered (Ok (record { rules = m; used = j }))) (rw q'' refl)

pub ruleset gathering = (first_room, first_refused, second_room, second_refused, third_room, third_refused, third_made)
