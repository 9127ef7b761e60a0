-- What the records say of a declaration's number, and of an owner's place.
use mathlib.Core.Path.{◌≡◌, refl, sym, ◌∙◌}
use mathlib.Core.List.{List, [], ◌++◌, map}
use mathlib.Core.Bool.{Bool, false}
use mathlib.Core.Option.{Option, none, some}
use Prim.Native.Nat.{ℕ}
use lib.Dec.{eqb}
use lib.ListN.{take, get_elem?}
use Rattle.std.specs.Prelude.{Some, None, Result, Ok, Err, ok_or}
use Rattle.std.specs.Prelude as prelude
use Rattle.refusal.specs.Told.{told}
use Rattle.refusal.specs.declared.Reason.TheVariants.{NoSupertype, NoNumber}
use Rattle.refusal.specs.declared.Refusal.{Refusal}
use Rattle.instantiables.specs.declared.Instantiables.{Instantiables}
use Rattle.grammar.proofs.Choosing.{clash}
use Rattle.expression.specs.MeaningNumbers.{or17}
use Rattle.declarations.specs.MeaningNamespace.{Declaration}
use Rattle.declarations.specs.MirrorNamespace.{sought_of}
use Rattle.merging.specs.MeaningMerging.{Combined, find}
use Rattle.merging.specs.MeaningFirsts.{firsts}
use Rattle.merging.specs.MirrorStream.{stream_of, paired, is_found, owner_of}
use Rattle.gathering.specs.declared.Streams.{Streams}
use Rattle.supertypes.specs.MirrorStanding.{owned_in, owner_in, Both, Standing, list_by, list_in, ListedAs}
use Rattle.supertypes.proofs.Standing.{standing_all}

-- ---- what a declaration's number is found to be

module _ (o : Option Declaration) (v : prelude.Option ℕ) (q : v ≡ sought_of o) where
  lost : v ≡ None → o ≡ none
  unfolding sought_of
  lost e = by o (sym q ∙ e)
    where
      by : (o : Option Declaration) → sought_of o ≡ None → o ≡ none
      by none z = refl
      by (some d) z = clash (cc)

  numbered : (n : ℕ) → v ≡ Some n → (d : Declaration) × (o ≡ some d) × (d.number ≡ n)
  unfolding sought_of
  numbered n e = by o (sym q ∙ e)
    where
      by : (o : Option Declaration) → sought_of o ≡ Some n → (d : Declaration) × (o ≡ some d) × (d.number ≡ n)
      by none z = clash (cc)
      by (some d) z = (d, refl, cc)

  module _ (x : Streams) (w : List ℕ) where
    pub decide_none : v ≡ None → (b : Both) → Standing b x w → false ≡ owned_in o b
    unfolding owned_in
    decide_none e b S = rw (lost e) refl

    pub decide_found : (n : ℕ) → v ≡ Some n → (is : Bool) → ((cs : List (Combined ℕ)) → take x.used w ≡ stream_of cs → is ≡ is_found (find eqb n cs)) → (b : Both) → Standing b x w → is ≡ owned_in o b
    unfolding owned_in
    decide_found n e is f b S = let d = numbered n e in rw (d.1, d.2) (f (b.0 ++ map paired b.1) (standing_all S))

    pub list_lost : v ≡ None → (r : Result Instantiables Refusal) → r ≡ Err (record { reason = NoSupertype; place = 0 }) → (b : Both) → Standing b x w → ListedAs (list_in o b) r w
    unfolding list_in
    list_lost e r k b S = rw k record { is = rw (lost e) refl; stands = tt }

    pub list_numbered : (n : ℕ) → v ≡ Some n → (r : Result Instantiables Refusal) (w' : List ℕ) → ((b : Both) → Standing b x w → ListedAs (list_by n b) r w') → (b : Both) → Standing b x w → ListedAs (list_in o b) r w'
    unfolding list_in
    list_numbered n e r w' f b S = let d = numbered n e in rw (d.1, d.2) (f b S)

pub ruleset deciding = (decide_none, decide_found)

pub ruleset listing = (list_lost, list_numbered)

-- ---- the owner of a number

module _ (x : Streams) (w : List ℕ) (k : ℕ) (o : prelude.Option ℕ) (f : (cs : List (Combined ℕ)) → take x.used w ≡ stream_of cs → o ≡ owner_of (get_elem? (firsts eqb [] (map (λ (c : Combined ℕ). c.owner) cs)) k)) where
  pub count_is : (why : Refusal) → why ≡ record { reason = NoNumber; place = 0 } → (b : Both) → Standing b x w → told (ok_or o why) ≡ owner_in k b
  unfolding owner_in
  count_is why u b S = rw (f (b.0 ++ map paired b.1) (standing_all S), u) (by (get_elem? (firsts eqb [] (map (λ (c : Combined ℕ). c.owner) (b.0 ++ map paired b.1))) k))
    where
      by : (m : Option ℕ) → told (ok_or (owner_of m) (record { reason = NoNumber; place = 0 })) ≡ or17 m
      by none = refl
      by (some i) = refl

pub ruleset counting = (count_is)
