-- Every claim holds.
use mathlib.Core.Path.{◌≡◌, refl}
use mathlib.Core.List.{flat_map, flatten}
use Prim.Native.Nat.{ℕ, ◌<◌}
use lib.ListN.{length}
use native.Mathlib.Omega.{arith}
use Rattle.refusal.specs.MeaningAnswer.{done, refused}
use Rattle.complex_entity.specs.MeaningLists.{held, prefixes, and_of, andor_of, oneof_of}
use Rattle.expression.specs.MeaningExpression.{eval, factors, andor_mut}
use Rattle.expression.specs.MeaningNumbers.{number_of}
use Rattle.expression.specs.Claims.{ListsBuilds, Demand3, Unnumbered, Starred}
use Rattle.expression.proofs.Building.{builds_list, list_rising}
use Rattle.expression.proofs.Places.{number→set, set→number, set_in, set_below, in_set, set_full, set_past, set_rising, rising_set, no_number}

pub lists_builds : ListsBuilds
lists_builds e L h = (list_rising e L h, builds_list e L h)

pub demand_3 : Demand3
demand_3 e L h =
    let R = list_rising e L h in
    record {
      has = λ q b. let r = in_set L ((builds_list e L h q).1 b) in (r.0, set_below L q r.0 r.1, set→number L R q r.0 r.1);
      only = λ q i n. (builds_list e L h q).0 (set_in L q i (number→set L q i n));
      apart = λ p q i m n. cc (number→set L p i m, number→set L q i n);
      back = λ q i. (number→set L q i, set→number L R q i);
      full = set_full L;
      past = set_past L;
      rising = λ p q i j m n. (set_rising L R i j p q (number→set L p i m) (number→set L q j n), rising_set L R i j p q (number→set L p i m) (number→set L q j n));
    }

pub unnumbered : Unnumbered
unnumbered e L h q = (λ f. no_number L q (λ m. f ((builds_list e L h q).0 m)), λ n b. clash_at n ((demand_3 e L h).has q b))
  where
    clash_at : number_of L q ≡ refused 17 0 → (i : ℕ) × (i < length L) × (number_of L q ≡ done i) → ⊥
    clash_at n r = let z : ◌≡◌ {A = ℕ} 0 1 = cc r.2 in omega arith

pub starred_hold : Starred
unfolding eval factors andor_mut flat_map flatten held prefixes and_of andor_of oneof_of
starred_hold = refl
