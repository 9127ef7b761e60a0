-- The names of the declaration with a number, as C reads where they stand.
use mathlib.Core.Path.{◌≡◌, refl, ap}
use mathlib.Core.List.{List}
use Prim.Native.Nat.{ℕ, ◌-◌}
use native.Mathlib.Omega.{arith}
use lib.ListN.{take, drop}
use Rattle.refusal.specs.MeaningAnswer.{done, refused}
use Rattle.refusal.specs.Told.{number_of, told_refusal}
use Rattle.refusal.specs.declared.Refusal.{Refusal}
use Rattle.grammar.specs.MeaningReading.Reading.{rust}
use Rattle.sheet.specs.MeaningName.{Name}
use Rattle.sheet.specs.Told.{told_reading}
use Rattle.sheet.specs.declared.Reading.TheVariants as reading
use Rattle.scope.specs.MeaningScope.{Path}
use Rattle.lookup.specs.MirrorLookup.{span_of, Lies}
use Rattle.lookup.specs.declared.Span.{Span}
use Rattle.lookup.proofs.Names.{span_bytes}
use Rattle.namespace.specs.Promises.{Asked, part_of, PromisePart}
use Rattle.namespace.specs.MirrorNames.{name_within, NameSpells}
use Rattle.namespace.specs.declared.PathName.{PathName}
use Rattle.codes.proofs.Reading.{refusal_read}
use Rattle.exports.specs.Promises.{stop_of, ExportedName}

module _ (s : List ℕ) (index : ℕ) (name : Path → Name) where
  -- what is refused stands nowhere
  no_name : (why : Refusal) → Asked rust s index (refused (number_of why.reason) why.place) → ExportedName name s index (number_of why.reason) why.place 0
  unfolding ExportedName stop_of PromisePart part_of
  no_name why a =
      let z : 0 - why.place ≡ 0 = omega arith in
      (refused (number_of why.reason) why.place, a, refusal_read why.reason why.place, refl, (refused (number_of why.reason) why.place, a, ap (λ (k : ℕ). take k (drop why.place s)) z))

  -- a name stands where its span says
  a_name : (p : Path) → Asked rust s index (done p) → (h : Span) → h ≡ span_of (name p) → Lies s (name p) → ExportedName name s index 0 h.start h.stop
  unfolding ExportedName stop_of PromisePart part_of span_of
  a_name p a h e l =
      let starts : h.start ≡ (name p).at = ap (λ (y : Span). y.start) e in
      (done p, a, rw starts refl, ap (λ (y : Span). y.stop) e, (done p, a, span_bytes s (name p) h e l))

-- ---- `hand_out_name`

module _ (s : List ℕ) (index : ℕ) (name : PathName) where
  pub name_handed : (place : Span) → NameSpells (told_reading reading.Rust) s index name place → ExportedName (name_within name) s index 0 place.start place.stop
  unfolding told_reading
  name_handed place n = a_name s index (name_within name) n.path n.asked place n.spans n.lies

  pub name_refused : (why : Refusal) → Asked (told_reading reading.Rust) s index (told_refusal why) → ExportedName (name_within name) s index (number_of why.reason) why.place 0
  unfolding told_reading
  name_refused why a = no_name s index (name_within name) why a

pub ruleset naming = (name_handed, name_refused)
