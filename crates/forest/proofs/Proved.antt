-- What is proved of sheets and forests: the laws that schemas/specs/Claims.antt tells as claims.
use mathlib.Core.Path.{◌≡◌, refl, sym, ap, ◌∙◌}
use mathlib.Core.List.{List, ◌++◌}
use mathlib.Core.Logic.Iff
use mathlib.Core.Logic.{◌↔◌}
use mathlib.Core.Bool.{Bool, true, false, cond}
use Prim.Native.Nat.{ℕ, zero, suc, ◌+◌, ◌-◌, ◌*◌, ◌/◌, ◌%◌, ◌<◌}
use native.Mathlib.Nat.{not-suc-le-zero, le_refl}
use native.Mathlib.Omega.{arith}
use borrow.Author.Tests.{le-ltb, leb-true, le-leb}
use lib.Dec.{ltb, leb}
use lib.ListN.{length, length-append}
use lib.Seq.{take-append_seam, drop-append_seam, take-length}
use Rattle.refusal.specs.declared.Refusal.{Refusal}
use Rattle.std.specs.Prelude.{Result}
use Rattle.refusal.specs.MeaningAnswer.{Answer, done, refused}
use Rattle.refusal.specs.Told.{told}
use Rattle.grammar.specs.MeaningReading.{Reading}
use Rattle.grammar.specs.MeaningGrammar.{Kind, kind_of, most_bytes, most_depth}
use Rattle.grammar.specs.MeaningGrammar.Kind.{name, simple, empty, fields}
use Rattle.sheet.specs.MeaningSheet.{Is}
use Rattle.sheet.specs.Promises.{PromiseVerdict}
use Rattle.sheet.specs.Claims.{AllBytes}
use Rattle.sheet.specs.MirrorCheck.{walk_at, no_counts, sheet_check}
use Rattle.sheet.specs.declared.Counts.{Counts}
use Rattle.grammar.proofs.Choosing.{clash}
use Rattle.sheet.proofs.FirstFault.{check_accepts, check_refuses}
use Rattle.sheet.proofs.Proved.{accepts_exactly}
use Rattle.forest.specs.MeaningForest.{Forest, field, encode, Sound, Right, Fits}
use Rattle.forest.specs.MeaningForest.Forest.{nil, leaf, node}
use Rattle.forest.specs.MeaningPlaces.{holds_fields, nests}
use Rattle.forest.specs.MeaningDecoding.{decode, forest_of}
use Rattle.forest.proofs.Laying.{part}
use Rattle.forest.proofs.Fitting.{exactly}
use Rattle.forest.proofs.Totalling.{fits_whole, whole_fits}

-- ---- an encoding read back

pub sound_plain : (k : Kind) (v : List ℕ) → Sound k v → holds_fields k ≡ false
sound_plain name v x = refl
sound_plain simple v x = refl
sound_plain empty v x = refl
sound_plain fields v x = absurd x

digits : (n : ℕ) → n / 256 * 256 + n % 256 ≡ n
digits n = omega arith

decoded : (rd : Reading) (f : Forest) (p n : ℕ) → length (encode f) < n → Right rd p f → decode n (encode f) ≡ f
unfolding decode encode field
decoded rd f p zero h k = absurd (not-suc-le-zero h)
decoded rd nil p (suc n) h k = refl
decoded rd (leaf t v f) p (suc n) h k =
    let l = length-append v (encode f) in
    let z : ltb (length (v ++ encode f)) (length v) ≡ false = le-ltb (length (v ++ encode f)) (length v) (omega arith) in
    let i = decoded rd f p n (omega arith) k.2 in
    rw (digits (length v), z, sound_plain (kind_of t) v k.1, take-append_seam v (encode f), drop-append_seam v (encode f), i)
decoded rd (node t g f) p (suc n) h k =
    let l = length-append (encode g) (encode f) in
    let i = decoded rd f p n (omega arith) k.4 in
    let j = decoded rd g t n (omega arith) k.3 in
    let z : ltb (length (encode g ++ encode f)) (length (encode g)) ≡ false = le-ltb (length (encode g ++ encode f)) (length (encode g)) (omega arith) in
    let y : nests t ≡ true = rw k.1 refl in
    rw (digits (length (encode g)), z, y, take-append_seam (encode g) (encode f), drop-append_seam (encode g) (encode f), i, j)

pub reads_back : (rd : Reading) (f : Forest) → AllBytes (encode f) → Fits rd f → forest_of (encode f) ≡ f
unfolding forest_of
reads_back rd f b F = decoded rd f 0 (suc (length (encode f))) (omega arith) F.right

-- ---- accepted sheets

all_of : (s : List ℕ) → part s 0 (length s) ≡ s
all_of s = let k : length s - 0 ≡ length s = omega arith in rw k (take-length s)

checked : (b : Bool) (x : Answer Counts) (n p : ℕ) (c : Counts) → cond b x (refused n p) ≡ done c → (b ≡ true) × (x ≡ done c)
checked true x n p c q = (refl, q)
checked false x n p c q = clash (cc)

encoded : (rd : Reading) (s : List ℕ) → AllBytes s → (c : Counts) → sheet_check rd s ≡ done c → (f : Forest) × (encode f ≡ s) × Fits rd f
unfolding sheet_check
encoded rd s b c q =
    let z = checked (leb (length s) most_bytes) (walk_at rd s 0 0 0 (length s) most_depth no_counts) 1 0 c q in
    let x = (exactly rd s b 0 0 0 (length s) most_depth no_counts c (le_refl (length s)) (omega arith)).0 z.1 in
    let e : encode x.0 ≡ s = x.1 ∙ all_of s in
    (x.0, e, fits_whole rd x.0 (rw e b) (rw e (leb-true (length s) most_bytes z.0)) c x.2)

accepted : (rd : Reading) (f : Forest) → AllBytes (encode f) → Fits rd f → (c : Counts) × (sheet_check rd (encode f) ≡ done c)
unfolding sheet_check
accepted rd f b F =
    let w = whole_fits rd f b F in
    let x = (exactly rd (encode f) b 0 0 0 (length (encode f)) most_depth no_counts w.0 (le_refl (length (encode f))) (omega arith)).1 (f, sym (all_of (encode f)), w.1) in
    (w.0, rw (le-leb (length (encode f)) most_bytes F.short) x)

pub faults_and_forests : (rd : Reading) (s : List ℕ) → AllBytes s → Is rd s (done tt) ↔ ((f : Forest) × (encode f ≡ s) × Fits rd f)
faults_and_forests rd s b = (
  λ i. go i (sheet_check rd s) refl,
  λ x. let bt : AllBytes (encode x.0) = rw x.1 b in let w = accepted rd x.0 bt x.2 in check_accepts rd s b w.0 (rw x.1 at w.1),
)
  where
    go : Is rd s (done tt) → (r : Answer Counts) → sheet_check rd s ≡ r → (f : Forest) × (encode f ≡ s) × Fits rd f
    go i (done c) q = encoded rd s b c q
    go i (refused n p) q = absurd (i n p (check_refuses rd s b n p q).0)

pub accepts_forests : (rd : Reading) (s : List ℕ) (r : Result (Unit {0}) Refusal) → AllBytes s → PromiseVerdict rd s r → (told r ≡ done tt) ↔ ((f : Forest) × (encode f ≡ s) × Fits rd f)
accepts_forests rd s r b h = Iff.trans (accepts_exactly rd s r h) (faults_and_forests rd s b)

pub has_its_forest : (rd : Reading) (s : List ℕ) → AllBytes s → Is rd s (done tt) → (encode (forest_of s) ≡ s) × Fits rd (forest_of s)
has_its_forest rd s b i =
    let x = (faults_and_forests rd s b).0 i in
    let bt : AllBytes (encode x.0) = rw x.1 b in
    let e : forest_of s ≡ x.0 = ap forest_of (sym x.1) ∙ reads_back rd x.0 bt x.2 in
    (ap encode e ∙ x.1, rw e x.2)

pub encodes_once : (rd : Reading) (f g : Forest) → AllBytes (encode f) → Fits rd f → Fits rd g → encode f ≡ encode g → f ≡ g
encodes_once rd f g bytes x y e = sym (reads_back rd f bytes x) ∙ ap forest_of e ∙ reads_back rd g (λ i. rw (← e) (bytes i)) y
