-- Small sheets and their verdicts, by the meaning: the check's answers computed, and its theorem. One fault is shown from the meaning's own words.
use mathlib.Core.Path.{◌≡◌, refl, subst}
use mathlib.Core.List.{List, [], ◌∷◌, map}
use mathlib.Core.Bool.{Bool, true, false, cond}
use Prim.Native.Nat.{ℕ, zero, suc, ◌<◌}
use native.Mathlib.Omega.{arith}
use borrow.Author.Tests.{ltb-true}
use lib.Dec.{ltb}
use lib.ListN.{get_or}
use Rattle.refusal.specs.MeaningAnswer.{Answer, done, refused, mapped}
use Rattle.grammar.specs.MeaningReading.Reading.{rust}
use Rattle.sheet.specs.MeaningName.{is_letter, is_name_byte, all_name_bytes, starts_with_letter, is_name}
use Rattle.grammar.specs.MeaningGrammar.{grammar, slot, line, expressions, one_of, needed, slots_of, slots_in, Fills, kind_of}
use Rattle.sheet.specs.MeaningSheet.{Fault, Is}
use Rattle.sheet.specs.MeaningSheet.Comes.{start, into}
use Rattle.sheet.specs.MeaningSheet.Fault.{wrong}
use Rattle.sheet.specs.MeaningSheet.Wrong.{missing}
use Rattle.sheet.specs.Claims.{AllBytes}
use Rattle.grammar.specs.MirrorRows.{rows}
use Rattle.grammar.specs.MirrorTable.{cell_at, belongs, serves, first, row_of, answer_at}
use Rattle.sheet.specs.MirrorField.{field_at}
use Rattle.sheet.specs.MirrorCheck.{kind_fault, length_fault, value_fault, depth_fault, or_next, field_fault, next_count, then_count, count_up, at_end, go_on, on_count, on_fault, on_field, step_at, after, walk, walk_at, no_counts, sheet_check}
use Rattle.sheet.specs.declared.Counts.{Counts}
use Rattle.grammar.proofs.Choosing.{clash}
use Rattle.grammar.proofs.Sequences.{lacks, fill_end}
use Rattle.sheet.proofs.FirstFault.{check_accepts, check_refuses}

kept : (s : List ℕ) → AllBytes s → Is rust s (mapped (λ c. tt {0}) (sheet_check rust s))
kept s b = go (sheet_check rust s) refl
  where
    go : (r : Answer Counts) → sheet_check rust s ≡ r → Is rust s (mapped (λ c. tt {0}) r)
    go (done c) q = check_accepts rust s b c q
    go (refused n p) q = check_refuses rust s b n p q

-- bytes, by a test
abbrev low : List ℕ → Bool
low [] = true
low (x ∷ xs) = cond (ltb x 256) (low xs) false

low_bytes : (s : List ℕ) → low s ≡ true → AllBytes s
low_bytes [] q i = let z : 0 < 256 = omega arith in z
low_bytes (x ∷ xs) q i = go (ltb x 256) refl q i (low_bytes xs)
  where
    go : (b : Bool) → ltb x 256 ≡ b → cond b (low xs) false ≡ true → (i : ℕ) → (low xs ≡ true → AllBytes xs) → get_or (x ∷ xs) i 0 < 256
    go true e k zero next = ltb-true x 256 e
    go true e k (suc i) next = next k i
    go false e k i next = clash (cc)

pub record Sample : Type 0 where
  pub bytes : List ℕ
  pub say : Answer (Unit {0})

abbrev sample : List ℕ → Answer (Unit {0}) → Sample
sample s v = record { bytes = s; say = v }

abbrev pub samples : List Sample
samples =
    -- nothing at all
    sample ([]) (done tt)
    -- a schema without its name: missing at the schema's end
    ∷ sample (1 ∷ 0 ∷ 0 ∷ []) (refused 3 3)
    -- an entity where the name should stand: not allowed at its place
    ∷ sample (1 ∷ 0 ∷ 3 ∷ 48 ∷ 0 ∷ 0 ∷ []) (refused 3 3)
    -- a header that passes the end
    ∷ sample (1 ∷ 0 ∷ []) (refused 3 0)
    -- a value that passes the end
    ∷ sample (1 ∷ 0 ∷ 1 ∷ []) (refused 3 0)
    -- a schema
    ∷ sample (1 ∷ 0 ∷ 4 ∷ 16 ∷ 0 ∷ 1 ∷ 65 ∷ []) (done tt)
    -- a name that starts with a digit
    ∷ sample (1 ∷ 0 ∷ 4 ∷ 16 ∷ 0 ∷ 1 ∷ 49 ∷ []) (refused 4 3)
    -- a name without bytes
    ∷ sample (1 ∷ 0 ∷ 3 ∷ 16 ∷ 0 ∷ 0 ∷ []) (refused 4 3)
    -- a name of 32 bytes
    ∷ sample (1 ∷ 0 ∷ 35 ∷ 16 ∷ 0 ∷ 32 ∷ 97 ∷ 97 ∷ 97 ∷ 97 ∷ 97 ∷ 97 ∷ 97 ∷ 97 ∷ 97 ∷ 97 ∷ 97 ∷ 97 ∷ 97 ∷ 97 ∷ 97 ∷ 97 ∷ 97 ∷ 97 ∷ 97 ∷ 97 ∷ 97 ∷ 97 ∷ 97 ∷ 97 ∷ 97 ∷ 97 ∷ 97 ∷ 97 ∷ 97 ∷ 97 ∷ 97 ∷ 97 ∷ []) (done tt)
    -- and of 33
    ∷ sample (1 ∷ 0 ∷ 36 ∷ 16 ∷ 0 ∷ 33 ∷ 97 ∷ 97 ∷ 97 ∷ 97 ∷ 97 ∷ 97 ∷ 97 ∷ 97 ∷ 97 ∷ 97 ∷ 97 ∷ 97 ∷ 97 ∷ 97 ∷ 97 ∷ 97 ∷ 97 ∷ 97 ∷ 97 ∷ 97 ∷ 97 ∷ 97 ∷ 97 ∷ 97 ∷ 97 ∷ 97 ∷ 97 ∷ 97 ∷ 97 ∷ 97 ∷ 97 ∷ 97 ∷ 97 ∷ []) (refused 4 3)
    -- simple type 6
    ∷ sample (1 ∷ 0 ∷ 15 ∷ 16 ∷ 0 ∷ 1 ∷ 65 ∷ 32 ∷ 0 ∷ 8 ∷ 16 ∷ 0 ∷ 1 ∷ 66 ∷ 33 ∷ 0 ∷ 1 ∷ 6 ∷ []) (done tt)
    -- and 7
    ∷ sample (1 ∷ 0 ∷ 15 ∷ 16 ∷ 0 ∷ 1 ∷ 65 ∷ 32 ∷ 0 ∷ 8 ∷ 16 ∷ 0 ∷ 1 ∷ 66 ∷ 33 ∷ 0 ∷ 1 ∷ 7 ∷ []) (refused 3 14)
    -- a type without its kind
    ∷ sample (1 ∷ 0 ∷ 11 ∷ 16 ∷ 0 ∷ 1 ∷ 65 ∷ 32 ∷ 0 ∷ 4 ∷ 16 ∷ 0 ∷ 1 ∷ 66 ∷ []) (refused 3 14)
    -- an abstract entity that holds a byte
    ∷ sample (1 ∷ 0 ∷ 15 ∷ 16 ∷ 0 ∷ 1 ∷ 65 ∷ 48 ∷ 0 ∷ 8 ∷ 16 ∷ 0 ∷ 1 ∷ 66 ∷ 50 ∷ 0 ∷ 1 ∷ 0 ∷ []) (refused 3 14)
    -- a second 34
    ∷ sample (1 ∷ 0 ∷ 17 ∷ 16 ∷ 0 ∷ 1 ∷ 65 ∷ 48 ∷ 0 ∷ 10 ∷ 16 ∷ 0 ∷ 1 ∷ 66 ∷ 52 ∷ 0 ∷ 0 ∷ 52 ∷ 0 ∷ 0 ∷ []) (refused 3 17)
    -- an expression of depth 5
    ∷ sample (1 ∷ 0 ∷ 30 ∷ 16 ∷ 0 ∷ 1 ∷ 65 ∷ 48 ∷ 0 ∷ 23 ∷ 16 ∷ 0 ∷ 1 ∷ 66 ∷ 49 ∷ 0 ∷ 16 ∷ 81 ∷ 0 ∷ 13 ∷ 81 ∷ 0 ∷ 10 ∷ 81 ∷ 0 ∷ 7 ∷ 81 ∷ 0 ∷ 4 ∷ 80 ∷ 0 ∷ 1 ∷ 99 ∷ []) (done tt)
    -- of depth 6: the reference is the first field beyond
    ∷ sample (1 ∷ 0 ∷ 33 ∷ 16 ∷ 0 ∷ 1 ∷ 65 ∷ 48 ∷ 0 ∷ 26 ∷ 16 ∷ 0 ∷ 1 ∷ 66 ∷ 49 ∷ 0 ∷ 19 ∷ 81 ∷ 0 ∷ 16 ∷ 81 ∷ 0 ∷ 13 ∷ 81 ∷ 0 ∷ 10 ∷ 81 ∷ 0 ∷ 7 ∷ 81 ∷ 0 ∷ 4 ∷ 80 ∷ 0 ∷ 1 ∷ 99 ∷ []) (refused 5 32)
    -- and misspelt: 4 comes before 5
    ∷ sample (1 ∷ 0 ∷ 33 ∷ 16 ∷ 0 ∷ 1 ∷ 65 ∷ 48 ∷ 0 ∷ 26 ∷ 16 ∷ 0 ∷ 1 ∷ 66 ∷ 49 ∷ 0 ∷ 19 ∷ 81 ∷ 0 ∷ 16 ∷ 81 ∷ 0 ∷ 13 ∷ 81 ∷ 0 ∷ 10 ∷ 81 ∷ 0 ∷ 7 ∷ 81 ∷ 0 ∷ 4 ∷ 80 ∷ 0 ∷ 1 ∷ 95 ∷ []) (refused 4 32)
    -- eight schemas
    ∷ sample (1 ∷ 0 ∷ 4 ∷ 16 ∷ 0 ∷ 1 ∷ 65 ∷ 1 ∷ 0 ∷ 4 ∷ 16 ∷ 0 ∷ 1 ∷ 65 ∷ 1 ∷ 0 ∷ 4 ∷ 16 ∷ 0 ∷ 1 ∷ 65 ∷ 1 ∷ 0 ∷ 4 ∷ 16 ∷ 0 ∷ 1 ∷ 65 ∷ 1 ∷ 0 ∷ 4 ∷ 16 ∷ 0 ∷ 1 ∷ 65 ∷ 1 ∷ 0 ∷ 4 ∷ 16 ∷ 0 ∷ 1 ∷ 65 ∷ 1 ∷ 0 ∷ 4 ∷ 16 ∷ 0 ∷ 1 ∷ 65 ∷ 1 ∷ 0 ∷ 4 ∷ 16 ∷ 0 ∷ 1 ∷ 65 ∷ []) (done tt)
    -- and a ninth, without a name: 5 comes before what is inside
    ∷ sample (1 ∷ 0 ∷ 4 ∷ 16 ∷ 0 ∷ 1 ∷ 65 ∷ 1 ∷ 0 ∷ 4 ∷ 16 ∷ 0 ∷ 1 ∷ 65 ∷ 1 ∷ 0 ∷ 4 ∷ 16 ∷ 0 ∷ 1 ∷ 65 ∷ 1 ∷ 0 ∷ 4 ∷ 16 ∷ 0 ∷ 1 ∷ 65 ∷ 1 ∷ 0 ∷ 4 ∷ 16 ∷ 0 ∷ 1 ∷ 65 ∷ 1 ∷ 0 ∷ 4 ∷ 16 ∷ 0 ∷ 1 ∷ 65 ∷ 1 ∷ 0 ∷ 4 ∷ 16 ∷ 0 ∷ 1 ∷ 65 ∷ 1 ∷ 0 ∷ 4 ∷ 16 ∷ 0 ∷ 1 ∷ 65 ∷ 1 ∷ 0 ∷ 0 ∷ []) (refused 5 56)
    -- document 01's `cam`
    ∷ sample (1 ∷ 0 ∷ 99 ∷ 16 ∷ 0 ∷ 3 ∷ 99 ∷ 97 ∷ 109 ∷ 48 ∷ 0 ∷ 8 ∷ 16 ∷ 0 ∷ 5 ∷ 102 ∷ 114 ∷ 97 ∷ 109 ∷ 101 ∷ 48 ∷ 0 ∷ 21 ∷ 16 ∷ 0 ∷ 7 ∷ 101 ∷ 120 ∷ 112 ∷ 111 ∷ 115 ∷ 101 ∷ 100 ∷ 52 ∷ 0 ∷ 8 ∷ 16 ∷ 0 ∷ 5 ∷ 102 ∷ 114 ∷ 97 ∷ 109 ∷ 101 ∷ 48 ∷ 0 ∷ 21 ∷ 16 ∷ 0 ∷ 7 ∷ 112 ∷ 108 ∷ 97 ∷ 110 ∷ 110 ∷ 101 ∷ 100 ∷ 52 ∷ 0 ∷ 8 ∷ 16 ∷ 0 ∷ 5 ∷ 102 ∷ 114 ∷ 97 ∷ 109 ∷ 101 ∷ 64 ∷ 0 ∷ 31 ∷ 16 ∷ 0 ∷ 5 ∷ 102 ∷ 114 ∷ 97 ∷ 109 ∷ 101 ∷ 83 ∷ 0 ∷ 20 ∷ 80 ∷ 0 ∷ 7 ∷ 101 ∷ 120 ∷ 112 ∷ 111 ∷ 115 ∷ 101 ∷ 100 ∷ 80 ∷ 0 ∷ 7 ∷ 112 ∷ 108 ∷ 97 ∷ 110 ∷ 110 ∷ 101 ∷ 100 ∷ []) (done tt)
    ∷ []

computed : map (λ (x : Sample). mapped (λ c. tt {0}) (sheet_check rust x.bytes)) samples ≡ map (λ (x : Sample). x.say) samples
unfolding rows cell_at belongs serves first row_of answer_at is_letter is_name_byte all_name_bytes starts_with_letter is_name field_at kind_fault length_fault value_fault depth_fault or_next field_fault next_count then_count count_up at_end go_on on_count on_fault on_field step_at after walk walk_at no_counts sheet_check
computed = refl

abbrev pub All : List Sample → Type 0
All [] = Unit {0}
All (x ∷ xs) = Is rust x.bytes x.say × All xs

all_low : List Sample → Bool
all_low [] = true
all_low (x ∷ xs) = cond (low x.bytes) (all_low xs) false

each : (xs : List Sample) → all_low xs ≡ true → map (λ (x : Sample). mapped (λ c. tt {0}) (sheet_check rust x.bytes)) xs ≡ map (λ (x : Sample). x.say) xs → All xs
unfolding all_low
each [] l q = tt
each (x ∷ xs) l q = go (low x.bytes) refl l (λ k. each xs k (cc))
  where
    go : (b : Bool) → low x.bytes ≡ b → cond b (all_low xs) false ≡ true → (all_low xs ≡ true → All xs) → Is rust x.bytes x.say × All xs
    go true e k next = (let z : mapped (λ c. tt {0}) (sheet_check rust x.bytes) ≡ x.say = cc in subst (Is rust x.bytes) z (kept x.bytes (low_bytes x.bytes e)), next k)
    go false e k next = clash (cc)

-- the verdict of each is the one that stands beside it
pub verdicts : All samples
unfolding all_low
verdicts = each samples refl computed

-- a schema of no bytes lacks its name, at place 3
no_name : Fills (slots_of 0x01) [] → ⊥
unfolding slots_in grammar slot line expressions lacks needed
no_name r = clash (let z = fill_end r in cc)

pub by_hand : Fault rust (0x01 ∷ 0 ∷ 0 ∷ []) 3 3
unfolding kind_of one_of
by_hand = wrong (into start (omega arith) refl) (missing refl no_name)
