-- Lists of parts: Annex B's operators, as the comments of complex_entity.rs quote them, with document 01's limits.
use mathlib.Core.List.{List, [], ◌∷◌, ◌++◌, map, flat_map, flatten}
use Rattle.std.specs.Prelude.{Bool, true, false, not, ◌&&◌, ◌||◌, ℕ, length, leb}
use Rattle.std.proofs.Math.Dec.{compare_is_eq}
use Rattle.refusal.specs.MeaningAnswer.{Answer, done, refused, or_else, ◌>>=◌}
use Rattle.complex_entity.specs.MeaningSets.{tidy}
use Rattle.complex_entity.specs.MeaningParts.{Part, order, join, contains, narrow}

-- "a list at most 128 parts"
abbrev pub most_parts : ℕ
most_parts = 128

-- "An ANDOR is evaluated with at most 12 factors"
abbrev pub most_factors : ℕ
most_factors = 12

-- ---- the operators; with a part in a list's stead, the list of that part alone

-- [A1, A2] + [B1, B2] = [A1, A2, B1, B2]
abbrev pub add : List Part → List Part → List Part
add L K = tidy order (L ++ K)

-- [A1, A2] & [B1, B2] = [A1 & B1, A1 & B2, A2 & B1, A2 & B2]
abbrev pub joins : List Part → List Part → List Part
joins L K = flat_map (λ p. map (join p) K) L

abbrev pub bitand : List Part → List Part → List Part
bitand L K = tidy order (joins L K)

-- those that meet a test, "the left list's order and repeats" kept
abbrev pub keep_if : {A : Type 0} → Bool → A → List A → List A
keep_if true a l = a ∷ l
keep_if false a l = l

abbrev pub keep : {A : Type 0} → (A → Bool) → List A → List A
keep f [] = []
keep f (a ∷ l) = keep_if (f a) a (keep f l)

abbrev pub any : {A : Type 0} → (A → Bool) → List A → Bool
any f [] = false
any f (a ∷ l) = f a || any f l

-- "`-` drops equal parts"
abbrev pub equal : Part → Part → Bool
equal p q = compare_is_eq (order p q)

abbrev pub sub : List Part → List Part → List Part
sub L K = keep (λ p. not (any (equal p) K)) L

-- "`/` keeps parts that contain some right-hand part"
abbrev pub div : List Part → List Part → List Part
div L K = keep (λ p. any (contains p) K) L

-- "ONEOF unites lists"
abbrev pub oneof : List (List Part) → List Part
oneof Ls = tidy order (flatten Ls)

-- "AND joins each part with each": L is the list of the terms so far
abbrev pub and_from : List Part → List (List Part) → List Part
and_from L [] = L
and_from L (K ∷ Ks) = and_from (bitand L K) Ks

abbrev pub and : List (List Part) → List Part
and [] = []
and (L ∷ Ls) = and_from L Ls

-- "every nonempty choice of factors"
abbrev pub choices : {A : Type 0} → List A → List (List A)
choices [] = []
choices (L ∷ Ls) = (L ∷ []) ∷ (choices Ls ++ map (λ C. L ∷ C) (choices Ls))

-- "ANDOR unites the joins over every nonempty choice of factors."
abbrev pub andor : List (List Part) → List Part
andor Ls = oneof (map and (choices Ls))

-- ---- the refusals, in their order: 9, 10, 11

abbrev pub all_narrow : List Part → Bool
all_narrow [] = true
all_narrow (p ∷ L) = narrow p && all_narrow L

abbrev pub fits : List Part → Bool
fits L = leb (length L) most_parts && all_narrow L

-- "11: over 128 parts, or a part over 12 names, in an operator's result"
unfoldable pub held : List Part → Answer (List Part)
held L = or_else 11 (fits L) (done L)

-- ".. or after some AND prefix"
unfoldable pub prefixes : List Part → List (List Part) → Answer (List Part)
prefixes L [] = done L
prefixes L (K ∷ Ks) = held (bitand L K) >>= λ J. prefixes J Ks

-- "9: .. AND under two terms"
unfoldable pub and_of : List (List Part) → Answer (List Part)
and_of [] = refused 9 0
and_of (L ∷ []) = refused 9 0
and_of (L ∷ K ∷ Ks) = prefixes L (K ∷ Ks)

-- "9: empty ANDOR", "10: ANDOR over 12 factors"
unfoldable pub andor_of : List (List Part) → Answer (List Part)
andor_of [] = refused 9 0
andor_of (L ∷ Ls) = or_else 10 (leb (length (L ∷ Ls)) most_factors) (held (andor (L ∷ Ls)))

unfoldable pub oneof_of : List (List Part) → Answer (List Part)
oneof_of Ls = held (oneof Ls)
