-- Parts: what document 01 and the comments of complex_entity.rs say of one part.
use Rattle.std.specs.Prelude.{List, [], ◌∷◌, ◌++◌, Bool, true, false, cond, ◌&&◌, ◌||◌, length, leb, eqb}
use Rattle.std.proofs.Math.Option.{Option, none, some}
use Prim.Native.Nat.{ℕ, suc, compare, Ordering}
use Rattle.refusal.specs.MeaningAnswer.{Answer, done, refused, or_else}
use Rattle.complex_entity.specs.MeaningSets.{tidy}

-- "Sorted and non-duplicated indices": a part is the strictly rising list of its names
abbrev pub Part : Type 0
Part = List ℕ

-- "a part has at most 12 names"
abbrev pub most_names : ℕ
most_names = 12

-- "strictly rising indices 0 to 255"
abbrev pub last_index : ℕ
last_index = 255

-- ---- the order

-- the first answer that is not "equal"
abbrev pub then : Ordering → Ordering → Ordering
then Ordering.lt o = Ordering.lt
then Ordering.eq o = o
then Ordering.gt o = Ordering.gt

-- lists compared: the first difference decides, and a list comes after what it starts with
abbrev pub lex : List ℕ → List ℕ → Ordering
lex [] [] = Ordering.eq
lex [] (y ∷ ys) = Ordering.lt
lex (x ∷ xs) [] = Ordering.gt
lex (x ∷ xs) (y ∷ ys) = then (compare x y) (lex xs ys)

-- "Part order: fewer names first, then the index lists compared."
abbrev pub order : Part → Part → Ordering
order p q = then (compare (length p) (length q)) (lex p q)

-- ---- making and joining

-- "Create from single index"
abbrev pub single : ℕ → Part
single n = n ∷ []

-- "A & B": the names of both, sorted without repeats
abbrev pub join : Part → Part → Part
join p q = tidy compare (p ++ q)

-- "11: a part over 12 names"
abbrev pub narrow : Part → Bool
narrow p = leb (length p) most_names

unfoldable pub join_of : Part → Part → Answer Part
join_of p q = or_else 11 (narrow (join p q)) (done (join p q))

-- "`new`: neighbouring repeats are dropped": what comes after x
abbrev pub after : ℕ → List ℕ → List ℕ
after x [] = []
after x (y ∷ l) = cond (eqb x y) (after x l) (y ∷ after y l)

abbrev pub dedup : List ℕ → List ℕ
dedup [] = []
dedup (x ∷ l) = x ∷ after x l

-- "a falling index, or one over 255": the place of the first, where x came before
abbrev pub moved : Option ℕ → Option ℕ
moved none = none
moved (some i) = some (suc i)

abbrev pub bad_after : ℕ → List ℕ → Option ℕ
bad_after x [] = none
bad_after x (y ∷ l) = cond (leb x y && leb y last_index) (moved (bad_after y l)) (some 0)

-- ".. refused with 15 at its place; over 12 names 11"; before the first nothing can fall
abbrev pub unless_bad : Option ℕ → Answer Part → Answer Part
unless_bad none r = r
unless_bad (some i) r = refused 15 i

unfoldable pub new_of : List ℕ → Answer Part
new_of l = unless_bad (bad_after 0 l) (or_else 11 (narrow (dedup l)) (done (dedup l)))

-- ---- what contains what

abbrev pub has_name : Part → ℕ → Bool
has_name [] n = false
has_name (m ∷ p) n = eqb m n || has_name p n

-- p contains q: each name of q is a name of p
abbrev pub contains : Part → Part → Bool
contains p [] = true
contains p (n ∷ q) = has_name p n && contains p q
