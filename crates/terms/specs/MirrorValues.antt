-- A node's list as the code makes it: term by term, each term's list taken in by the node's kind.
use Rattle.std.specs.Prelude.{◌≡◌, List, cond, ℕ, zero, suc, ◌*◌, length, take, leb, Result, Ok, Err}
use Rattle.std.proofs.Math.Option.{Option, none, some}
use Rattle.refusal.specs.MeaningAnswer.{Answer, done, refused, mapped, ◌>>=◌}
use Rattle.complex_entity.specs.MeaningParts.{Part}
use Rattle.complex_entity.specs.MeaningLists.{add, bitand, held, most_factors, oneof_of, and_of, andor_of}
use Rattle.complex_entity.specs.MirrorLists.{grown}
use Rattle.complex_entity.specs.MeaningRows as rows
use Rattle.refusal.specs.declared.Refusal.{Refusal}
use Rattle.refusal.specs.Told.{told_by}
use Rattle.instantiables.specs.declared.Instantiables.{Instantiables}
use Rattle.expression.specs.declared.Kind.{Kind}
use Rattle.expression.specs.declared.Kind.TheVariants.{Reference, Andor, And, Oneof}
use Rattle.rows.specs.MirrorRows.{parts_at, Stands}
use Rattle.instantiables.specs.MirrorRows.{Sets}
use Rattle.expression.specs.MeaningExpression.{Terms, values}

-- ---- what stands in the lent memory

-- the rows of L stand at the front. What stands past them is not said: the terms' lists were valued there
abbrev pub Front : List Part → List ℕ → Type 0
Front L l = take (13 * length L) l ≡ rows.flat L

abbrev pub FrontIf : Answer (List Part) → List ℕ → Type 0
FrontIf (done L) l = Front L l
FrontIf (refused n place) l = Unit {0}

-- what is answered is how many parts the list has, and its rows stand at the front
pub record Valuing (o : Answer (List Part)) (l : List ℕ) (r : Answer ℕ) : Type 0 where
  pub says : r ≡ mapped length o
  pub stands : FrontIf o l

-- the list so far, where no limit is passed
abbrev pub list_at : Result Instantiables Refusal → List ℕ → Answer (List Part)
list_at r l = told_by (λ (L : Instantiables). parts_at L.count l) r

-- it can be worked on
unfoldable pub Ready : Result Instantiables Refusal → List ℕ → Type 0
Ready (Ok L) l = Stands l L.count × Sets (parts_at L.count l)
Ready (Err why) l = Unit {0}

-- ---- by the node's kind

-- the list at a node, of the lists of its terms. A reference has none, and would be a ONEOF of none
unfoldable pub at_node : Kind → List (List Part) → Answer (List Part)
at_node Reference Ls = oneof_of Ls
at_node Andor Ls = andor_of Ls
at_node And Ls = and_of Ls
at_node Oneof Ls = oneof_of Ls

unfoldable pub node_of : Kind → Terms ℕ → Answer (List Part)
node_of kind t = values t >>= at_node kind

-- K is the list of the n terms so far: one term more, whose list is L
unfoldable pub taken_in : Kind → ℕ → List Part → List Part → Answer (List Part)
taken_in Reference n K L = held (add K L)
taken_in Andor n K L = held (grown K L)
taken_in And zero K L = done L
taken_in And (suc n) K L = held (bitand K L)
taken_in Oneof n K L = held (add K L)

unfoldable pub with_term : Kind → ℕ → Answer (List Part) → List Part → Answer (List Part)
with_term kind n o L = o >>= λ K. taken_in kind n K L

-- a node has so many terms at least
abbrev pub fewest : Kind → ℕ
fewest Reference = 0
fewest Andor = 1
fewest And = 2
fewest Oneof = 0

-- 9 and 10 at a node of n terms
unfoldable pub refusal_of : Kind → ℕ → Option ℕ
refusal_of Reference n = none
refusal_of Andor zero = some 9
refusal_of Andor (suc n) = cond (leb (suc n) most_factors) none (some 10)
refusal_of And zero = some 9
refusal_of And (suc zero) = some 9
refusal_of And (suc (suc n)) = none
refusal_of Oneof n = none

-- they come before 11, which is the list's
abbrev pub unless : {A : Type 0} → Option ℕ → Answer A → Answer A
unless none o = o
unless (some n) o = refused n 0
